-- Card text: "lower-case hexadecimal, one frame a line, each line ended by byte 0x0A: public key, message (may be empty, at most 65,536 digits), the
-- 96 head bytes, 41 frames; then nothing. It prints `accepted`, or `refused`, number, place, with single spaces and a line end."
use Rattle.std.specs.Prelude.{◌≡◌, refl, Err, Bool, true, false, ◌&&◌, List, [], ◌∷◌, ◌++◌, length, take, drop, replicate}
use Rattle.std.specs.Prelude.{ℕ, zero, suc, ◌+◌, ◌-◌, ◌*◌, ◌/◌, ◌%◌, eqb, ltb, leb}
use Rattle.slices.specs.Lists.{choose}
use Rattle.slices.specs.Layout.{total}
use Rattle.banquet.specs.declared.Shape.{Shape}
use Rattle.banquet.specs.declared.Symbol.{Symbol}
use Rattle.banquet.specs.declared.Symbol.TheVariants.{Value, LineEnd, Other}
use Rattle.banquet.specs.declared.Verdict.{Verdict}
use Rattle.banquet.specs.declared.Refusal.TheVariants.{TextForm}
use Rattle.banquet.specs.Shape.{message_limit, work_length, public_key_length, head_length, frame_sizes}
use Rattle.banquet.specs.Scheme.{Scheme}
use Rattle.banquet.specs.Answer.{Answer, require, verdict_of}
use Rattle.banquet.specs.Calls.{Checked, checked_after, verify_answer}

-- ---- digits

abbrev pub within : ℕ → ℕ → ℕ → Bool
within first last b = leb first b && leb b last

-- "byte ranges for digits, letters, line end and anything else": 0 to 9, a to f, 0x0A
unfoldable pub symbol_of : ℕ → Symbol
symbol_of b =
    choose (within 0x30 0x39 b) (Value (b - 0x30)) (choose (within 0x61 0x66 b) (Value (b - 0x61 + 10)) (choose (eqb b 0x0a) LineEnd Other))

unfoldable pub is_digit : Symbol → Bool
is_digit (Value v) = true
is_digit LineEnd = false
is_digit Other = false

-- a digit's value; 0 for what is none
unfoldable pub value_of : Symbol → ℕ
value_of (Value v) = v
value_of LineEnd = 0
value_of Other = 0

unfoldable pub all_digits : List ℕ → Bool
all_digits [] = true
all_digits (b ∷ s) = is_digit (symbol_of b) && all_digits s

-- two digits a byte, the high one first
unfoldable pub decoded : List ℕ → List ℕ
decoded [] = []
decoded (a ∷ []) = []
decoded (a ∷ b ∷ s) = (16 * value_of (symbol_of a) + value_of (symbol_of b)) ∷ decoded s

-- the digit of a value below 16
unfoldable pub digit_of : ℕ → ℕ
digit_of v = choose (ltb v 10) (0x30 + v) (0x61 + (v - 10))

-- "lower-case hexadecimal": two digits a byte, the high one first
unfoldable pub encoded : List ℕ → List ℕ
encoded [] = []
encoded (b ∷ s) = digit_of (b / 16) ∷ digit_of (b % 16) ∷ encoded s

-- ---- lines

-- the first line of a text without its end, which is everything where there is no end
unfoldable pub line_of : List ℕ → List ℕ
line_of [] = []
line_of (b ∷ text) = choose (eqb b 0x0a) [] (b ∷ line_of text)

-- what stands behind the first line and its end
abbrev pub after_line : List ℕ → List ℕ
after_line text = drop (suc (length (line_of text))) text

-- "each line ended by byte 0x0A"
abbrev pub is_ended : List ℕ → Bool
is_ended text = ltb (length (line_of text)) (length text)

-- what line n of a text stands for, where the first is line 1
unfoldable pub decoded_line : ℕ → List ℕ → List ℕ
decoded_line zero text = []
decoded_line (suc zero) text = decoded (line_of text)
decoded_line (suc (suc n)) text = decoded_line (suc n) (after_line text)

-- what the first n lines stand for, one after the other
unfoldable pub decoded_lines : ℕ → List ℕ → List ℕ
decoded_lines zero text = []
decoded_lines (suc n) text = decoded (line_of text) ++ decoded_lines n (after_line text)

-- bytes written in lines of these sizes
unfoldable pub encoded_lines : List ℕ → List ℕ → List ℕ
encoded_lines [] s = []
encoded_lines (size ∷ sizes) s = encoded (take size s) ++ (0x0a ∷ encoded_lines sizes (drop size s))

-- ---- the form of a text

-- A line stands for half as many bytes as it has digits: for `size`, or for at most so many where it may be shorter.
unfoldable pub has_size : Bool → ℕ → ℕ → Bool
has_size shorter size digits = eqb (digits % 2) 0 && choose shorter (leb (digits / 2) size) (eqb (digits / 2) size)

-- the text begins with such a line
unfoldable pub is_line : Bool → ℕ → List ℕ → Bool
is_line shorter size text = is_ended text && (all_digits (line_of text) && has_size shorter size (length (line_of text)))

-- Number 18: "place is the first bad line, 45 for bytes after the last". The text begins with line n, and lines of these sizes are due, of which line
-- `message` may be shorter: where none is due, the text has to be empty.
unfoldable pub check_lines : ℕ → List ℕ → ℕ → List ℕ → Answer → Answer
check_lines message [] n text rest = require (eqb (length text) 0) (TextForm n) rest
check_lines message (size ∷ sizes) n text rest =
    require (is_line (eqb n message) size text) (TextForm n) (check_lines message sizes (suc n) (after_line text) rest)

-- a text that is at its end where line n is due is bad at line n
pub missing_line : (message size : ℕ) (sizes : List ℕ) (n : ℕ) (rest : Answer) → check_lines message (size ∷ sizes) n [] rest ≡ Err (TextForm n)
unfolding check_lines is_line line_of require
missing_line message size sizes n rest = refl

-- ---- the card

-- "public key, message (may be empty, at most 65,536 digits), the 96 head bytes, 41 frames": what each line stands for, with m bytes of message
abbrev pub card_sizes : Shape → ℕ → List ℕ
card_sizes S m = public_key_length S ∷ m ∷ head_length ∷ replicate S.executions (total (frame_sizes S))

module _ (𝓢 : Scheme) where
  open 𝓢.shape use {executions}

  -- "this comes before all others": the answer to a card
  module _ (text work : List ℕ) where
    unfoldable pub verify_card_answer : Answer
    verify_card_answer =
        check_lines 2 (card_sizes 𝓢.shape message_limit) 1 text
        (verify_answer 𝓢 (decoded_line 1 text) (decoded_line 2 text) (decoded_lines (1 + executions) (after_line (after_line text))) work)

    abbrev pub verify_card : Checked
    verify_card = checked_after verify_card_answer work

  -- the text of a card, each line with its end
  unfoldable pub card_text : List ℕ → List ℕ → List ℕ → List ℕ
  card_text public_key message signature = encoded_lines (card_sizes 𝓢.shape (length message)) (public_key ++ (message ++ signature))

-- ---- what is printed

-- the decimal digits of x, by at most n divisions; x divisions are always enough
unfoldable pub decimal_in : ℕ → ℕ → List ℕ
decimal_in zero x = (0x30 + x) ∷ []
decimal_in (suc n) x = choose (ltb x 10) ((0x30 + x) ∷ []) (decimal_in n (x / 10) ++ ((0x30 + x % 10) ∷ []))

abbrev pub decimal : ℕ → List ℕ
decimal x = decimal_in x x

-- `accepted` and `refused`
abbrev pub accepted_word : List ℕ
accepted_word = 0x61 ∷ 0x63 ∷ 0x63 ∷ 0x65 ∷ 0x70 ∷ 0x74 ∷ 0x65 ∷ 0x64 ∷ []

abbrev pub refused_word : List ℕ
refused_word = 0x72 ∷ 0x65 ∷ 0x66 ∷ 0x75 ∷ 0x73 ∷ 0x65 ∷ 0x64 ∷ []

-- "`refused`, number, place, with single spaces and a line end"
unfoldable pub refusal_line : ℕ → ℕ → List ℕ
refusal_line number place = refused_word ++ (0x20 ∷ (decimal number ++ (0x20 ∷ (decimal place ++ (0x0a ∷ [])))))

unfoldable pub printed : Verdict → List ℕ
printed v = choose (eqb v.number 0) (accepted_word ++ (0x0a ∷ [])) (refusal_line v.number v.place)

-- the whole output of the card program: "Empty input prints the whole output `refused 18 1`."
unfoldable pub card_output : Scheme → List ℕ → List ℕ
card_output 𝓢 text = printed (verdict_of (verify_card_answer 𝓢 text (replicate work_length 0)))
