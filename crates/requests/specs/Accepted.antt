-- The card that is written for a request is accepted, and a request need not be read beyond the longest there is. Assumes nothing.
use Rattle.std.specs.Prelude.{◌≡◌, ◌⊎◌, Bool, false, List, [], ◌∷◌, ◌++◌, ℕ, zero, suc, ◌+◌, ◌<◌, eqb, length, take, replicate}
use Rattle.std.proofs.Common.{sym, ap, ◌∙◌, inl, inr, arith, take_all}
use Rattle.std.proofs.Math.Decide.{dec_lt}
use Rattle.slices.specs.Lists.{choose}
use Rattle.slices.specs.Bytes.{Bytes, nil_bytes}
use Rattle.banquet.specs.Shape.{message_limit, work_length, signature_length}
use Rattle.banquet.specs.Answer.{Answer, accepted, verdict_of}
use Rattle.banquet.specs.Signature.{signature}
use Rattle.banquet.specs.Calls.{sign_answer}
use Rattle.banquet.specs.Card.{after_line, line_of, decoded_line, check_lines, card_text, accepted_word, printed, card_output}
use Rattle.banquet.specs.Sets.{base, base_scheme}
use Rattle.hex_digits.specs.Hex.{decoded_bytes}
use Rattle.text_lines.specs.Form.{Broken, form_or_broken, form_split, form_length, form_most}
use Rattle.text_lines.specs.Cut.{cut_answer}
use Rattle.card_theorems.proofs.BaseCards.{signed_card_accepted}
use Rattle.requests.specs.Requests.{request_sizes, request_length, request_answer, request_output}

pub line_bytes : (n : ℕ) (text : List ℕ) → Bytes (decoded_line n text)
unfolding decoded_line
line_bytes zero text = nil_bytes
line_bytes (suc zero) text = decoded_bytes (line_of text)
line_bytes (suc (suc n)) text = line_bytes (suc n) (after_line text)

abbrev sizes : List ℕ
sizes = request_sizes base message_limit

-- what is asked of a text in form
abbrev asked : List ℕ → Answer
asked text =
    sign_answer base_scheme (decoded_line 1 text) (decoded_line 2 text) (decoded_line 3 text) (decoded_line 4 text) (decoded_line 5 text)
    (replicate (signature_length base) 0) (replicate work_length 0)

abbrev card : List ℕ → List ℕ
card text =
    card_text base_scheme (decoded_line 2 text) (decoded_line 3 text)
    (signature base_scheme (decoded_line 1 text) (decoded_line 2 text) (decoded_line 3 text) (decoded_line 4 text) (decoded_line 5 text))

-- Of what is written for a request that isn't refused the card program prints `accepted`.
pub request_accepted : (text : List ℕ) → request_answer base_scheme text ≡ accepted
    → card_output base_scheme (request_output base_scheme text) ≡ accepted_word ++ (0x0a ∷ [])
unfolding request_answer request_output
request_accepted text acc =
    ap (λ (a : Answer). card_output base_scheme (choose (eqb (verdict_of a).number 0) (card text) (printed (verdict_of a)))) acc
    ∙ signed_card_accepted (decoded_line 1 text) (decoded_line 2 text) (decoded_line 3 text) (decoded_line 4 text) (decoded_line 5 text)
    (replicate (signature_length base) 0) (replicate work_length 0) (line_bytes 1 text) (line_bytes 2 text) (line_bytes 3 text) (line_bytes 4 text)
    (form_split sizes 3 1 text (asked text) acc).1

refused_output : (text : List ℕ) → eqb (verdict_of (request_answer base_scheme text)).number 0 ≡ false
    → request_output base_scheme text ≡ printed (verdict_of (request_answer base_scheme text))
unfolding request_output
refused_output text e = ap (λ (x : Bool). choose x (card text) (printed (verdict_of (request_answer base_scheme text)))) e

-- the longest request, and one byte more: what stands behind so many bytes of a text has no part in what is written for it
abbrev pub read_most : ℕ
read_most = request_length base message_limit + 1

pub request_cut : (text : List ℕ) → request_output base_scheme (take read_most text) ≡ request_output base_scheme text
unfolding request_answer
request_cut text = go (dec_lt (length text) read_most) (form_or_broken sizes 3 1 text)
  where
    same : request_answer base_scheme (take read_most text) ≡ request_answer base_scheme text
    same = cut_answer sizes 3 read_most text asked (omega arith)

    go : Dec (length text < read_most) → (check_lines 3 sizes 1 text accepted ≡ accepted) ⊎ Broken (check_lines 3 sizes 1 text)
        → request_output base_scheme (take read_most text) ≡ request_output base_scheme text
    go (yes l) f = ap (request_output base_scheme) (take_all read_most text (omega arith))
    go (no l) (inl e) = absurd (omega (arith, form_length sizes 3 1 text e, form_most sizes 3 1 text e))
    go (no l) (inr b) =
        let e = ap (λ (a : Answer). eqb (verdict_of a).number 0) (b.answer (asked text)) ∙ b.refused in
        refused_output (take read_most text) (ap (λ (a : Answer). eqb (verdict_of a).number 0) same ∙ e)
        ∙ ap (λ (a : Answer). printed (verdict_of a)) same ∙ sym (refused_output text e)
