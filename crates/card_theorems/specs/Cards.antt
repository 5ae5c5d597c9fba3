-- The text of a card says what its bytes say, of any scheme. Assumes nothing.
use Rattle.std.proofs.Math.Path.{◌≡◌, refl, ap, ap₂}
use Rattle.std.proofs.Common.{sym, ◌∙◌}
use Rattle.std.specs.Prelude.{Err, Bool, ℕ, suc, ◌+◌, ◌*◌, ◌<◌, ◌≤◌, take, replicate}
use Rattle.std.proofs.Math.Bool.{true, false}
use mathlib.Core.List.{List, ◌∷◌, ◌++◌}
use native.Mathlib.Omega.{arith}
use Rattle.std.proofs.Math.ListN.{length}
use Rattle.std.proofs.lemmas.List.{length-replicate}
use Rattle.slices.specs.Lists.{choose}
use Rattle.slices.specs.Layout.{total}
use Rattle.slices.specs.Bytes.{Bytes, Sized}
use Rattle.banquet.specs.declared.Shape.{Shape}
use Rattle.banquet.specs.declared.Refusal.TheVariants.{TextForm}
use Rattle.banquet.specs.Shape.{message_limit, public_key_length, head_length, frame_sizes, signature_length}
use Rattle.banquet.specs.Scheme.{Scheme}
use Rattle.banquet.specs.Answer.{Answer, require}
use Rattle.banquet.specs.Calls.{verify_answer}
use Rattle.banquet.specs.Card.{
  decoded,
  encoded,
  line_of,
  after_line,
  decoded_line,
  decoded_lines,
  encoded_lines,
  is_line,
  check_lines,
  card_sizes,
  verify_card_answer,
  card_text,
}
use Rattle.text_lines.specs.Form.{Misfits, no_line}
use Rattle.text_lines.specs.Parts.{total_replicate}
use Rattle.text_lines.specs.Written.{line_read, after_written, check_line, lines_check, lines_read, lines_split}
use Rattle.text_lines.specs.Cut.{cut_answer}

-- the bytes of a card's text with m bytes of message: two digits a byte, and an end a line
abbrev pub card_length : Shape → ℕ → ℕ
card_length S m = 2 * total (card_sizes S m) + length (card_sizes S m)

module _ (𝓢 : Scheme) where
  open 𝓢.shape use {executions}

  -- the lines of the signature
  abbrev sizes : List ℕ
  sizes = head_length ∷ replicate executions (total (frame_sizes 𝓢.shape))

  -- What is written as a card is read as what it was written from.
  module _ (public_key message s : List ℕ) (p : Sized (public_key_length 𝓢.shape) public_key) (m : Bytes message)
      (short : length message ≤ message_limit) (h : Sized (signature_length 𝓢.shape) s) where
    unfoldable third : List ℕ
    third = encoded_lines sizes s

    unfoldable second : List ℕ
    second = encoded message ++ (0x0a ∷ third)

    unfoldable text : List ℕ
    text = encoded public_key ++ (0x0a ∷ second)

    card_is : card_text 𝓢 public_key message s ≡ text
    unfolding card_text third second text
    card_is =
        ap (λ (n : ℕ). encoded_lines (n ∷ length message ∷ sizes) (public_key ++ (message ++ s))) (sym p.size)
        ∙ lines_split public_key (message ++ s) (length message ∷ sizes)
        ∙ ap (λ (t : List ℕ). encoded public_key ++ (0x0a ∷ t)) (lines_split message s sizes)

    long : length s ≡ total sizes
    long = h.size ∙ sym (ap (head_length +◌) (total_replicate executions (total (frame_sizes 𝓢.shape))))

    lines : length sizes ≡ 1 + executions
    lines = ap suc (length-replicate executions (total (frame_sizes 𝓢.shape))) ∙ omega arith

    after_first : after_line text ≡ second
    unfolding text
    after_first = after_written public_key second p.bytes

    after_second : after_line second ≡ third
    unfolding second
    after_second = after_written message third m

    first_read : decoded (line_of text) ≡ public_key
    unfolding text
    first_read = line_read public_key second p.bytes

    second_read : decoded (line_of (after_line text)) ≡ message
    unfolding second
    second_read = ap (λ (t : List ℕ). decoded (line_of t)) after_first ∙ line_read message third m

    third_read : decoded_lines (1 + executions) (after_line (after_line text)) ≡ s
    unfolding third
    third_read = ap₂ decoded_lines (sym lines) (ap after_line after_first ∙ after_second) ∙ lines_read sizes s h.bytes long

    in_form : (rest : Answer) → check_lines 2 (card_sizes 𝓢.shape message_limit) 1 text rest ≡ rest
    unfolding text second third
    in_form rest =
        check_line 2 (public_key_length 𝓢.shape) (message_limit ∷ sizes) 1 public_key second rest p.bytes (omega (arith, p.size)) (λ _. p.size)
        ∙ check_line 2 message_limit sizes 2 message third rest m short (λ e. absurd (true_false e))
        ∙ lines_check sizes 2 3 s rest h.bytes long
      where
        true_false : true ≡ false → ⊥
        true_false e = let z : ◌≡◌ {A = ℕ} 1 0 = ap (λ (b : Bool). choose b 1 0) e in omega arith

    text_read : (work : List ℕ) → verify_card_answer 𝓢 text work ≡ verify_answer 𝓢 public_key message s work
    unfolding verify_card_answer decoded_line
    text_read work =
        in_form
        (verify_answer 𝓢 (decoded (line_of text)) (decoded (line_of (after_line text))) (decoded_lines (1 + executions) (after_line (after_line text))) work)
        ∙ ap
        (λ (x : List ℕ). verify_answer 𝓢 x (decoded (line_of (after_line text))) (decoded_lines (1 + executions) (after_line (after_line text))) work)
        first_read
        ∙ ap₂ (λ (x y : List ℕ). verify_answer 𝓢 public_key x y work) second_read third_read

    pub card_read : (work : List ℕ) → verify_card_answer 𝓢 (card_text 𝓢 public_key message s) work ≡ verify_answer 𝓢 public_key message s work
    card_read work = ap (λ (t : List ℕ). verify_card_answer 𝓢 t work) card_is ∙ text_read work

  -- The first line is in form, and the second has too many digits, or an odd count of them.
  pub second_line : (text work : List ℕ) → is_line false (public_key_length 𝓢.shape) text ≡ true
      → Misfits message_limit (length (line_of (after_line text))) → verify_card_answer 𝓢 text work ≡ Err (TextForm 2)
  unfolding verify_card_answer check_lines require
  second_line text work first wrong = rw (first, no_line true message_limit (after_line text) wrong) refl

  -- Of a text longer than every card the answer is that of its front.
  pub card_cut : (k : ℕ) (text work : List ℕ) → card_length 𝓢.shape message_limit < k
      → verify_card_answer 𝓢 (take k text) work ≡ verify_card_answer 𝓢 text work
  unfolding verify_card_answer
  card_cut k text work h =
      cut_answer (card_sizes 𝓢.shape message_limit) 2 k text
      (λ t. verify_answer 𝓢 (decoded_line 1 t) (decoded_line 2 t) (decoded_lines (1 + executions) (after_line (after_line t))) work) h
