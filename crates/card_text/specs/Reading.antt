-- What is known of a card, of any scheme, when its form has been checked and its bytes have been read. Assumes nothing.
use Rattle.std.specs.Prelude.{◌≡◌, refl, Err, IsErrAnd, length, take, drop, replicate}
use Rattle.std.proofs.Math.Path.{sym, ap, ap₂}
use Rattle.std.proofs.Common.{◌∙◌, lit<, length-append, take_at}
use mathlib.Core.List.{List, ◌∷◌, ◌++◌, append_assoc}
use Prim.Native.Nat.{ℕ, suc, ◌+◌, ◌-◌, ◌*◌, ◌≤◌}
use native.Mathlib.Omega.{arith}
use Rattle.std.proofs.lemmas.List.{length-replicate}
use Rattle.slices.specs.Layout.{total}
use Rattle.banquet.specs.Shape.{message_limit, public_key_length, head_length, frame_sizes, signature_length}
use Rattle.banquet.specs.Scheme.{Scheme}
use Rattle.banquet.specs.declared.Refusal.{Refusal}
use Rattle.banquet.specs.Answer.{Answer, accepted, work_after, output_after}
use Rattle.banquet.specs.Calls.{checked, verify_answer}
use Rattle.banquet.specs.Card.{decoded, line_of, after_line, decoded_line, decoded_lines, check_lines, card_sizes, verify_card, verify_card_answer}
use Rattle.verdict.specs.Tests.{returned}
use Rattle.text_lines.specs.Form.{broken, first_line, other_lines, in_form, form_length, form_exact}
use Rattle.text_lines.specs.Parts.{middle, total_replicate}
use Rattle.card_sizes.specs.Lines.{lines_of, card_bytes, sizes_many}

module _ (𝓢 : Scheme) where
  open 𝓢.shape use {executions}

  abbrev pub form : List ℕ → Answer
  form text = check_lines 2 (card_sizes 𝓢.shape message_limit) 1 text accepted

  -- ---- a text that breaks its form

  pub card_broken : (text work : List ℕ) {a : Answer} → a ≡ form text → {refusal : Refusal} → a ≡ Err refusal
      → {r : Answer} → IsErrAnd r (λ e. e ≡ refusal) → checked r work ≡ verify_card 𝓢 text work
  unfolding verify_card_answer
  card_broken text work e h {r} up =
      let b = broken (card_sizes 𝓢.shape message_limit) 2 1 text (sym e ∙ h) in
      let answer : verify_card_answer 𝓢 text work ≡ form text = b.answer _ in
      ap₂ checked (returned r up ∙ sym h ∙ e ∙ sym answer) (sym (b.work work) ∙ ap (λ (x : Answer). work_after x work) (sym answer))

  -- ---- a text in form

  module _ (text : List ℕ) (h : form text ≡ accepted) where
    abbrev rest : List ℕ
    rest = after_line text

    abbrev key : List ℕ
    key = decoded (line_of text)

    abbrev message : List ℕ
    message = decoded (line_of rest)

    abbrev signature : List ℕ
    signature = decoded_lines (1 + executions) (after_line rest)

    abbrev sizes : List ℕ
    sizes = head_length ∷ replicate executions (total (frame_sizes 𝓢.shape))

    others : check_lines 2 (message_limit ∷ sizes) 2 rest accepted ≡ accepted
    others = other_lines 2 (public_key_length 𝓢.shape) (message_limit ∷ sizes) 1 text h

    key_long : length key ≡ public_key_length 𝓢.shape
    key_long = (first_line 2 (public_key_length 𝓢.shape) (message_limit ∷ sizes) 1 text h).exact refl

    pub message_long : length message ≤ message_limit
    message_long = (first_line 2 message_limit sizes 2 rest others).most

    signature_long : length signature ≡ signature_length 𝓢.shape
    signature_long =
        let frame = total (frame_sizes 𝓢.shape) in
        let lines : 1 + executions ≡ length sizes = omega (arith, length-replicate {A = ℕ} executions frame) in
        ap (λ (n : ℕ). length (decoded_lines n (after_line rest))) lines
        ∙ form_exact sizes 2 3 (after_line rest) (lit< tt) (other_lines 2 message_limit sizes 2 rest others)
        ∙ ap (head_length +◌) (total_replicate executions frame)

    whole : decoded_lines (lines_of 𝓢.shape) text ≡ key ++ (message ++ signature)
    unfolding decoded_lines
    whole =
        let two : lines_of 𝓢.shape ≡ suc (suc (1 + executions)) = omega arith in
        ap (λ (n : ℕ). decoded_lines n text) two

    -- two digits a byte, and an end for each line
    pub text_long : length text ≡ 2 * card_bytes 𝓢.shape (length message) + lines_of 𝓢.shape
    text_long =
        form_length (card_sizes 𝓢.shape message_limit) 2 1 text h
        ∙ omega (
          arith,
          sizes_many 𝓢.shape message_limit,
          ap (λ (n : ℕ). length (decoded_lines n text)) (sizes_many 𝓢.shape message_limit),
          ap length whole,
          length-append key (message ++ signature),
          length-append message signature,
          key_long,
          signature_long,
        )

    -- the answer is that of `verify`
    pub form_answer : (work : List ℕ) → verify_card_answer 𝓢 text work ≡ verify_answer 𝓢 key message signature work
    unfolding verify_card_answer decoded_line
    form_answer work = in_form (card_sizes 𝓢.shape message_limit) 2 1 text h _

    -- the parts of what was read: the message begins at a, the signature at b, and it ends at c
    module _ (bytes d : List ℕ) (e : bytes ≡ output_after accepted (decoded_lines (lines_of 𝓢.shape) text) d) {a b c : ℕ}
        (first : a ≡ public_key_length 𝓢.shape) (second : b ≡ a + length message) (third : c ≡ b + signature_length 𝓢.shape) where
      left : List ℕ
      left = drop (length (decoded_lines (lines_of 𝓢.shape) text)) d

      split : bytes ≡ key ++ (message ++ (signature ++ left))
      unfolding output_after left
      split = e ∙ ap (◌++ left) whole ∙ append_assoc key (message ++ signature) left ∙ ap (key ++◌) (append_assoc message signature left)

      pub key_part : take a bytes ≡ key
      key_part = ap (take a) split ∙ take_at key (message ++ (signature ++ left)) a (key_long ∙ sym first)

      pub message_part : take (b - a) (drop a bytes) ≡ message
      message_part = middle a b key message (signature ++ left) split (key_long ∙ sym first) (sym second)

      pub signature_part : take (c - b) (drop b bytes) ≡ signature
      signature_part =
          middle b c (key ++ message) signature left (split ∙ sym (append_assoc key message (signature ++ left)))
          (length-append key message ∙ omega (arith, key_long, first, second)) (omega (arith, signature_long, third))
