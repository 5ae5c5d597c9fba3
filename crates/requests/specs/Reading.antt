-- What is known of a request to sign, of any scheme, when its form has been checked and its bytes have been read. Assumes nothing.
use Rattle.std.specs.Prelude.{◌≡◌, Err, ℕ, ◌+◌, ◌-◌, ◌≤◌, length, take, drop, replicate}
use Rattle.std.proofs.Math.Path.{refl, sym}
use Rattle.std.proofs.Common.{ap, ◌∙◌, arith, length-append, take_at}
use mathlib.Core.List.{List, [], ◌∷◌, ◌++◌, append_assoc}
use Rattle.banquet.specs.declared.Refusal.{Refusal}
use Rattle.banquet.specs.Answer.{Answer, accepted}
use Rattle.banquet.specs.Shape.{message_limit, work_length, public_key_length, root_seeds_length, signature_length}
use Rattle.banquet.specs.Scheme.{Scheme}
use Rattle.banquet.specs.Calls.{sign_answer}
use Rattle.banquet.specs.Card.{after_line, decoded_line, decoded_lines, check_lines}
use Rattle.text_lines.specs.Form.{broken, first_line, other_lines, in_form, form_length}
use Rattle.text_lines.specs.Parts.{middle}
use Rattle.requests.specs.Requests.{request_sizes, request_length, request_answer}

module _ (𝓢 : Scheme) where
  -- how many bytes a public key has, and the root seeds
  abbrev P : ℕ
  P = public_key_length 𝓢.shape

  abbrev R : ℕ
  R = root_seeds_length 𝓢.shape

  abbrev pub form : List ℕ → Answer
  form text = check_lines 3 (request_sizes 𝓢.shape message_limit) 1 text accepted

  -- ---- a text that breaks its form

  module _ (text : List ℕ) {a : Answer} (e : a ≡ form text) {refusal : Refusal} (h : a ≡ Err refusal) where
    pub broken_answer : a ≡ request_answer 𝓢 text
    unfolding request_answer
    broken_answer = e ∙ sym ((broken (request_sizes 𝓢.shape message_limit) 3 1 text (sym e ∙ h)).answer _)

  -- ---- a text in form

  module _ (text : List ℕ) (h : form text ≡ accepted) where
    abbrev message : List ℕ
    message = decoded_line 3 text

    second : check_lines 3 (P ∷ message_limit ∷ 32 ∷ R ∷ []) 2 (after_line text) accepted ≡ accepted
    second = other_lines 3 16 (P ∷ message_limit ∷ 32 ∷ R ∷ []) 1 text h

    third : check_lines 3 (message_limit ∷ 32 ∷ R ∷ []) 3 (after_line (after_line text)) accepted ≡ accepted
    third = other_lines 3 P (message_limit ∷ 32 ∷ R ∷ []) 2 (after_line text) second

    fourth : check_lines 3 (32 ∷ R ∷ []) 4 (after_line (after_line (after_line text))) accepted ≡ accepted
    fourth = other_lines 3 message_limit (32 ∷ R ∷ []) 3 (after_line (after_line text)) third

    fifth : check_lines 3 (R ∷ []) 5 (after_line (after_line (after_line (after_line text)))) accepted ≡ accepted
    fifth = other_lines 3 32 (R ∷ []) 4 (after_line (after_line (after_line text))) fourth

    key_long : length (decoded_line 1 text) ≡ 16
    unfolding decoded_line
    key_long = (first_line 3 16 (P ∷ message_limit ∷ 32 ∷ R ∷ []) 1 text h).exact refl

    pub public_long : length (decoded_line 2 text) ≡ P
    unfolding decoded_line
    public_long = (first_line 3 P (message_limit ∷ 32 ∷ R ∷ []) 2 (after_line text) second).exact refl

    pub message_long : length message ≤ message_limit
    unfolding decoded_line
    message_long = (first_line 3 message_limit (32 ∷ R ∷ []) 3 (after_line (after_line text)) third).most

    salt_long : length (decoded_line 4 text) ≡ 32
    unfolding decoded_line
    salt_long = (first_line 3 32 (R ∷ []) 4 (after_line (after_line (after_line text))) fourth).exact refl

    seeds_long : length (decoded_line 5 text) ≡ R
    unfolding decoded_line
    seeds_long = (first_line 3 R [] 5 (after_line (after_line (after_line (after_line text)))) fifth).exact refl

    whole : decoded_lines 5 text
        ≡ decoded_line 1 text ++ (decoded_line 2 text ++ (message ++ (decoded_line 4 text ++ (decoded_line 5 text ++ []))))
    unfolding decoded_lines decoded_line
    whole = refl

    pub whole_long : length (decoded_lines 5 text) ≡ 16 + P + length message + 32 + R
    whole_long =
        ap length whole
        ∙ omega (
          arith,
          length-append (decoded_line 1 text) (decoded_line 2 text ++ (message ++ (decoded_line 4 text ++ (decoded_line 5 text ++ [])))),
          length-append (decoded_line 2 text) (message ++ (decoded_line 4 text ++ (decoded_line 5 text ++ []))),
          length-append message (decoded_line 4 text ++ (decoded_line 5 text ++ [])),
          length-append (decoded_line 4 text) (decoded_line 5 text ++ []),
          length-append (decoded_line 5 text) [],
          key_long,
          public_long,
          salt_long,
          seeds_long,
        )

    pub text_long : length text ≡ request_length 𝓢.shape (length message)
    text_long = form_length (request_sizes 𝓢.shape message_limit) 3 1 text h ∙ omega (arith, whole_long)

    -- the answer is that of `sign`
    pub form_answer : request_answer 𝓢 text
        ≡ sign_answer 𝓢 (decoded_line 1 text) (decoded_line 2 text) message (decoded_line 4 text) (decoded_line 5 text)
        (replicate (signature_length 𝓢.shape) 0) (replicate work_length 0)
    unfolding request_answer
    form_answer = in_form (request_sizes 𝓢.shape message_limit) 3 1 text h _

    -- the parts of what was read: where message, salt and root seeds begin, and where they end
    module _ (bytes left : List ℕ) (e : bytes ≡ decoded_lines 5 text ++ left) (start salt seeds end : ℕ) (first : start ≡ 16 + P)
        (at : salt ≡ start + length message) (next : seeds ≡ salt + 32) (to : end ≡ seeds + R) where
      abbrev first_two : List ℕ
      first_two = decoded_line 1 text ++ decoded_line 2 text

      abbrev first_three : List ℕ
      first_three = first_two ++ message

      first_two_long : length first_two ≡ start
      first_two_long = length-append (decoded_line 1 text) (decoded_line 2 text) ∙ omega (arith, key_long, public_long, first)

      first_three_long : length first_three ≡ salt
      first_three_long = length-append first_two message ∙ omega (arith, first_two_long)

      split : bytes ≡ decoded_line 1 text ++ (decoded_line 2 text ++ (message ++ (decoded_line 4 text ++ (decoded_line 5 text ++ left))))
      split = e ∙ ap (◌++ left) whole ∙ simp (append_assoc)

      split_two : bytes ≡ first_two ++ (message ++ (decoded_line 4 text ++ (decoded_line 5 text ++ left)))
      split_two =
          split ∙ sym (append_assoc (decoded_line 1 text) (decoded_line 2 text) (message ++ (decoded_line 4 text ++ (decoded_line 5 text ++ left))))

      split_three : bytes ≡ first_three ++ (decoded_line 4 text ++ (decoded_line 5 text ++ left))
      split_three = split_two ∙ sym (append_assoc first_two message (decoded_line 4 text ++ (decoded_line 5 text ++ left)))

      pub key_part : take 16 bytes ≡ decoded_line 1 text
      key_part = ap (take 16) split ∙ take_at (decoded_line 1 text) _ 16 key_long

      pub public_part : take (start - 16) (drop 16 bytes) ≡ decoded_line 2 text
      public_part = middle 16 start (decoded_line 1 text) (decoded_line 2 text) _ split key_long (omega (arith, public_long, first))

      pub message_part : take (salt - start) (drop start bytes) ≡ message
      message_part = middle start salt first_two message _ split_two first_two_long (sym at)

      pub salt_part : take (seeds - salt) (drop salt bytes) ≡ decoded_line 4 text
      salt_part = middle salt seeds first_three (decoded_line 4 text) _ split_three first_three_long (omega (arith, salt_long, next))

      pub seeds_part : take (end - seeds) (drop seeds bytes) ≡ decoded_line 5 text
      seeds_part =
          middle seeds end (first_three ++ decoded_line 4 text) (decoded_line 5 text) left
          (split_three ∙ sym (append_assoc first_three (decoded_line 4 text) (decoded_line 5 text ++ left)))
          (length-append first_three (decoded_line 4 text) ∙ omega (arith, first_three_long, salt_long, next)) (omega (arith, seeds_long, to))
