-- A request to sign, in lines of hexadecimal as the card is: key, public key, message, salt and root seeds. What is written for it: a card, or the
-- refusal. Document 01 has no such text; number 18 stands for one that breaks its form.
use Rattle.std.specs.Prelude.{List, [], ◌∷◌, ℕ, ◌+◌, ◌*◌, eqb, replicate}
use Rattle.slices.specs.Lists.{choose}
use Rattle.slices.specs.Layout.{total}
use Rattle.banquet.specs.declared.Shape.{Shape}
use Rattle.banquet.specs.Shape.{message_limit, work_length, public_key_length, root_seeds_length, signature_length}
use Rattle.banquet.specs.Scheme.{Scheme}
use Rattle.banquet.specs.Answer.{Answer, verdict_of}
use Rattle.banquet.specs.Signature.{signature}
use Rattle.banquet.specs.Calls.{sign_answer}
use Rattle.banquet.specs.Card.{decoded_line, check_lines, card_text, printed}

module _ (S : Shape) where
  -- what each line stands for, with m bytes of message
  abbrev pub request_sizes : ℕ → List ℕ
  request_sizes m = 16 ∷ public_key_length S ∷ m ∷ 32 ∷ root_seeds_length S ∷ []

  -- the text: two digits a byte, and an end for each line
  abbrev pub request_length : ℕ → ℕ
  request_length m = 2 * total (request_sizes m) + 5

module _ (𝓢 : Scheme) where
  module _ (text : List ℕ) where
    unfoldable pub request_answer : Answer
    request_answer =
        check_lines 3 (request_sizes 𝓢.shape message_limit) 1 text
        (sign_answer 𝓢 (decoded_line 1 text) (decoded_line 2 text) (decoded_line 3 text) (decoded_line 4 text) (decoded_line 5 text)
        (replicate (signature_length 𝓢.shape) 0) (replicate work_length 0))

    unfoldable pub request_output : List ℕ
    request_output =
        choose (eqb (verdict_of request_answer).number 0)
        (card_text 𝓢 (decoded_line 2 text) (decoded_line 3 text)
        (signature 𝓢 (decoded_line 1 text) (decoded_line 2 text) (decoded_line 3 text) (decoded_line 4 text) (decoded_line 5 text)))
        (printed (verdict_of request_answer))
