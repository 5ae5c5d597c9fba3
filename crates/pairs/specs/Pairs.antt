-- A line of key and plaintext, in hexadecimal as the card's lines are, for which a public key is made. Document 01 has no such text; number 18 stands
-- for a line that breaks its form.
use Rattle.std.specs.Prelude.{List, [], ◌∷◌, ℕ, ◌+◌, eqb, length, take, drop}
use Rattle.slices.specs.Lists.{choose}
use Rattle.banquet.specs.declared.Verdict.{Verdict}
use Rattle.banquet.specs.Answer.{Answer}
use Rattle.banquet.specs.Scheme.{Scheme}
use Rattle.banquet.specs.Key.{public_key_of}
use Rattle.banquet.specs.Calls.{Written, written_after, public_key_answer}
use Rattle.banquet.specs.Card.{decoded_line, encoded_lines, check_lines, refusal_line, printed}

module _ (𝓢 : Scheme) where
  open 𝓢.shape use {front}

  -- one line: 16 bytes of key, and the plaintext
  abbrev pub pair_sizes : List ℕ
  pair_sizes = (16 + front) ∷ []

  module _ (text : List ℕ) where
    abbrev pub pair_key : List ℕ
    pair_key = take 16 (decoded_line 1 text)

    abbrev pub pair_plaintext : List ℕ
    pair_plaintext = drop 16 (decoded_line 1 text)

    module _ (output : List ℕ) where
      unfoldable pub pair_answer : Answer
      pair_answer = check_lines 0 pair_sizes 1 text (public_key_answer 𝓢 pair_key pair_plaintext output)

      abbrev pub make_pair : Written
      make_pair = written_after pair_answer (public_key_of 𝓢 pair_key pair_plaintext) output

-- what is written for line n: the public key, or the refusal, whose place is n where the line breaks its form
unfoldable pub pair_line : Verdict → List ℕ → ℕ → List ℕ
pair_line v public_key n =
    choose (eqb v.number 0) (encoded_lines (length public_key ∷ []) public_key)
    (choose (eqb v.number 18) (refusal_line 18 n) (printed v))
