-- The steps of the check of a signature: what each is given, and what the hashes bind of each execution. Assumes nothing.
use Rattle.std.specs.Prelude.{◌≡◌, List, ◌∷◌, ℕ, ◌*◌, take}
use Rattle.slices.specs.Bytes.{Sized}
use Rattle.shake.specs.Shake128.{shake128}
use Rattle.banquet.specs.declared.Shape.{Shape}
use Rattle.banquet.specs.Shape.{public_key_length, first_challenge_length, signature_length}
use Rattle.banquet.specs.Sets.{scheme_of}
use Rattle.banquet.specs.Answer.{Answer, accepted, in_order}
use Rattle.banquet.specs.Hash.{second_hash}
use Rattle.banquet.specs.Signature.{
  signature_salt,
  signature_h1,
  signature_h3,
  frame_of,
  frame_part,
  frame_h1_part,
  frame_h3_part,
  hash_tests,
  check_signature,
}
use Rattle.sets.specs.Valid.{Valid}

-- a public key and a signature of the right lengths
pub record Files (S : Shape) (public_key s : List ℕ) : Type 0 where
  pub valid : Valid S
  pub public_sized : Sized (public_key_length S) public_key
  pub file_sized : Sized (signature_length S) s

module _ (S : Shape) (s : List ℕ) where
  -- the signature's own h2: "2: h1, all product offsets"
  abbrev pub h2_of : List ℕ
  h2_of = second_hash (scheme_of S) (signature_h1 s) (λ e. frame_part (scheme_of S) (frame_of (scheme_of S) s e) 4)

  -- "Every number drawn from 6, 7 or 8 ..": the bytes that are drawn for all executions, at the front of what is given
  pub record Drawn (firsts seconds thirds : List ℕ) : Type 0 where
    pub firsts_are : take (S.executions * first_challenge_length S) firsts ≡ shake128 (6 ∷ signature_h1 s) (S.executions * first_challenge_length S)
    pub seconds_are : take (S.executions * S.wide) seconds ≡ shake128 (7 ∷ h2_of) (S.executions * S.wide)
    pub thirds_are : take (S.executions * 4) thirds ≡ shake128 (8 ∷ signature_h3 s) (S.executions * 4)

  -- what h1 and h3 bind of execution e
  module _ (public_key : List ℕ) where
    abbrev pub first_part : ℕ → List ℕ
    first_part e = frame_h1_part (scheme_of S) public_key (signature_salt s) (signature_h3 s) e (frame_of (scheme_of S) s e)

    abbrev pub third_part : ℕ → List ℕ
    third_part e = frame_h3_part (scheme_of S) public_key (signature_salt s) (signature_h1 s) h2_of (signature_h3 s) e (frame_of (scheme_of S) s e)

-- numbers 16 and 17, and 15 before them, of a signature s
module _ (S : Shape) (public_key message s : List ℕ) where
  abbrev pub hashes_answer : Answer
  hashes_answer =
      in_order (hash_tests (scheme_of S) public_key message (signature_salt s) (signature_h1 s) (signature_h3 s) (frame_of (scheme_of S) s)) accepted

  abbrev pub signature_answer : Answer
  signature_answer = check_signature (scheme_of S) public_key message (signature_salt s) (signature_h1 s) (signature_h3 s) (frame_of (scheme_of S) s)
