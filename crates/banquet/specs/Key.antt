-- Public keys, and whether a key is good for one.
use Rattle.std.specs.Prelude.{List, ◌++◌, ℕ, eqb, take, drop}
use Rattle.slices.specs.Lists.{same}
use Rattle.aes.specs.Aes.{first_zero}
use Rattle.banquet.specs.declared.Refusal.TheVariants.{ZeroInput, WrongKey}
use Rattle.banquet.specs.Shape.{sboxes}
use Rattle.banquet.specs.Scheme.{Scheme}
use Rattle.banquet.specs.Answer.{Answer, require}

module _ (𝓢 : Scheme) where
  -- "public key (plaintext 16 bytes, ciphertext 16 bytes)"
  abbrev pub front_of : List ℕ → List ℕ
  front_of public_key = take 𝓢.shape.front public_key

  abbrev pub ciphertext_of : List ℕ → List ℕ
  ciphertext_of public_key = drop 𝓢.shape.front public_key

  -- "make a public key (from key and plaintext)"
  unfoldable pub public_key_of : List ℕ → List ℕ → List ℕ
  public_key_of key front = front ++ 𝓢.circuit.encrypt front key

  -- the lowest S-box with a zero input, or the number of S-boxes where there is none
  abbrev pub zero_input : List ℕ → List ℕ → ℕ
  zero_input front key = first_zero (𝓢.circuit.sbox_inputs front key)

  -- Number 11: "Some S-box input under the lent key is zero; place is the lowest S-box."
  unfoldable pub check_inputs : List ℕ → List ℕ → Answer → Answer
  check_inputs front key rest = require (eqb (zero_input front key) (sboxes 𝓢.shape)) (ZeroInput (zero_input front key)) rest

  -- Number 11, and then 12: "The key doesn't take the plaintext to the ciphertext."
  unfoldable pub check_key : List ℕ → List ℕ → Answer → Answer
  check_key public_key key rest =
      check_inputs (front_of public_key) key
      (require (same (𝓢.circuit.encrypt (front_of public_key) key) (ciphertext_of public_key)) WrongKey rest)
