-- What is asked of a circuit over shares for a cipher. That AES's circuit and the Even-Mansour form's are such stands in proofs/ (Agree, EvenMansour),
-- and what follows for any number of parties in proofs/Sound.
use Rattle.std.specs.Prelude.{◌≡◌, List, ℕ}
use Rattle.std.specs.Int.Bits.{bit_xor}
use Rattle.slices.specs.Lists.{zip_xor}
use Rattle.slices.specs.Bytes.{Bytes, Sized}
use Rattle.aes.specs.Aes.{key_expansion, sbox_inputs, aes, even_mansour_inputs, even_mansour}
use Rattle.circuit.specs.Circuit.{
  Share,
  share,
  plus,
  Inverted,
  input_shares,
  output_share,
  even_mansour_input_shares,
  even_mansour_output_share,
}

-- a number, and a list of numbers, that depend on a share
pub record Linear₁ (f : Share → ℕ) : Type 0 where
  pub adds₁ : (s t : Share) → f (plus s t) ≡ bit_xor (f s) (f t)

pub record Linear (f : Share → List ℕ) : Type 0 where
  pub adds : (s t : Share) → f (plus s t) ≡ zip_xor (f s) (f t)

-- a circuit's inputs x and output r are the cipher's
pub record Same (x x' r r' : List ℕ) : Type 0 where
  pub same_inputs : x ≡ x'
  pub same_output : r ≡ r'

-- A cipher of m S-boxes takes a key to the S-boxes' inputs `given key` and the output `encrypted key`; a circuit takes a share to the shares
-- `inputs` and `output`. It is linear, its shares have their sizes, and for the whole key it is the cipher where y holds the inverses of the
-- circuit's own inputs, or of the cipher's.
pub record IsCircuit (m : ℕ) (given encrypted : List ℕ → List ℕ) (inputs output : Share → List ℕ) : Type 0 where
  pub inputs_linear : Linear inputs
  pub output_linear : Linear output
  pub inputs_sized : (s : Share) → Bytes s.key → Sized m (inputs s)
  pub output_sized : (s : Share) → Bytes s.key → Sized 16 (output s)
  pub own_inverses : (key y : List ℕ) → Inverted m (inputs (share 1 key y)) y
      → Same (inputs (share 1 key y)) (given key) (output (share 1 key y)) (encrypted key)
  pub true_inverses_lem : (key y : List ℕ) → Inverted m (given key) y
      → Same (inputs (share 1 key y)) (given key) (output (share 1 key y)) (encrypted key)

-- for a key, and a y that stands for the inverses, the circuit is AES
abbrev pub IsAes : List ℕ → List ℕ → List ℕ → Type 0
IsAes plaintext key y =
    Same (input_shares plaintext (share 1 key y)) (sbox_inputs key plaintext) (output_share (share 1 key y)) (aes key plaintext)

-- the same of the Even-Mansour form under a key of AES and a plaintext x
abbrev pub IsEvenMansour : List ℕ → List ℕ → List ℕ → List ℕ → Type 0
IsEvenMansour aes_key x key y =
    Same (even_mansour_input_shares (key_expansion aes_key) x (share 1 key y)) (even_mansour_inputs aes_key x key)
    (even_mansour_output_share (key_expansion aes_key) (share 1 key y)) (even_mansour aes_key x key)
