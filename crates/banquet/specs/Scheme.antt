-- What the scheme is built over: a parameter set, a hash, and a cipher with its circuit over shares.
use Rattle.std.specs.Prelude.{List, map, ℕ, ◌*◌}
use Rattle.field.specs.Ring.{mul}
use Rattle.field.specs.Lift.{lift}
use Rattle.field.specs.Byte.{inverse8}
use Rattle.field.specs.Wide.{ops, Element}
use Rattle.poly.specs.Field.{Ops}
use Rattle.aes.specs.Aes.{Good}
use Rattle.circuit.specs.Circuit.{Share}
use Rattle.banquet.specs.declared.Shape.{Shape}
use Rattle.banquet.specs.Shape.{sboxes}

-- `front` is the public key without the ciphertext: the plaintext (document 02, slip 14: AES key and x).
pub record Circuit : Type 0 where
  -- front, key: the bytes that are inverted, in S-box order; the ciphertext
  pub sbox_inputs : List ℕ → List ℕ → List ℕ
  pub encrypt : List ℕ → List ℕ → List ℕ
  -- front, a party's share of the key and of the inverses: its shares of the S-box inputs; its share of the ciphertext
  pub input_shares : List ℕ → Share → List ℕ
  pub output_share : List ℕ → Share → List ℕ

pub record Scheme : Type 0 where
  pub shape : Shape
  -- input, bytes that are asked for
  pub hash : List ℕ → ℕ → List ℕ
  pub circuit : Circuit

module _ (𝓢 : Scheme) where
  open 𝓢.shape use {wide, low, y}

  -- ---- keys

  -- "A good key for a public key (plaintext 16 bytes, ciphertext 16 bytes) meets no zero S-box input and takes the plaintext to the ciphertext."
  abbrev pub GoodKey : List ℕ → List ℕ → List ℕ → Type 0
  GoodKey front ciphertext key = Good (sboxes 𝓢.shape) (𝓢.circuit.sbox_inputs front key) (𝓢.circuit.encrypt front key) ciphertext

  -- "The S-box is inversion, then the FIPS 197 affine map": the inverses of all S-box inputs
  abbrev pub true_inverses : List ℕ → List ℕ → List ℕ
  true_inverses front key = map inverse8 (𝓢.circuit.sbox_inputs front key)

  -- ---- wide elements: "modulo X^32 + X^7 + X^3 + X^2 + 1"

  abbrev pub wide_mul : ℕ → ℕ → ℕ
  wide_mul = mul (8 * wide) low

  abbrev pub wide_ops : Ops ℕ
  wide_ops = ops (8 * wide) low

  abbrev pub Wide : ℕ → Type 0
  Wide = Element (8 * wide)

  -- "byte b lifts to the sum of its bits times powers of y"
  abbrev pub lifted : ℕ → ℕ
  lifted = lift 8 wide_mul y
