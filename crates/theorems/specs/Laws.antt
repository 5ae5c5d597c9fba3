-- What the theorems ask of a scheme: of its parameter set, of its hash, of its fields and of its circuit. Sets.antt shows it of each set.
use Rattle.std.specs.Prelude.{List, ℕ, suc, ◌*◌, ◌^◌, ◌≤◌, ◌<◌}
use Rattle.slices.specs.Bytes.{Sized}
use Rattle.field.specs.Field.{IsField}
use Rattle.field.specs.Lift.{IsEmbedding}
use Rattle.field.specs.Byte.{mul8}
use Rattle.circuit.specs.Law.{IsCircuit}
use Rattle.banquet.specs.Shape.{sboxes}
use Rattle.banquet.specs.Scheme.{Scheme, wide_mul, lifted}

pub record Laws (𝓢 : Scheme) : Type 0 where
  -- of the hash nothing but that it gives as many bytes as are asked for
  pub hash_sized : (m : List ℕ) (n : ℕ) → Sized n (𝓢.hash m n)
  pub field : IsField (8 * 𝓢.shape.wide) (wide_mul 𝓢)
  pub embedding : IsEmbedding 8 mul8 (8 * 𝓢.shape.wide) (wide_mul 𝓢) (lifted 𝓢)
  pub circuit : {f : List ℕ} → Sized 𝓢.shape.front f
      → IsCircuit (sboxes 𝓢.shape) (𝓢.circuit.sbox_inputs f) (𝓢.circuit.encrypt f) (𝓢.circuit.input_shares f) (𝓢.circuit.output_share f)
  pub some_party : 0 < 𝓢.shape.parties
  pub enough_leaves : 𝓢.shape.parties ≤ 2 ^ 𝓢.shape.depth
  pub enough_points : suc (2 * 𝓢.shape.m2) ≤ 2 ^ (8 * 𝓢.shape.wide)
