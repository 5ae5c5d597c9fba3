-- The parameter sets have the laws that the theorems ask for. Assumes nothing.
use Rattle.std.specs.Prelude.{List, ℕ, suc, ◌*◌, ◌^◌, ◌<◌, ◌≤◌, take, drop}
use Rattle.std.proofs.Common.{arith, lit<, lit≤, length-drop}
use Rattle.slices.specs.Bytes.{Sized, take_bytes, drop_bytes}
use Rattle.field.specs.WideField.{WideField}
use Rattle.field.proofs.Wide32.{wide32}
use Rattle.wide48.specs.Wide48.{wide48}
use Rattle.shake.proofs.Laws.{sized_shake}
use Rattle.circuit.specs.Law.{IsCircuit}
use Rattle.circuit.proofs.Agree.{aes_circuit_lem}
use Rattle.circuit.proofs.EvenMansour.{even_mansour_circuit_lem}
use Rattle.banquet.specs.declared.Shape.{Shape}
use Rattle.banquet.specs.Shape.{sboxes}
use Rattle.banquet.specs.Scheme.{Circuit}
use Rattle.banquet.specs.Sets.{
  aes_circuit,
  even_mansour_circuit,
  circuit_of,
  scheme_of,
  base,
  base_scheme,
  short,
  short_scheme,
  schedule_free,
  schedule_free_scheme,
}
use Rattle.theorems.specs.Laws.{Laws}

-- a circuit of n S-boxes, for the front f of a public key
abbrev pub CircuitLaws : List ℕ → ℕ → Circuit → Type 0
CircuitLaws f n c = IsCircuit n (c.sbox_inputs f) (c.encrypt f) (c.input_shares f) (c.output_share f)

-- a set has the laws by its wide field, its circuit and three bounds
module _ (S : Shape) {powers : List ℕ} where
  open S use {parties, depth, wide, low, y, m2, front}

  pub set_laws : WideField wide low y powers → ((f : List ℕ) → Sized front f → CircuitLaws f (sboxes S) (circuit_of front))
      → 0 < parties → parties ≤ 2 ^ depth → suc (2 * m2) ≤ 2 ^ (8 * wide) → Laws (scheme_of S)
  set_laws w c some leaves points = record {
    hash_sized = sized_shake;
    field = w.field;
    embedding = w.embedding;
    circuit = λ h. c _ h;
    some_party = some;
    enough_leaves = leaves;
    enough_points = points;
  }

-- ---- the sets

pub aes_laws : (f : List ℕ) → Sized 16 f → CircuitLaws f 200 aes_circuit
aes_laws f h = aes_circuit_lem f h.bytes h.size

even_mansour_laws : (f : List ℕ) → Sized 32 f → CircuitLaws f 160 even_mansour_circuit
even_mansour_laws f h =
    even_mansour_circuit_lem (take 16 f) (drop 16 f) (take_bytes 16 f h.bytes) (drop_bytes 16 f h.bytes)
    (rw length-drop (let e = h.size in omega arith))

pub base_laws : Laws base_scheme
base_laws = set_laws base wide32 aes_laws (lit< tt) (lit≤ tt) (lit≤ tt)

pub short_laws : Laws short_scheme
short_laws = set_laws short wide48 aes_laws (lit< tt) (lit≤ tt) (lit≤ tt)

pub schedule_free_laws : Laws schedule_free_scheme
schedule_free_laws = set_laws schedule_free wide32 even_mansour_laws (lit< tt) (lit≤ tt) (lit≤ tt)
