-- The laws of specs/WideField: a wide field with the lift of bytes into it follows from what is computed of its numbers. Assumes nothing.
use Rattle.std.specs.Prelude.{List}
use Rattle.std.proofs.Math.Path.{refl, ap}
use Rattle.std.proofs.Common.{sym, pow_pos}
use Prim.Native.Nat.{ℕ, suc, ◌*◌, ◌^◌, ◌<◌}
use Rattle.std.proofs.Math.Nat.{mod-eq_of_lt, suc-ne-zero}
use Rattle.std.proofs.Math.Dec.{leb→le, ltb→lt}
use Rattle.std.proofs.Math.ListN.{length}
use Rattle.poly.specs.Field.{BinaryField}
use Rattle.poly.specs.Poly.{All}
use Rattle.field.specs.Linear.{combine, orbit, basis}
use Rattle.field.specs.Ring.{xtime, times, mul}
use Rattle.field.specs.Field.{IsField, Certificate, mul_field}
use Rattle.field.specs.Wide.{ops, Element, binary_field}
use Rattle.field.specs.LeastRoot.{least_root}
use Rattle.field.specs.Lift.{lift, IsRoot, lift_embedding}
use Rattle.field.specs.Byte.{mul8, field8, modulus8}
use Rattle.field.specs.WideField.{WideField, WideCertificate}

module _ (wide low : ℕ) where
  abbrev w : ℕ
  w = 8 * wide

  infixl 70 ◌·◌
  abbrev ◌·◌ : ℕ → ℕ → ℕ
  ◌·◌ = mul w low

  module _ (y : ℕ) (table others powers : List ℕ) (D : Certificate w ◌·◌ table) (C : WideCertificate wide low y others powers) where
    one : 1 < 2 ^ w
    one = ltb→lt 1 (2 ^ w) C.one

    field : IsField w ◌·◌
    field = mul_field w low table C.small (mod-eq_of_lt one) C.steps D

    binary : BinaryField (ops w low) (Element w)
    binary = binary_field w low field one

    coefficients : All (Element w) modulus8
    coefficients = let o = pow_pos w in (one, (one, (o, (one, (one, (o, (o, (o, (one, tt)))))))))

    is_root_lem : IsRoot 8 mul8 w ◌·◌ y
    unfolding xtime times combine orbit basis lift
    is_root_lem = record { powers = refl; root = C.root; one_narrow = refl; one_wide = mod-eq_of_lt one; one = refl }

    pub wide_laws : WideField wide low y powers
    unfolding lift orbit
    wide_laws =
        record {
          field = field;
          binary = binary;
          fits = record { bits = leb→le w 63 C.bits; small = ltb→lt low (2 ^ w) C.small };
          least = least_root w low modulus8 binary y others (ap (λ n. suc (suc n)) (sym C.seven)) (λ z. suc-ne-zero 0 z.0) coefficients C.order
              C.roots;
          embedding = lift_embedding 8 mul8 w ◌·◌ field8 field.ring y is_root_lem;
          eight = ap length (sym C.is_orbit);
          lifts = λ b. ap (λ l. combine l b) (sym C.is_orbit);
        }
