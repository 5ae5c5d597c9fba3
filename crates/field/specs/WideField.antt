-- A wide field with the lift of bytes into it by the smallest root y of y^8 + y^4 + y^3 + y + 1: what is computed of the numbers of a width, and the
-- laws that follow for every width. Assumes nothing.
use Rattle.std.specs.Prelude.{◌≡◌, List, ◌∷◌, map, T, leb, ltb}
use Prim.Native.Nat.{ℕ, ◌*◌, ◌^◌}
use Rattle.std.proofs.Math.ListN.{length}
use Rattle.poly.specs.Field.{BinaryField}
use Rattle.field.specs.Linear.{combine, orbit, basis}
use Rattle.field.specs.Ring.{xtime, mul}
use Rattle.field.specs.Field.{IsField}
use Rattle.field.specs.Wide.{ops, Element}
use Rattle.field.specs.LeastRoot.{all, ascending, is_root, IsLeastRoot}
use Rattle.field.specs.Lift.{lift, IsEmbedding}
use Rattle.field.specs.Byte.{mul8, modulus8}
use Rattle.field.specs.Fits.{Fits}

-- by the bytes of an element and the modulus
module _ (wide low : ℕ) where
  abbrev w : ℕ
  w = 8 * wide

  infixl 70 ◌·◌
  abbrev ◌·◌ : ℕ → ℕ → ℕ
  ◌·◌ = mul w low

  -- the powers are 1, y, .. y^7, the lifts of 1, 2, .. 128
  pub record WideField (y : ℕ) (powers : List ℕ) : Type 0 where
    pub field : IsField w ◌·◌
    pub binary : BinaryField (ops w low) (Element w)
    pub fits : Fits w low
    -- "of the eight wide roots y of y^8 + y^4 + y^3 + y + 1 take the smallest as a number"
    pub least : IsLeastRoot w low modulus8 y
    pub embedding : IsEmbedding 8 mul8 w ◌·◌ (lift 8 ◌·◌ y)
    pub eight : length powers ≡ 8
    pub lifts : (b : ℕ) → combine powers b ≡ lift 8 ◌·◌ y b

  -- what is computed of them, with the other seven roots, beside the certificate of a field: each fact is `tt` or `refl`
  pub record WideCertificate (y : ℕ) (others powers : List ℕ) : Type 0 where
    pub bits : T (leb w 63)
    pub small : T (ltb low (2 ^ w))
    pub one : T (ltb 1 (2 ^ w))
    pub steps : orbit w (xtime w low) 1 ≡ basis w
    pub seven : length others ≡ 7
    pub order : T (ascending (y ∷ others))
    pub roots : T (all (is_root w low modulus8) (y ∷ others))
    pub root : map (λ a. lift 8 ◌·◌ y (mul8 2 a)) (basis 8) ≡ map (λ a. y · lift 8 ◌·◌ y a) (basis 8)
    pub is_orbit : orbit 8 (◌·◌ y) 1 ≡ powers
