-- Weights of Lagrange's polynomials for the points 0 to n - 1 in the field of X^w + low: entry k is one over the product of k - i over the
-- other points i. With them the polynomials' values take no division. Assumes nothing.
use Rattle.std.specs.Prelude.{◌≡◌, Bool, true, ◌&&◌, List, ltb, eqb, leb, get_or}
use Rattle.std.proofs.Math.Path.{refl, ap₂}
use Rattle.std.proofs.Common.{ap, ◌∙◌, arith, ltb→lt, leb→le, pow_mono}
use Prim.Native.Nat.{ℕ, zero, suc, ◌%◌, ◌≤◌, ◌<◌, ◌^◌}
use Rattle.std.proofs.Math.Decide.{ℕ_discrete}
use Rattle.std.specs.Int.Bits.{bit_xor}
use Rattle.std.proofs.lemmas.Nat.{xor_lt}
use Rattle.std.proofs.Math.Dec.{T, eqb→eq}
use Rattle.slices.specs.Tests.{both}
use Rattle.poly.specs.Index.{at}
use Rattle.poly.specs.Field.{BinaryField}
use Rattle.poly.specs.Weights.{numerator}
use Rattle.field.specs.Linear.{combine, orbit, combine_short}
use Rattle.field.specs.Ring.{xtime, times, mul}
use Rattle.field.specs.Wide.{ops, Element}

pub record Weights (w low n : ℕ) (weights : List ℕ) : Type 0 where
  pub field : BinaryField (ops w low) (Element w)
  pub points : n ≤ 2 ^ w
  pub small : (k : ℕ) → k < n → Element w (get_or weights k 0)
  pub inverse : (k : ℕ) → k < n → mul w low (get_or weights k 0) (numerator (ops w low) (λ i. i) k n k) ≡ 1

-- ---- from a test that antt computes

module _ (w low : ℕ) where
  -- The product of k - i over i < m other than k: its factors are below 2 ^ 6, so each takes six steps.
  unfoldable pub product : ℕ → ℕ → ℕ
  product k zero = 1
  product k (suc m) = at m k (product k m) (combine (orbit 6 (xtime w low) (product k m % 2 ^ w)) (bit_xor k m))

  product_is : {k : ℕ} → 6 ≤ w → k < 2 ^ 6 → (m : ℕ) → m ≤ 2 ^ 6 → numerator (ops w low) (λ i. i) k m k ≡ product k m
  unfolding numerator product times
  product_is h u zero v = refl
  product_is {k} h u (suc m) v =
      let e = product_is h u m (omega arith) in
      ap₂ (at m k) e
      (ap (λ a. mul w low a (bit_xor k m)) e ∙ combine_short 6 w (xtime w low) (product k m % 2 ^ w) (bit_xor k m) h (xor_lt 6 k m u (omega arith)))

module _ (w low n : ℕ) (weights : List ℕ) where
  -- What is computed of entry k.
  unfoldable pub right : ℕ → Bool
  right k = ltb (get_or weights k 0) (2 ^ w) && eqb (mul w low (get_or weights k 0) (product w low k n)) 1

  -- The test of the first m entries.
  unfoldable pub all : ℕ → Bool
  all zero = true
  all (suc m) = right m && all m

  entry : (k : ℕ) → T (right k) → Element w (get_or weights k 0) × (mul w low (get_or weights k 0) (product w low k n) ≡ 1)
  unfolding right
  entry k t =
      let ts = both (ltb (get_or weights k 0) (2 ^ w)) (eqb (mul w low (get_or weights k 0) (product w low k n)) 1) t in
      (ltb→lt _ _ ts.0, eqb→eq _ _ ts.1)

  passed : (m : ℕ) → T (all m) → (k : ℕ) → k < m → T (right k)
  unfolding all
  passed zero t k h = absurd (omega arith)
  passed (suc m) t k h = let ts = both (right m) (all m) t in last ts.0 (passed m ts.1 k) (ℕ_discrete k m)
    where
      last : T (right m) → (k < m → T (right k)) → Dec (k ≡ m) → T (right k)
      last u f (yes e) = rw e u
      last u f (no ne) = f (omega arith)

  pub weighed : BinaryField (ops w low) (Element w) → T (leb 6 w && (leb n 64 && all n)) → Weights w low n weights
  weighed F t =
      let six = both (leb 6 w) (leb n 64 && all n) t in
      let few = both (leb n 64) (all n) six.1 in
      let h : 6 ≤ w = leb→le 6 w six.0 in
      let l : n ≤ 64 = leb→le n 64 few.0 in
      record {
        field = F;
        points = omega (arith, pow_mono h);
        small = λ k i. (entry k (passed n few.1 k i)).0;
        inverse = λ k i. ap (mul w low (get_or weights k 0)) (product_is w low h (omega arith) n l) ∙ (entry k (passed n few.1 k i)).1;
      }
