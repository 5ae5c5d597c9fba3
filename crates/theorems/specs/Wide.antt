-- The wide field of a scheme is a field in the sense of `poly`, and the lift passes through sums. Assumes nothing.
use Rattle.std.specs.Prelude.{◌≡◌, List, get_or}
use Rattle.std.proofs.Math.Path.{refl, ap}
use Rattle.std.proofs.Common.{◌∙◌, arith}
use Prim.Native.Nat.{ℕ, zero, suc, ◌*◌, ◌^◌, ◌<◌}
use Rattle.std.specs.Int.Bits.{bit_xor}
use Rattle.slices.specs.Lists.{sum_xor}
use Rattle.slices.specs.Sums.{get_d_zip}
use Rattle.slices.specs.Bytes.{Bytes}
use Rattle.slices.specs.Numbers.{number_at}
use Rattle.slices.proofs.Numbers.{number_at_lt}
use Rattle.field.specs.Linear.{additive_zero}
use Rattle.field.specs.Wide.{binary_field}
use Rattle.poly.specs.Field.{BinaryField}
use Rattle.poly.specs.Sum.{sum}
use Rattle.poly.specs.Poly.{elem_eval}
use Rattle.poly.specs.Lagrange.{Points, fewer, number_points, interpolate, elem_interpolate}
use Rattle.banquet.specs.Scheme.{Scheme, wide_ops, Wide, lifted}
use Rattle.banquet.specs.Execution.{through}
use Rattle.theorems.specs.Laws.{Laws}

module _ (𝓢 : Scheme) (L : Laws 𝓢) where
  open 𝓢.shape use {wide, low, m2}
  open L use {embedding as E}

  one_lt : 1 < 2 ^ (8 * wide)
  one_lt = go (E.lt 1) E.one
    where
      go : {x m : ℕ} → x < m → x ≡ 1 → 1 < m
      go l e = omega arith

  pub wide_field : BinaryField (wide_ops 𝓢) (Wide 𝓢)
  wide_field = binary_field (8 * wide) low L.field one_lt

  -- the points 0 to 40, and 0 to 20
  pub wide_points : Points (Wide 𝓢) (λ k. k) (suc (2 * m2))
  wide_points = number_points (suc (2 * m2)) (2 ^ (8 * wide)) L.enough_points

  pub low_points : Points (Wide 𝓢) (λ k. k) (suc m2)
  low_points = fewer (suc m2) (omega arith) wide_points

  pub lift_sum : (n : ℕ) (f : ℕ → ℕ) → lifted 𝓢 (sum (wide_ops 𝓢) n f) ≡ sum (wide_ops 𝓢) n (λ i. lifted 𝓢 (f i))
  unfolding sum
  lift_sum zero f = additive_zero E.adds
  lift_sum (suc n) f = E.adds.adds (sum (wide_ops 𝓢) n f) (f n) ∙ ap (λ (x : ℕ). bit_xor x (lifted 𝓢 (f n))) (lift_sum n f)

  -- byte k of a sum of lists is the sum of their bytes k
  pub byte_sum : (n : ℕ) (f : ℕ → List ℕ) (k : ℕ) → get_or (sum_xor n f) k 0 ≡ sum (wide_ops 𝓢) n (λ i. get_or (f i) k 0)
  unfolding sum_xor sum
  byte_sum zero f k = refl
  byte_sum (suc n) f k = get_d_zip (sum_xor n f) (f n) k ∙ ap (λ (x : ℕ). bit_xor x (get_or (f n) k 0)) (byte_sum n f k)

  -- ---- elements

  pub wide_number : (k : ℕ) {s : List ℕ} → Bytes s → Wide 𝓢 (number_at wide k s)
  wide_number k h = number_at_lt wide k h

  pub wide_through : {n : ℕ} → Points (Wide 𝓢) (λ k. k) n → (v : ℕ → ℕ) → ((k : ℕ) → Wide 𝓢 (v k)) → (u : ℕ) → Wide 𝓢 u
      → Wide 𝓢 (through 𝓢 n v u)
  wide_through {n} p v h u hu =
      elem_eval wide_field (interpolate (wide_ops 𝓢) (λ k. k) n v) u (elem_interpolate wide_field (λ k. k) v p (λ k l. h k)) hu
