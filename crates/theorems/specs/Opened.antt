-- Opened shares: they are wide elements, and shares at R of values that add up open the sums. Assumes nothing.
use Rattle.std.specs.Prelude.{◌≡◌, Bool, true, false, List, ℕ, ◌*◌, ◌<◌, ltb}
use Rattle.std.proofs.Common.{sym, ◌∙◌, ap}
use Rattle.std.proofs.Math.Decide.{ℕ_discrete}
use Rattle.std.specs.Int.Bits.{bit_xor, xor_lt, xor_zero_r}
use Rattle.slices.specs.Lists.{choose}
use Rattle.poly.specs.Field.{BinaryField}
use Rattle.poly.specs.Index.{at, at_same, at_other, at_cases}
use Rattle.poly.specs.Sum.{sum, sum_cong, sum_add, sum_at, elem_sum}
use Rattle.poly.specs.Lagrange.{lagrange, eval_interpolate}
use Rattle.poly.specs.Interpolation.{lagrange_sum, lagrange_cong}
use Rattle.banquet.specs.Scheme.{Scheme, wide_ops, Wide}
use Rattle.banquet.specs.Execution.{Committed, Challenge, through, inverse_at, product_at, opened_c, opened_a, opened_b}
use Rattle.theorems.specs.Laws.{Laws}
use Rattle.theorems.specs.Wide.{wide_field, wide_points, low_points, wide_number, wide_through}
use Rattle.theorems.specs.Shares.{IsTape, tape_bytes}

choose_elem : (P : ℕ → Type 0) (t : Bool) (a b : ℕ) → P a → P b → P (choose t a b)
choose_elem P true a b p q = p
choose_elem P false a b p q = q

module _ (𝓢 : Scheme) (L : Laws 𝓢) where
  open 𝓢.shape use {parties, wide, m1, m2}

  F : BinaryField (wide_ops 𝓢) (Wide 𝓢)
  F = wide_field 𝓢 L

  pub record WideChallenge (d : Challenge) : Type 0 where
    pub wide_first : (j : ℕ) → Wide 𝓢 (d.first j)
    pub wide_offset : (k : ℕ) → Wide 𝓢 (d.product_offset k)
    pub wide_second : Wide 𝓢 d.second

  module _ (d : Challenge) (wd : WideChallenge d) (i : ℕ) {t : List ℕ} (h : IsTape 𝓢 L t) where
    pub wide_C : Wide 𝓢 (opened_c 𝓢 i t d)
    unfolding opened_c product_at
    wide_C =
        wide_through 𝓢 L (wide_points 𝓢 L) _
        (λ k. choose_elem (Wide 𝓢) (ltb k m2) _ _ (at_cases (Wide 𝓢) i 0 _ _ (λ e. elem_sum F m1 _ (λ j l. wd.wide_first j)) (λ n. F.elem_zero))
        (at_cases (Wide 𝓢) i 0 _ _ (λ e. xor_lt (8 * wide) _ _ (wide_number 𝓢 L _ (tape_bytes 𝓢 L h 3)) (wd.wide_offset k))
        (λ n. wide_number 𝓢 L _ (tape_bytes 𝓢 L h 3))))
        d.second wd.wide_second

  module _ (x : Committed) (d : Challenge) (wd : WideChallenge d) (i : ℕ) {t : List ℕ} (h : IsTape 𝓢 L t) where
    pub wide_A : (j : ℕ) → Wide 𝓢 (opened_a 𝓢 x i t d j)
    unfolding opened_a
    wide_A j =
        wide_through 𝓢 L (low_points 𝓢 L) _
        (λ k. at_cases (Wide 𝓢) k m2 _ _ (λ e. wide_number 𝓢 L _ (tape_bytes 𝓢 L h 2)) (λ n. L.field.ring.lt _ _)) d.second wd.wide_second

    pub wide_B : (j : ℕ) → Wide 𝓢 (opened_b 𝓢 x i t d j)
    unfolding opened_b inverse_at
    wide_B j =
        wide_through 𝓢 L (low_points 𝓢 L) _
        (λ k. at_cases (Wide 𝓢) k m2 _ _ (λ e. wide_number 𝓢 L _ (tape_bytes 𝓢 L h 2)) (λ n. L.embedding.lt _)) d.second wd.wide_second

  -- shares at u of values that add to w
  pub sum_through : (n : ℕ) (w : ℕ → ℕ) (v : ℕ → ℕ → ℕ) (u : ℕ) → ((k : ℕ) → k < n → sum (wide_ops 𝓢) parties (λ i. v i k) ≡ w k)
      → sum (wide_ops 𝓢) parties (λ i. through 𝓢 n (v i) u) ≡ lagrange (wide_ops 𝓢) (λ k. k) n w u
  sum_through n w v u h =
      sum_cong (wide_ops 𝓢) parties (λ i l. eval_interpolate F (λ k. k) n (v i) u) ∙ sym (lagrange_sum F (λ k. k) n parties v u)
      ∙ lagrange_cong F (λ k. k) n u h

  -- party 0 alone adds an offset
  pub sum_product_offset : (p : ℕ → ℕ) (off : ℕ)
      → sum (wide_ops 𝓢) parties (λ i. at i 0 (bit_xor (p i) off) (p i)) ≡ bit_xor (sum (wide_ops 𝓢) parties p) off
  sum_product_offset p off =
      sum_cong (wide_ops 𝓢) parties (λ i l. each i (ℕ_discrete i 0)) ∙ sum_add F parties p (λ i. at i 0 off 0)
      ∙ ap (bit_xor (sum (wide_ops 𝓢) parties p)) (sum_at F parties 0 off L.some_party)
    where
      each : (i : ℕ) → Dec (i ≡ 0) → at i 0 (bit_xor (p i) off) (p i) ≡ bit_xor (p i) (at i 0 off 0)
      each i (yes e) = simp at_same
      each i (no n) = simp at_other (sym (xor_zero_r (p i)))
