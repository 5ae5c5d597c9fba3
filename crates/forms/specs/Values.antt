-- Values of S_j, T_j and P at a point are sums with Lagrange's values there. Assumes nothing.
use Rattle.std.specs.Prelude.{◌≡◌, refl, List, ltb}
use Rattle.std.proofs.Math.Path.{sym, ap, ap₂}
use Rattle.std.proofs.Common.{◌∙◌, add-zero, add-suc, mul_comm as nat-mul-comm, lt-ltb, le-ltb}
use Prim.Native.Nat.{ℕ, zero, suc, ◌+◌, ◌*◌, ◌^◌, ◌≤◌}
use native.Mathlib.Omega.{arith}
use Rattle.std.specs.Int.Bits.{bit_xor}
use Rattle.std.proofs.Math.ListN.{get_or}
use Rattle.slices.specs.Lists.{choose}
use Rattle.slices.specs.Bytes.{Bytes}
use Rattle.poly.specs.Index.{at, at_same, at_other}
use Rattle.poly.specs.Field.{Ops, BinaryField, mul_assoc}
use Rattle.poly.specs.Sum.{sum, sum_suc, sum_cong, sum_mul}
use Rattle.poly.specs.Balance.{values_s, values_t, values_p}
use Rattle.field.specs.Ring.{mul}
use Rattle.lagrange.specs.Values.{interpolated}
use Rattle.lagrange.proofs.Laws.{sum_interpolated}
use Rattle.tables.specs.Tables.{tabled_dot}
use Rattle.banquet.specs.declared.Shape.{Shape}
use Rattle.banquet.specs.Shape.{sbox_at}
use Rattle.banquet.specs.Scheme.{wide_ops, Wide, lifted}
use Rattle.banquet.specs.Sets.{scheme_of}
use Rattle.banquet.specs.Execution.{through}
use Rattle.theorems.specs.Wide.{wide_field}
use Rattle.sets.specs.Valid.{Valid}
use Rattle.sets.specs.Laws.{powers_of, laws, wide_field as sets_field}
use Rattle.forms.specs.Point.{near, far, tables_at, tabled_row, row_at, value_s, value_t}

-- a sum in two parts
sum_parts : {A : Type 0} {O : Ops A} {Elem : A → Type 0} → BinaryField O Elem → (m n : ℕ) (f : ℕ → A)
    → sum O (m + n) f ≡ O.add (sum O m f) (sum O n (λ k. f (m + k)))
unfolding sum
sum_parts {O = O} F m zero f = ap (λ k. sum O k f) (add-zero m) ∙ sym (F.add_zero (sum O m f))
sum_parts {O = O} F m (suc n) f =
    ap (λ k. sum O k f) (add-suc m n) ∙ ap (λ a. O.add a (f (m + n))) (sum_parts F m n f)
    ∙ F.add_assoc (sum O m f) (sum O n (λ k. f (m + k))) (f (m + n))

module _ {S : Shape} (v : Valid S) where
  open S use {wide, low, m1, m2}

  F : BinaryField (wide_ops (scheme_of S)) (Wide (scheme_of S))
  F = wide_field (scheme_of S) (laws v)

  -- ---- a row by tables

  pub tabled_row_lem : (x : ℕ) {bytes tables : List ℕ} → Bytes bytes → tables ≡ tables_at S x → (j : ℕ) → tabled_row S bytes tables j ≡ row_at S bytes j x
  unfolding row_at
  tabled_row_lem x {bytes} b e j =
      tabled_dot (8 * wide) low F (powers_of S) (sets_field v).eight (λ k. get_or bytes (j + k * m1) 0) (λ k. b.lt (j + k * m1)) (near S x) m2 e m2
      (omega arith)
      ∙ sum_cong (wide_ops (scheme_of S)) m2
      (λ k l. ap (λ a. mul (8 * wide) low a (near S x k))
      ((sets_field v).lifts (get_or bytes (j + k * m1) 0) ∙ ap (λ n. lifted (scheme_of S) (get_or bytes (j + n) 0)) (nat-mul-comm k m1)))

  module _ (x : ℕ) (h : Wide (scheme_of S) x) where
    few : suc m2 ≤ 2 ^ (8 * wide)
    few = omega (arith, (laws v).enough_points)

    -- the last value apart from the rows'
    last_apart : (f : ℕ → ℕ) (s : ℕ)
        → through (scheme_of S) (suc m2) (λ k. at k m2 s (f k)) x
        ≡ bit_xor (sum (wide_ops (scheme_of S)) m2 (λ k. mul (8 * wide) low (f k) (near S x k))) (mul (8 * wide) low s (near S x m2))
    unfolding interpolated
    last_apart f s =
        sym (sum_interpolated (8 * wide) low F (suc m2) few x h (λ k. at k m2 s (f k)))
        ∙ sum_suc (wide_ops (scheme_of S)) m2 _
        ∙ ap₂ bit_xor
        (sum_cong (wide_ops (scheme_of S)) m2 (λ k l. ap (λ a. mul (8 * wide) low a (near S x k)) (at_other k m2 s (f k) (omega arith))))
        (ap (λ a. mul (8 * wide) low a (near S x m2)) (at_same m2 m2 s (f m2) refl))

    module _ (bytes : List ℕ) (j : ℕ) where
      abbrev lifts : ℕ → ℕ → ℕ
      lifts j k = lifted (scheme_of S) (get_or bytes (sbox_at S j k) 0)

      pub S-value : (r s : ℕ → ℕ)
          → through (scheme_of S) (suc m2) (values_s (wide_ops (scheme_of S)) m2 r lifts s j) x ≡ value_s S (r j) (row_at S bytes j x) (s j) (near S x m2)
      unfolding value_s row_at
      S-value r s =
          last_apart (λ k. mul (8 * wide) low (r j) (lifts j k)) (s j)
          ∙ ap (λ a. bit_xor a (mul (8 * wide) low (s j) (near S x m2)))
          (sum_cong (wide_ops (scheme_of S)) m2 (λ k l. mul_assoc F (r j) (lifts j k) (near S x k)) ∙ sum_mul F m2 (r j) _)

      pub T-value : (t : ℕ → ℕ)
          → through (scheme_of S) (suc m2) (values_t m2 lifts t j) x ≡ value_t S (row_at S bytes j x) (t j) (near S x m2)
      unfolding value_t row_at
      T-value t = last_apart (λ k. lifts j k) (t j)

    -- P: the public value times the sum of the values for the points below 20, and the others
    pub P-value : (a : ℕ) (p : ℕ → ℕ)
        → through (scheme_of S) (suc (2 * m2)) (values_p m2 a p) x
        ≡ bit_xor (mul (8 * wide) low a (sum (wide_ops (scheme_of S)) m2 (far S x)))
        (sum (wide_ops (scheme_of S)) (suc m2) (λ n. mul (8 * wide) low (p (m2 + n)) (far S x (m2 + n))))
    unfolding interpolated
    P-value a p =
        sym (sum_interpolated (8 * wide) low F (suc (2 * m2)) (laws v).enough_points x h (λ k. choose (ltb k m2) a (p k)))
        ∙ ap (λ n. sum (wide_ops (scheme_of S)) n (λ k. mul (8 * wide) low (choose (ltb k m2) a (p k)) (far S x k))) halves
        ∙ sum_parts F m2 (suc m2) _
        ∙ ap₂ bit_xor
        (sum_cong (wide_ops (scheme_of S)) m2 (λ k l. ap (λ t. mul (8 * wide) low (choose t a (p k)) (far S x k)) (lt-ltb k m2 l)) ∙ sum_mul F m2 a (far S x))
        (sum_cong (wide_ops (scheme_of S)) (suc m2)
        (λ n l. ap (λ t. mul (8 * wide) low (choose t a (p (m2 + n))) (far S x (m2 + n))) (le-ltb (m2 + n) m2 (omega arith))))
      where
        halves : suc (2 * m2) ≡ m2 + suc m2
        halves = omega arith
