-- The interpolating polynomial has the given values, is the only one of its length that has them, and is linear in them.
-- Assumes nothing.
use Rattle.std.specs.Prelude.{◌≡◌, ◌≢◌, List, [], ◌∷◌, length}
use Rattle.std.proofs.Math.Path.{refl, sym, ap, ap₂}
use Rattle.std.proofs.Common.{◌∙◌, arith}
use Prim.Native.Nat.{ℕ, zero, suc, ◌≤◌, ◌<◌}
use Rattle.std.proofs.Math.Decide.{ℕ_discrete}
use Rattle.slices.specs.Lists.{tab}
use Rattle.slices.specs.Tab.{length_tab}
use Rattle.poly.specs.Index.{at_cases}
use Rattle.poly.specs.Field.{Ops, BinaryField, add_self, add_mul, mul_assoc, mul_zero, zero_mul, eq_of_sum, sum_of_eq}
use Rattle.poly.specs.Sum.{sum, sum_cong, sum_add, sum_mul, sum_mul_right, sum_swap, sum_only}
use Rattle.poly.specs.Poly.{All, eval, eval_add, eval_zero, IsZero, padd, length_add, elem_eval, elem_padd}
use Rattle.poly.specs.Roots.{all_tab, distinct_tab, vanish}
use Rattle.poly.specs.Lagrange.{
  Points,
  basis,
  lagrange,
  interpolate,
  length_interpolate,
  elem_interpolate,
  eval_interpolate,
}

-- p is a polynomial of degree at most n - 1 with p(p_k) = v k for k below n.
pub record Interpolates {A : Type 0} (O : Ops A) (Elem : A → Type 0) (pt : ℕ → A) (n : ℕ) (v : ℕ → A) (p : List A) : Type 0 where
  pub size : length p ≡ n
  pub elem : All Elem p
  pub value : (k : ℕ) → k < n → eval O p (pt k) ≡ v k

module _ {A : Type 0} {O : Ops A} {Elem : A → Type 0} (F : BinaryField O Elem) (pt : ℕ → A) where
  open O use {add as ◌⊕◌, mul as ◌⊗◌, inv, zero as 𝟘, one as 𝟙}

  infixl 60 ◌⊕◌
  infixl 70 ◌⊗◌
  pub basis_self : {N : ℕ} → Points Elem pt N → (k n : ℕ) → k < N → n ≤ N → basis O pt k n (pt k) ≡ 𝟙
  unfolding basis
  basis_self P k zero l m = refl
  basis_self P k (suc n) l m =
      let h = basis_self P k n l (omega arith) in
      at_cases (λ b. b ≡ 𝟙) n k _ _ (λ e. h)
      (λ ne. ap₂ ◌⊗◌ h (go ne) ∙ F.mul_one 𝟙 F.elem_one)
    where
      go : n ≢ k → (pt k ⊕ pt n) ⊗ inv (pt k ⊕ pt n) ≡ 𝟙
      go ne =
          F.mul_inv _ (F.elem_add _ _ (P.elem k l) (P.elem n (omega arith)))
          (λ z. P.apart n k (omega arith) l ne (sym (eq_of_sum F _ _ z)))

  basis_other : (k n j : ℕ) → j < n → j ≢ k → basis O pt k n (pt j) ≡ 𝟘
  unfolding basis
  basis_other k zero j l m = absurd (omega arith)
  basis_other k (suc n) j l m =
      let h : j < n → basis O pt k n (pt j) ≡ 𝟘 = λ i. basis_other k n j i m in
      at_cases (λ b. b ≡ 𝟘) n k _ _ (λ e. h (omega arith)) (λ ne. go (ℕ_discrete j n) h)
    where
      go : Dec (j ≡ n) → (j < n → basis O pt k n (pt j) ≡ 𝟘)
          → basis O pt k n (pt j) ⊗ ((pt j ⊕ pt n) ⊗ inv (pt k ⊕ pt n)) ≡ 𝟘
      go (yes e) h = rw (e, add_self F, zero_mul F) (mul_zero F _)
      go (no ne) h = rw (h (omega arith)) (zero_mul F _)

  pub lagrange_at : {n : ℕ} (v : ℕ → A) → Points Elem pt n → (m : ℕ) → m < n → Elem (v m) → lagrange O pt n v (pt m) ≡ v m
  unfolding lagrange
  lagrange_at {n} v P m l e =
      sum_only F n _ m l (λ k lk ne. ap (v k ⊗◌) (basis_other k n m l (λ i. ne (sym i))) ∙ mul_zero F (v k))
      ∙ ap (v m ⊗◌) (basis_self P m n l (omega arith)) ∙ F.mul_one (v m) e

  pub lagrange_sum : (n m : ℕ) (v : ℕ → ℕ → A) (x : A)
      → lagrange O pt n (λ k. sum O m (λ i. v i k)) x ≡ sum O m (λ i. lagrange O pt n (v i) x)
  unfolding lagrange
  lagrange_sum n m v x =
      sum_cong O n (λ k l. sym (sum_mul_right F m (λ i. v i k) (basis O pt k n x)))
      ∙ sum_swap F n m (λ k i. v i k ⊗ basis O pt k n x)

  pub lagrange_add : (n : ℕ) (u v : ℕ → A) (x : A)
      → lagrange O pt n (λ k. u k ⊕ v k) x ≡ lagrange O pt n u x ⊕ lagrange O pt n v x
  unfolding lagrange
  lagrange_add n u v x = sum_cong O n (λ k l. add_mul F (u k) (v k) (basis O pt k n x)) ∙ sum_add F n _ _

  pub lagrange_scale : (n : ℕ) (c : A) (v : ℕ → A) (x : A) → lagrange O pt n (λ k. c ⊗ v k) x ≡ c ⊗ lagrange O pt n v x
  unfolding lagrange
  lagrange_scale n c v x = sum_cong O n (λ k l. mul_assoc F c (v k) (basis O pt k n x)) ∙ sum_mul F n c _

  pub lagrange_cong : (n : ℕ) {u v : ℕ → A} (x : A) → ((k : ℕ) → k < n → u k ≡ v k)
      → lagrange O pt n u x ≡ lagrange O pt n v x
  unfolding lagrange
  lagrange_cong n x h = sum_cong O n (λ k l. ap (◌⊗ basis O pt k n x) (h k l))

  equal_of_zero : (p q : List A) → length p ≡ length q → IsZero O (padd O p q) → p ≡ q
  equal_of_zero [] [] l z = refl
  equal_of_zero [] (b ∷ q) l z = absurd (omega arith)
  equal_of_zero (a ∷ p) [] l z = absurd (omega arith)
  equal_of_zero (a ∷ p) (b ∷ q) l z = ap₂ ◌∷◌ (eq_of_sum F a b z.0) (equal_of_zero p q (omega arith) z.1)

  -- Two polynomials of at most n coefficients that agree at n distinct points.
  difference : {n : ℕ} → Points Elem pt n → (p q : List A) → All Elem p → All Elem q → length p ≤ n → length q ≤ n
      → ((k : ℕ) → k < n → eval O p (pt k) ≡ eval O q (pt k)) → IsZero O (padd O p q)
  difference {n} P p q ep eq lp lq h =
      vanish F (tab pt n) (padd O p q) (elem_padd F p q ep eq)
      (distinct_tab n pt (λ i j l m. P.apart i j (omega arith) m (omega arith)))
      (all_tab _ n pt (λ k l. (P.elem k l, eval_add F p q (pt k) ∙ sum_of_eq F _ _ (h k l))))
      (rw (length_add O p q, length_tab) (omega arith))

  -- The values at n points give the value anywhere.
  pub eval_by_values : {n : ℕ} → Points Elem pt n → (p : List A) → All Elem p → length p ≤ n → (v : ℕ → A)
      → ((k : ℕ) → k < n → eval O p (pt k) ≡ v k) → (x : A) → eval O p x ≡ lagrange O pt n v x
  eval_by_values {n} P p ep lp v h x =
      eq_of_sum F _ _
      (sym (eval_add F p q x) ∙ eval_zero F (padd O p q) x zero_sum)
      ∙ eval_interpolate F pt n v x
    where
      q : List A
      q = interpolate O pt n v

      ev : (k : ℕ) → k < n → Elem (v k)
      ev k l = rw (h k l) at (elem_eval F p (pt k) ep (P.elem k l))

      agree : (k : ℕ) → k < n → eval O p (pt k) ≡ eval O q (pt k)
      agree k l = h k l ∙ sym (eval_interpolate F pt n v (pt k) ∙ lagrange_at v P k l (ev k l))

      zero_sum : IsZero O (padd O p q)
      zero_sum = difference P p q ep (elem_interpolate F pt v P ev) lp (omega (arith, length_interpolate F pt n v)) agree

  -- It exists.
  pub interpolates : {n : ℕ} (v : ℕ → A) → Points Elem pt n → ((k : ℕ) → k < n → Elem (v k))
      → Interpolates O Elem pt n v (interpolate O pt n v)
  interpolates {n} v P e = record {
    size = length_interpolate F pt n v;
    elem = elem_interpolate F pt v P e;
    value = λ k l. eval_interpolate F pt n v (pt k) ∙ lagrange_at v P k l (e k l);
  }

  -- There is no other.
  pub interpolates_unique : {n : ℕ} → Points Elem pt n → {v : ℕ → A} {p q : List A} → Interpolates O Elem pt n v p
      → Interpolates O Elem pt n v q → p ≡ q
  interpolates_unique P {v} {p} {q} a b =
      equal_of_zero p q (a.size ∙ sym b.size)
      (difference P p q a.elem b.elem (omega (arith, a.size)) (omega (arith, b.size)) (λ k l. a.value k l ∙ sym (b.value k l)))
