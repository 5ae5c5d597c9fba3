-- Lagrange's interpolation: the polynomial of n coefficients with given values at n distinct points p 0, .. p (n - 1), and its
-- value at any x. `Interpolation` shows that it has these values, and that no other has. Assumes nothing.
use Rattle.std.specs.Prelude.{◌≡◌, ◌≢◌}
use Rattle.std.proofs.Math.Path.{refl, ap}
use Rattle.std.proofs.Common.{◌∙◌, arith}
use mathlib.Core.List.{List, [], ◌∷◌}
use Prim.Native.Nat.{ℕ, zero, suc, ◌≤◌, ◌<◌}
use Rattle.std.proofs.Math.Decide.{ℕ_discrete, dec_lt}
use Rattle.std.proofs.Math.ListN.{length}
use Rattle.poly.specs.Index.{at, at_same, at_other, at_cases}
use Rattle.poly.specs.Field.{Ops, BinaryField, ring}
use Rattle.poly.specs.Sum.{sum, sum_cong}
use Rattle.poly.specs.Poly.{
  All,
  eval,
  eval_nil,
  eval_cons,
  eval_scale,
  eval_mul,
  eval_sum,
  scale,
  pmul,
  psum,
  length_mul,
  length_scale,
  length_sum,
  length_sum_ge,
  elem_scale,
  elem_pmul,
  elem_psum,
}

-- ---- points

-- The first n points are distinct elements.
pub record Points {A : Type 0} (Elem : A → Type 0) (pt : ℕ → A) (n : ℕ) : Type 0 where
  pub elem : (k : ℕ) → k < n → Elem (pt k)
  pub apart : (i j : ℕ) → i < n → j < n → i ≢ j → pt i ≢ pt j

pub fewer : {A : Type 0} {Elem : A → Type 0} {pt : ℕ → A} {n : ℕ} (m : ℕ) → m ≤ n → Points Elem pt n → Points Elem pt m
fewer m l P = record { elem = λ k h. P.elem k (omega arith); apart = λ i j h k. P.apart i j (omega arith) (omega arith) }

-- The numbers as points, where the elements are the numbers below a bound.
pub number_points : (n b : ℕ) → n ≤ b → Points (λ a. a < b) (λ k. k) n
number_points n b l = record { elem = λ k h. omega arith; apart = λ i j h k ne. ne }

-- ---- the polynomials

module _ {A : Type 0} (O : Ops A) (pt : ℕ → A) where
  open O use {add as ◌⊕◌, mul as ◌⊗◌, inv, zero as 𝟘, one as 𝟙}

  infixl 60 ◌⊕◌
  infixl 70 ◌⊗◌
  -- (X - a) * d
  abbrev linear : A → A → List A
  linear a d = (a ⊗ d) ∷ (d ∷ [])

  -- The product over i < n other than k of (X - p_i) / (p_k - p_i): one at p_k, zero at the others.
  unfoldable pub basis_poly : ℕ → ℕ → List A
  basis_poly k zero = 𝟙 ∷ []
  basis_poly k (suc n) = at n k (basis_poly k n) (pmul O (linear (pt n) (inv (pt k ⊕ pt n))) (basis_poly k n))

  -- The interpolating polynomial of the values v k at p_k, k < n.
  unfoldable pub interpolate : ℕ → (ℕ → A) → List A
  interpolate n v = psum O n (λ k. scale O (v k) (basis_poly k n))

  -- Their values at x.
  unfoldable pub basis : ℕ → ℕ → A → A
  basis k zero x = 𝟙
  basis k (suc n) x = at n k (basis k n x) (basis k n x ⊗ ((x ⊕ pt n) ⊗ inv (pt k ⊕ pt n)))

  unfoldable pub lagrange : ℕ → (ℕ → A) → A → A
  lagrange n v x = sum O n (λ k. v k ⊗ basis k n x)

-- ---- their values, lengths and coefficients

module _ {A : Type 0} {O : Ops A} {Elem : A → Type 0} (F : BinaryField O Elem) (pt : ℕ → A) where
  open O use {add as ◌⊕◌, mul as ◌⊗◌, inv, zero as 𝟘, one as 𝟙}

  infixl 60 ◌⊕◌
  infixl 70 ◌⊗◌
  -- The factor n of the basis k, at x and as a polynomial.
  abbrev f : ℕ → ℕ → A → A
  f k n x = (x ⊕ pt n) ⊗ inv (pt k ⊕ pt n)

  abbrev fp : ℕ → ℕ → List A
  fp k n = linear O pt (pt n) (inv (pt k ⊕ pt n))

  eval_linear : (a d x b : A) → (a ⊗ d ⊕ x ⊗ (d ⊕ x ⊗ 𝟘)) ⊗ b ≡ b ⊗ ((x ⊕ a) ⊗ d)
  eval_linear a d x b = simp (ring, F)

  eval_factor : (k n : ℕ) (x : A) (q : List A) → eval O (pmul O (fp k n) q) x ≡ eval O q x ⊗ f k n x
  eval_factor k n x q = simp (eval_mul F, eval_cons, eval_nil) (eval_linear (pt n) (inv (pt k ⊕ pt n)) x (eval O q x))

  length_factor : (k n : ℕ) (q : List A) → 0 < length q → length (pmul O (fp k n) q) ≡ suc (length q)
  length_factor k n q h = omega (arith, length_mul O (fp k n) q (omega arith) h)

  pub eval_basis : (k n : ℕ) (x : A) → eval O (basis_poly O pt k n) x ≡ basis O pt k n x
  unfolding basis basis_poly
  eval_basis k zero x = simp (eval_cons, eval_nil, ring, F)
  eval_basis k (suc n) x = go (ℕ_discrete n k) (eval_basis k n x)
    where
      go : Dec (n ≡ k) → eval O (basis_poly O pt k n) x ≡ basis O pt k n x
          → eval O (basis_poly O pt k (suc n)) x ≡ basis O pt k (suc n) x
      go (yes e) h = simp at_same h
      go (no ne) h = simp at_other (eval_factor k n x (basis_poly O pt k n) ∙ ap (◌⊗ f k n x) h)

  -- Before the factor k is left out, and after it.
  length_before : (k n : ℕ) → n ≤ k → length (basis_poly O pt k n) ≡ suc n
  unfolding basis_poly
  length_before k zero l = refl
  length_before k (suc n) l =
      let h = length_before k n (omega arith) in
      ap length (at_other n k (basis_poly O pt k n) _ (omega arith)) ∙ length_factor k n (basis_poly O pt k n) (omega arith)
      ∙ ap suc h

  length_basis : (k n : ℕ) → k < n → length (basis_poly O pt k n) ≡ n
  unfolding basis_poly
  length_basis k zero l = absurd (omega arith)
  length_basis k (suc n) l =
      at_cases (λ (q : List A). length q ≡ suc n) n k _ _ (λ e. length_before k n (omega arith))
      (λ ne. go (length_basis k n (omega arith)) ne)
    where
      go : length (basis_poly O pt k n) ≡ n → n ≢ k → length (pmul O (fp k n) (basis_poly O pt k n)) ≡ suc n
      go h ne = length_factor k n (basis_poly O pt k n) (omega arith) ∙ ap suc h

  pub elem_basis : {N : ℕ} → Points Elem pt N → (k n : ℕ) → k < N → n ≤ N → All Elem (basis_poly O pt k n)
  unfolding basis_poly
  elem_basis P k zero l m = (F.elem_one, tt)
  elem_basis P k (suc n) l m =
      let ek = P.elem k l in
      let en = P.elem n (omega arith) in
      let h = elem_basis P k n l (omega arith) in
      let ed = F.elem_inv _ (F.elem_add _ _ ek en) in
      at_cases (All Elem) n k _ _ (λ e. h) (λ ne. elem_pmul F (fp k n) (basis_poly O pt k n) (F.elem_mul _ _ en ed, (ed, tt)) h)

  pub length_interpolate : (n : ℕ) (v : ℕ → A) → length (interpolate O pt n v) ≡ n
  unfolding interpolate
  length_interpolate n v =
      let h = length_sum O n n (λ k. scale O (v k) (basis_poly O pt k n)) (λ k l. omega (arith, len k l)) in
      omega (arith, go (dec_lt 0 n))
    where
      len : (k : ℕ) → k < n → length (scale O (v k) (basis_poly O pt k n)) ≡ n
      len k l = length_scale O (v k) (basis_poly O pt k n) ∙ length_basis k n l

      go : Dec (0 < n) → n ≤ length (psum O n (λ k. scale O (v k) (basis_poly O pt k n)))
      go (yes h) = omega (arith, length_sum_ge O n (λ k. scale O (v k) (basis_poly O pt k n)) 0 h, len 0 h)
      go (no h) = omega arith

  pub elem_interpolate : {n : ℕ} (v : ℕ → A) → Points Elem pt n → ((k : ℕ) → k < n → Elem (v k))
      → All Elem (interpolate O pt n v)
  unfolding interpolate
  elem_interpolate {n} v P ev =
      elem_psum F n _ (λ k l. elem_scale F (v k) (basis_poly O pt k n) (ev k l) (elem_basis P k n l (omega arith)))

  pub eval_interpolate : (n : ℕ) (v : ℕ → A) (x : A) → eval O (interpolate O pt n v) x ≡ lagrange O pt n v x
  unfolding interpolate lagrange
  eval_interpolate n v x =
      eval_sum F n _ x
      ∙ sum_cong O n (λ k l. eval_scale F (v k) (basis_poly O pt k n) x ∙ ap (v k ⊗◌) (eval_basis k n x))
