-- Values of Lagrange's polynomials without a division: a product of x - p_i over the points, times a constant weight.
-- Assumes nothing.
use Rattle.std.specs.Prelude.{◌≡◌}
use Rattle.std.proofs.Math.Path.{sym}
use Rattle.std.proofs.Common.{◌∙◌, ap, arith}
use Prim.Native.Nat.{ℕ, zero, suc, ◌≤◌, ◌<◌}
use Rattle.std.proofs.Math.Decide.{ℕ_discrete}
use Rattle.poly.specs.Index.{at, at_same, at_other, at_cases}
use Rattle.poly.specs.Field.{Ops, BinaryField, ring}
use Rattle.poly.specs.Lagrange.{Points, basis}
use Rattle.poly.specs.Interpolation.{basis_self}

module _ {A : Type 0} (O : Ops A) (pt : ℕ → A) where
  open O use {add as ◌⊕◌, mul as ◌⊗◌, inv, one as 𝟙}

  infixl 60 ◌⊕◌
  infixl 70 ◌⊗◌
  -- The product over i < n other than k of x - p_i.
  unfoldable pub numerator : ℕ → ℕ → A → A
  numerator k zero x = 𝟙
  numerator k (suc n) x = at n k (numerator k n x) (numerator k n x ⊗ (x ⊕ pt n))

  -- One over its value at p_k.
  weight : ℕ → ℕ → A
  weight k zero = 𝟙
  weight k (suc n) = at n k (weight k n) (weight k n ⊗ inv (pt k ⊕ pt n))

module _ {A : Type 0} {O : Ops A} {Elem : A → Type 0} (F : BinaryField O Elem) (pt : ℕ → A) where
  open O use {add as ◌⊕◌, mul as ◌⊗◌, inv, zero as 𝟘, one as 𝟙}

  infixl 60 ◌⊕◌
  infixl 70 ◌⊗◌
  regroup : (u v w d : A) → (u ⊗ v) ⊗ (w ⊗ d) ≡ (u ⊗ w) ⊗ (v ⊗ d)
  regroup u v w d = simp (ring, F)

  basis_split : (k n : ℕ) (x : A) → basis O pt k n x ≡ numerator O pt k n x ⊗ weight O pt k n
  unfolding basis numerator weight
  basis_split k zero x = sym (F.mul_one 𝟙 F.elem_one)
  basis_split k (suc n) x = go (ℕ_discrete n k) (basis_split k n x)
    where
      go : Dec (n ≡ k) → basis O pt k n x ≡ numerator O pt k n x ⊗ weight O pt k n
          → basis O pt k (suc n) x ≡ numerator O pt k (suc n) x ⊗ weight O pt k (suc n)
      go (yes e) h = simp at_same h
      go (no ne) h = simp (at_other, h) (regroup (numerator O pt k n x) (weight O pt k n) (x ⊕ pt n) (inv (pt k ⊕ pt n)))

  elem_weight : {N : ℕ} → Points Elem pt N → (k n : ℕ) → k < N → n ≤ N → Elem (weight O pt k n)
  unfolding weight
  elem_weight P k zero l m = F.elem_one
  elem_weight P k (suc n) l m =
      let h = elem_weight P k n l (omega arith) in
      at_cases Elem n k _ _ (λ e. h)
      (λ ne. F.elem_mul _ _ h (F.elem_inv _ (F.elem_add _ _ (P.elem k l) (P.elem n (omega arith)))))

  -- For tables of weights: the basis from its numerator and any w that meets one test.
  pub basis_by_weight : {n : ℕ} → Points Elem pt n → (k : ℕ) → k < n → (w : A) → Elem w → w ⊗ numerator O pt k n (pt k) ≡ 𝟙
      → (x : A) → basis O pt k n x ≡ numerator O pt k n x ⊗ w
  basis_by_weight {n} P k l w e h x = basis_split k n x ∙ ap (numerator O pt k n x ⊗◌) same
    where
      u : A
      u = weight O pt k n

      same : u ≡ w
      same =
          sym (F.mul_one u (elem_weight P k n l (omega arith))) ∙ ap (u ⊗◌) (sym h) ∙ turn
          ∙ ap (w ⊗◌) (sym (basis_split k n (pt k)) ∙ basis_self F pt P k n l (omega arith)) ∙ F.mul_one w e
        where
          turn : u ⊗ (w ⊗ numerator O pt k n (pt k)) ≡ w ⊗ (numerator O pt k n (pt k) ⊗ u)
          turn = simp (ring, F)
