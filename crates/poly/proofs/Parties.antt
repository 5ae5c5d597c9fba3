-- The product check of one execution on shares (specs/Parties): what it means that it passes. Assumes nothing.
use Rattle.std.specs.Prelude.{◌≡◌, ◌⊎◌, ℕ, suc, ◌*◌, ◌<◌, ltb}
use Rattle.std.proofs.Common.{sym, ◌∙◌, ap, ap₂}
use Rattle.slices.specs.Lists.{choose}
use Rattle.poly.specs.Index.{at}
use Rattle.poly.specs.Field.{Ops, BinaryField}
use Rattle.poly.specs.Sum.{sum, sum_cong, sum_mul, sum_at, sum_choose, sum_each, elem_sum}
use Rattle.poly.specs.Lagrange.{Points, lagrange}
use Rattle.poly.specs.Interpolation.{lagrange_sum, lagrange_cong}
use Rattle.poly.specs.Balance.{AllOne, OneChallenge, FewRoots, values_s, values_t, values_p, products, Values}
use Rattle.poly.proofs.ProductCheck.{values, product_check}
use Rattle.poly.specs.Parties.{total, totals, check_of, Execution}

module _ {A : Type 0} {O : Ops A} {Elem : A → Type 0} (F : BinaryField O Elem) {pt : ℕ → A} (n m1 m2 : ℕ) {r : ℕ → A}
    {X Y : ℕ → ℕ → ℕ → A} {s t v : ℕ → ℕ → A} {R : A} {c : ℕ → A} {a b : ℕ → ℕ → A}
    (o : Execution O Elem pt n m1 m2 r X Y s t v R c a b) (some_party : 0 < n) where
  open O use {mul as ◌⊗◌, zero as 𝟘}

  infixl 70 ◌⊗◌
  abbrev S : ℕ → ℕ → A
  S = values_s O m2 r (totals O n X) (total O n s)

  abbrev T : ℕ → ℕ → A
  T = values_t m2 (totals O n Y) (total O n t)

  abbrev P : ℕ → A
  P = values_p m2 (sum O m1 r) (total O n v)

  -- The sum of right openings opens the sum.
  opened : (m : ℕ) (w : ℕ → A) (wᵢ : ℕ → ℕ → A) (u : ℕ → A) → ((k : ℕ) → sum O n (λ i. wᵢ i k) ≡ w k)
      → ((i : ℕ) → i < n → u i ≡ lagrange O pt m (wᵢ i) R) → lagrange O pt m w R ≡ sum O n u
  opened m w wᵢ u h g = lagrange_cong F pt m R (λ k l. sym (h k)) ∙ lagrange_sum F pt m n wᵢ R ∙ sym (sum_cong O n g)

  opened_P : lagrange O pt (suc (2 * m2)) P R ≡ sum O n c
  opened_P = opened (suc (2 * m2)) P _ c sums o.c_is
    where
      sums : (k : ℕ) → sum O n (λ i. values_p m2 (at i 0 (sum O m1 r) 𝟘) (v i) k) ≡ P k
      sums k = sum_choose O (ltb k m2) n _ _ ∙ ap (λ u. choose (ltb k m2) u (total O n v k)) (sum_at F n 0 (sum O m1 r) some_party)

  opened_S : (j : ℕ) → j < m1 → lagrange O pt (suc m2) (S j) R ≡ total O n a j
  opened_S j l = opened (suc m2) (S j) _ (λ i. a i j) sums (λ i h. o.a_is i j h l)
    where
      sums : (k : ℕ) → sum O n (λ i. values_s O m2 r (X i) (s i) j k) ≡ S j k
      sums k = sum_each O k m2 n _ _ ∙ ap (at k m2 (total O n s j)) (sum_mul F n (r j) _)

  opened_T : (j : ℕ) → j < m1 → lagrange O pt (suc m2) (T j) R ≡ total O n b j
  opened_T j l = opened (suc m2) (T j) _ (λ i. b i j) (λ k. sum_each O k m2 n _ _) (λ i h. o.b_is i j h l)

  passes_at : lagrange O pt (suc (2 * m2)) P R ≡ products O m1 m2 pt S T R
  passes_at = opened_P ∙ o.passes ∙ sym (sum_cong O m1 (λ j l. ap₂ ◌⊗◌ (opened_S j l) (opened_T j l)))

  abbrev vs : Values O Elem m1 m2 r (totals O n X) (totals O n Y) S T P
  vs =
      values F m1 m2 r (totals O n X) (totals O n Y) (total O n s) (total O n t) (total O n v) o.elem_r
      (λ j k l h. elem_sum F n _ (λ i g. o.elem_X i j k g l h)) (λ j k l h. elem_sum F n _ (λ i g. o.elem_Y i j k g l h))
      (λ j l. elem_sum F n _ (λ i g. o.elem_s i j g l)) (λ j l. elem_sum F n _ (λ i g. o.elem_t i j g l))
      (λ k l h. elem_sum F n _ (λ i g. o.elem_v i k g l h))

  -- An execution that passes: all products are one, or one part of the first challenge is the only value that balances the rows, or R is
  -- one of few roots.
  pub execution_check : Points Elem pt (suc (2 * m2)) → Elem R
      → AllOne O m1 m2 (totals O n X) (totals O n Y) ⊎ (OneChallenge O Elem m1 m2 r (totals O n X) (totals O n Y)
      ⊎ FewRoots O Elem m2 (check_of O pt n m1 m2 r X Y s t v) R)
  execution_check pts e = product_check F m1 m2 pts vs R e passes_at
