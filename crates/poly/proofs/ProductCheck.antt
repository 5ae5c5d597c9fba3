-- The product check's theorems: `product_check` says what it shows where it passes (demand 3), `product_complete` that it passes where all
-- products are one (demand 2). Assumes nothing.
use Rattle.std.specs.Prelude.{◌≡◌, ◌≢◌, ◌⊎◌, List, ℕ, zero, suc, ◌*◌, ◌≤◌, ◌<◌, length}
use Rattle.std.proofs.Common.{sym, ◌∙◌, ap, inl, inr, ⊎_elim, arith, lt-ltb, le-ltb}
use Rattle.std.proofs.Math.Path.{ap₂}
use Rattle.std.proofs.Math.Decide.{dec_lt}
use Rattle.poly.specs.Field.{Ops, BinaryField, ring, add_self, eq_of_sum, sum_of_eq, no_divisors, cancel, mul_assoc}
use Rattle.poly.specs.Sum.{sum, sum_cong, sum_update, elem_sum}
use Rattle.poly.specs.Index.{at_other, at_cases, update, all_below, dec_below}
use Rattle.poly.specs.Poly.{
  All,
  eval,
  eval_add,
  eval_mul,
  eval_sum,
  eval_zero,
  IsZero,
  pmul,
  psum,
  length_add,
  length_mul,
  length_sum,
  elem_padd,
  elem_pmul,
  elem_psum,
}
use Rattle.poly.specs.Roots.{zero_or_not, root_bound}
use Rattle.poly.specs.Lagrange.{
  Points,
  fewer,
  lagrange,
  interpolate,
  length_interpolate,
  elem_interpolate,
  eval_interpolate,
}
use Rattle.poly.specs.Interpolation.{lagrange_at, eval_by_values}
use Rattle.poly.specs.Balance.{Balanced, AllOne, values_s, values_t, values_p, check_poly, products, Values, OneChallenge, FewRoots}

module _ {A : Type 0} {O : Ops A} {Elem : A → Type 0} (F : BinaryField O Elem) (m1 m2 : ℕ) where
  -- The values of `Balance` are such as the check wants.
  pub values : (r : ℕ → A) (x y : ℕ → ℕ → A) (s t v : ℕ → A)
      → ((j : ℕ) → j < m1 → Elem (r j))
      → ((j k : ℕ) → j < m1 → k < m2 → Elem (x j k))
      → ((j k : ℕ) → j < m1 → k < m2 → Elem (y j k))
      → ((j : ℕ) → j < m1 → Elem (s j))
      → ((j : ℕ) → j < m1 → Elem (t j))
      → ((k : ℕ) → m2 ≤ k → k ≤ 2 * m2 → Elem (v k))
      → Values O Elem m1 m2 r x y (values_s O m2 r x s) (values_t m2 y t) (values_p m2 (sum O m1 r) v)
  values r x y s t v er ex ey es et ev = record {
    elem_r = er;
    elem_x = ex;
    elem_y = ey;
    elem_S = λ j k l h. at_cases Elem k m2 _ _ (λ e. es j l) (λ ne. F.elem_mul _ _ (er j l) (ex j k l (omega arith)));
    elem_T = λ j k l h. at_cases Elem k m2 _ _ (λ e. et j l) (λ ne. ey j k l (omega arith));
    elem_P = λ k h. at_P k h (dec_lt k m2);
    S-is = λ j k l h. at_other k m2 _ _ (omega arith);
    T-is = λ j k l h. at_other k m2 _ _ (omega arith);
    P-is = λ k h. rw (lt-ltb k m2 h);
  }
    where
      at_P : (k : ℕ) → k ≤ 2 * m2 → Dec (k < m2) → Elem (values_p m2 (sum O m1 r) v k)
      at_P k h (yes l) = rw (lt-ltb k m2 l) (elem_sum F m1 r er)
      at_P k h (no l) = rw (le-ltb k m2 (omega arith)) (ev k (omega arith) h)

module _ {A : Type 0} {O : Ops A} {Elem : A → Type 0} (F : BinaryField O Elem) where
  open O use {add as ◌⊕◌, mul as ◌⊗◌, zero as 𝟘, one as 𝟙}

  infixl 60 ◌⊕◌
  infixl 70 ◌⊗◌
  same : (s u v : A) → s ⊕ u ≡ s ⊕ v → u ≡ v
  same s u v h = sym (cancel F s u) ∙ ap (s ⊕◌) h ∙ cancel F s v

  fixed_step : (a b x y : A) → Elem (a ⊕ b) → (a ⊗ x) ⊗ y ⊕ (b ⊗ x) ⊗ y ≡ a ⊕ b → (x ⊗ y ⊕ 𝟙) ⊗ (a ⊕ b) ≡ 𝟘
  fixed_step a b x y e h = expand ∙ ap₂ ◌⊕◌ h (F.mul_one (a ⊕ b) e) ∙ add_self F (a ⊕ b)
    where
      expand : (x ⊗ y ⊕ 𝟙) ⊗ (a ⊕ b) ≡ ((a ⊗ x) ⊗ y ⊕ (b ⊗ x) ⊗ y) ⊕ (a ⊕ b) ⊗ 𝟙
      expand = simp (ring, F)

  -- A row with a product other than one fixes its part of the challenge.
  challenge_fixed : (n : ℕ) (r x y : ℕ → A) (j : ℕ) (a : A) → j < n → Elem (r j) → Elem (x j) → Elem (y j) → Elem a
      → x j ⊗ y j ≢ 𝟙 → sum O n (λ i. (r i ⊗ x i) ⊗ y i) ≡ sum O n r
      → sum O n (λ i. (update r j a i ⊗ x i) ⊗ y i) ≡ sum O n (update r j a) → a ≡ r j
  challenge_fixed n r x y j a l er ex ey ea ne h h' =
      eq_of_sum F a (r j)
      (no_divisors F (x j ⊗ y j ⊕ 𝟙) (a ⊕ r j) (F.elem_add _ _ (F.elem_mul _ _ ex ey) F.elem_one) es
      (λ z. ne (eq_of_sum F _ _ z)) (fixed_step a (r j) (x j) (y j) es (same (sum O n r) _ _ both)))
    where
      both : sum O n r ⊕ ((a ⊗ x j) ⊗ y j ⊕ (r j ⊗ x j) ⊗ y j) ≡ sum O n r ⊕ (a ⊕ r j)
      both =
          ap (◌⊕ ((a ⊗ x j) ⊗ y j ⊕ (r j ⊗ x j) ⊗ y j)) (sym h) ∙ sym (sum_update F n (λ i u. (u ⊗ x i) ⊗ y i) r j a l) ∙ h'
          ∙ sum_update F n (λ i u. u) r j a l

      es : Elem (a ⊕ r j)
      es = F.elem_add _ _ ea er

module _ {A : Type 0} {O : Ops A} {Elem : A → Type 0} (F : BinaryField O Elem) (m1 m2 : ℕ) {pt : ℕ → A}
    (pts : Points Elem pt (suc (2 * m2))) {r : ℕ → A} {x y S T : ℕ → ℕ → A} {P : ℕ → A} (vs : Values O Elem m1 m2 r x y S T P) where
  open O use {add as ◌⊕◌, mul as ◌⊗◌, zero as 𝟘, one as 𝟙}

  infixl 60 ◌⊕◌
  infixl 70 ◌⊗◌
  -- The sum of the S j times T j, and with P the check polynomial.
  abbrev d : List A
  d = psum O m1 (λ j. pmul O (interpolate O pt (suc m2) (S j)) (interpolate O pt (suc m2) (T j)))

  abbrev c : List A
  c = check_poly O m1 m2 pt S T P

  low : Points Elem pt (suc m2)
  low = fewer (suc m2) (omega arith) pts

  eval_products : (u : A) → eval O d u ≡ products O m1 m2 pt S T u
  eval_products u =
      eval_sum F m1 _ u
      ∙ sum_cong O m1 (λ j l.
      eval_mul F (interpolate O pt (suc m2) (S j)) _ u
      ∙ ap₂ ◌⊗◌ (eval_interpolate F pt (suc m2) (S j) u) (eval_interpolate F pt (suc m2) (T j) u))

  elem_products : All Elem d
  elem_products =
      elem_psum F m1 _ (λ j l.
      elem_pmul F (interpolate O pt (suc m2) (S j)) _
      (elem_interpolate F pt (S j) low (λ k h. vs.elem_S j k l (omega arith)))
      (elem_interpolate F pt (T j) low (λ k h. vs.elem_T j k l (omega arith))))

  length_products : length d ≤ suc (2 * m2)
  length_products = length_sum O m1 (suc (2 * m2)) _ (λ j l. len j)
    where
      len : (j : ℕ) → length (pmul O (interpolate O pt (suc m2) (S j)) (interpolate O pt (suc m2) (T j))) ≤ suc (2 * m2)
      len j =
          let a = length_interpolate F pt (suc m2) (S j) in
          let b = length_interpolate F pt (suc m2) (T j) in
          let h = length_mul O (interpolate O pt (suc m2) (S j)) (interpolate O pt (suc m2) (T j)) (omega arith) (omega arith) in
          omega arith

  eval_check : (u : A) → eval O c u ≡ lagrange O pt (suc (2 * m2)) P u ⊕ products O m1 m2 pt S T u
  unfolding check_poly
  eval_check u =
      eval_add F (interpolate O pt (suc (2 * m2)) P) d u
      ∙ ap₂ ◌⊕◌ (eval_interpolate F pt (suc (2 * m2)) P u) (eval_products u)

  elem_check : All Elem c
  unfolding check_poly
  elem_check =
      elem_padd F (interpolate O pt (suc (2 * m2)) P) d
      (elem_interpolate F pt P pts (λ k l. vs.elem_P k (omega arith))) elem_products

  length_check : length c ≤ suc (2 * m2)
  unfolding check_poly
  length_check =
      rw (length_add O (interpolate O pt (suc (2 * m2)) P), length_interpolate F pt (suc (2 * m2)) P)
      (omega (arith, length_products))

  -- The products' values at a point below m2.
  products_at : (k : ℕ) → k < m2 → products O m1 m2 pt S T (pt k) ≡ sum O m1 (λ j. (r j ⊗ x j k) ⊗ y j k)
  products_at k l =
      sum_cong O m1 (λ j h.
      ap₂ ◌⊗◌ (lagrange_at F pt (S j) low k (omega arith) (vs.elem_S j k h (omega arith)) ∙ vs.S-is j k h l)
      (lagrange_at F pt (T j) low k (omega arith) (vs.elem_T j k h (omega arith)) ∙ vs.T-is j k h l))

  rows : IsZero O c → (k : ℕ) → k < m2 → Balanced O m1 r x y k
  rows z k l =
      sym (products_at k l) ∙ sym (eq_of_sum F _ _ (sym (eval_check (pt k)) ∙ eval_zero F c (pt k) z))
      ∙ lagrange_at F pt P pts k (omega arith) (vs.elem_P k (omega arith)) ∙ vs.P-is k l

  one_challenge : ((k : ℕ) → k < m2 → Balanced O m1 r x y k) → AllOne O m1 m2 x y ⊎ OneChallenge O Elem m1 m2 r x y
  one_challenge b = ⊎_elim (λ f. inl (λ j k l h. f j l k h)) (λ e. inr (bad e)) (all_below (λ j. dec_below (is_one j) m2) m1)
    where
      is_one : (j k : ℕ) → Dec (x j k ⊗ y j k ≡ 𝟙)
      is_one j k = F.discrete (x j k ⊗ y j k) 𝟙

      bad : (j : ℕ) × (j < m1) × ¬ ((k : ℕ) → k < m2 → x j k ⊗ y j k ≡ 𝟙) → OneChallenge O Elem m1 m2 r x y
      bad (j, l, n) = ⊎_elim (λ f. absurd (n f)) fixed (all_below (is_one j) m2)
        where
          fixed : (k : ℕ) × (k < m2) × ¬ (x j k ⊗ y j k ≡ 𝟙) → OneChallenge O Elem m1 m2 r x y
          fixed (k, h, q) = (j, l, b, λ a ea ne. (k, h, λ e. ne (alone a ea e)))
            where
              alone : (a : A) → Elem a → Balanced O m1 (update r j a) x y k → a ≡ r j
              alone a ea e =
                  challenge_fixed F m1 r (λ i. x i k) (λ i. y i k) j a l (vs.elem_r j l) (vs.elem_x j k l h) (vs.elem_y j k l h) ea
                  q (b k h) e

  -- Where the check passes at R: all products are one, or one part of the first challenge is the only value that balances the rows, or
  -- R is one of few roots.
  pub product_check : (R : A) → Elem R → lagrange O pt (suc (2 * m2)) P R ≡ products O m1 m2 pt S T R
      → AllOne O m1 m2 x y ⊎ (OneChallenge O Elem m1 m2 r x y ⊎ FewRoots O Elem m2 (check_poly O m1 m2 pt S T P) R)
  product_check R e h = go (zero_or_not F c)
    where
      go : IsZero O c ⊎ ¬ (IsZero O c) → AllOne O m1 m2 x y ⊎ (OneChallenge O Elem m1 m2 r x y ⊎ FewRoots O Elem m2 c R)
      go (inl z) = ⊎_elim inl (λ d. inr (inl d)) (one_challenge (rows z))
      go (inr nz) = inr (inr (nz, root_bound F c (2 * m2) elem_check length_check nz, (e, eval_check R ∙ sum_of_eq F _ _ h)))

  -- The check passes everywhere where all products are one and P has the products' values at the points m2 to 2 m2.
  pub product_complete : AllOne O m1 m2 x y → ((k : ℕ) → m2 ≤ k → k ≤ 2 * m2 → P k ≡ products O m1 m2 pt S T (pt k))
      → (R : A) → lagrange O pt (suc (2 * m2)) P R ≡ products O m1 m2 pt S T R
  product_complete f h R =
      sym (eval_by_values F pt pts d elem_products length_products P values_are R) ∙ eval_products R
    where
      ones : (k : ℕ) → k < m2 → sum O m1 (λ j. (r j ⊗ x j k) ⊗ y j k) ≡ sum O m1 r
      ones k l =
          sum_cong O m1 (λ j g. mul_assoc F (r j) (x j k) (y j k) ∙ ap (r j ⊗◌) (f j k g l) ∙ F.mul_one (r j) (vs.elem_r j g))

      agree : (k : ℕ) → Dec (k < m2) → k < suc (2 * m2) → P k ≡ products O m1 m2 pt S T (pt k)
      agree k (yes g) l = vs.P-is k g ∙ sym (ones k g) ∙ sym (products_at k g)
      agree k (no g) l = h k (omega arith) (omega arith)

      values_are : (k : ℕ) → k < suc (2 * m2) → eval O d (pt k) ≡ P k
      values_are k l = eval_products (pt k) ∙ sym (agree k (dec_lt k m2) l)
