-- The product check of document 01, "One execution", over any field: m1 pairs of polynomials S_j and T_j through m2 inputs and inverses
-- each, the inputs weighted by the first challenge r (01: first draws), against one polynomial P at the second challenge R (01: second
-- draw). proofs/ProductCheck has its theorems.
use Rattle.std.specs.Prelude.{◌≡◌, ◌≢◌, List, ℕ, suc, ◌*◌, ◌≤◌, ◌<◌, ltb}
use Rattle.poly.specs.Field.{Ops}
use Rattle.poly.specs.Sum.{sum}
use Rattle.slices.specs.Lists.{choose}
use Rattle.poly.specs.Index.{at, update}
use Rattle.poly.specs.Poly.{IsZero, padd, pmul, psum}
use Rattle.poly.specs.Roots.{Root, AtMostRoots}
use Rattle.poly.specs.Lagrange.{lagrange, interpolate}

-- The values of S_j, T_j and P at the points. "S_j(k) = r_j times the lifted input of S-box j+10k for k below 20, and S_j(20) the
-- extra point. T_j likewise with lifted inverses, without r_j." P's values below m2 are one public value a, and v k from m2 on.
abbrev pub values_s : {A : Type 0} → Ops A → ℕ → (ℕ → A) → (ℕ → ℕ → A) → (ℕ → A) → ℕ → ℕ → A
values_s O m2 r x s j k = at k m2 (s j) (O.mul (r j) (x j k))

abbrev pub values_t : {A : Type 0} → ℕ → (ℕ → ℕ → A) → (ℕ → A) → ℕ → ℕ → A
values_t m2 y t j k = at k m2 (t j) (y j k)

abbrev pub values_p : {A : Type 0} → ℕ → A → (ℕ → A) → ℕ → A
values_p m2 a v k = choose (ltb k m2) a (v k)

-- "Row k balances when the sum over j of r_j times lifted input times lifted inverse equals the sum of the r."
abbrev pub Balanced : {A : Type 0} → Ops A → ℕ → (ℕ → A) → (ℕ → ℕ → A) → (ℕ → ℕ → A) → ℕ → Type 0
Balanced O m1 r x y k = sum O m1 (λ j. O.mul (O.mul (r j) (x j k)) (y j k)) ≡ sum O m1 r

module _ {A : Type 0} (O : Ops A) (m1 m2 : ℕ) where
  open O use {mul as ◌⊗◌, one as 𝟙}

  infixl 70 ◌⊗◌
  -- Every product of an input and its inverse is one.
  abbrev pub AllOne : (ℕ → ℕ → A) → (ℕ → ℕ → A) → Type 0
  AllOne x y = (j k : ℕ) → j < m1 → k < m2 → x j k ⊗ y j k ≡ 𝟙

  -- "The check polynomial is P, from its shares, plus the sum of S_j times T_j": from their values at m2 + 1 points for S_j and T_j, and at
  -- 2 m2 + 1 for P.
  unfoldable pub check_poly : (ℕ → A) → (ℕ → ℕ → A) → (ℕ → ℕ → A) → (ℕ → A) → List A
  check_poly pt S T P =
      padd O (interpolate O pt (suc (2 * m2)) P)
      (psum O m1 (λ j. pmul O (interpolate O pt (suc m2) (S j)) (interpolate O pt (suc m2) (T j))))

  -- The sum of S_j(u) times T_j(u), which P has to meet at u.
  abbrev pub products : (ℕ → A) → (ℕ → ℕ → A) → (ℕ → ℕ → A) → A → A
  products pt S T u = sum O m1 (λ j. lagrange O pt (suc m2) (S j) u ⊗ lagrange O pt (suc m2) (T j) u)

module _ {A : Type 0} (O : Ops A) (Elem : A → Type 0) (m1 m2 : ℕ) where
  open O use {mul as ◌⊗◌}

  infixl 70 ◌⊗◌
  -- Inputs x j k and inverses y j k; values S j k and T j k at the points 0 to m2, P k at the points 0 to 2 m2.
  pub record Values (r : ℕ → A) (x y S T : ℕ → ℕ → A) (P : ℕ → A) : Type 0 where
    pub elem_r : (j : ℕ) → j < m1 → Elem (r j)
    pub elem_x : (j k : ℕ) → j < m1 → k < m2 → Elem (x j k)
    pub elem_y : (j k : ℕ) → j < m1 → k < m2 → Elem (y j k)
    pub elem_S : (j k : ℕ) → j < m1 → k ≤ m2 → Elem (S j k)
    pub elem_T : (j k : ℕ) → j < m1 → k ≤ m2 → Elem (T j k)
    pub elem_P : (k : ℕ) → k ≤ 2 * m2 → Elem (P k)
    pub S-is : (j k : ℕ) → j < m1 → k < m2 → S j k ≡ r j ⊗ x j k
    pub T-is : (j k : ℕ) → j < m1 → k < m2 → T j k ≡ y j k
    pub P-is : (k : ℕ) → k < m2 → P k ≡ sum O m1 r

  -- "one of the ten first draws, beside the other nine, balances all twenty rows, and every other value in its place leaves some row
  -- out of balance"
  abbrev pub OneChallenge : (ℕ → A) → (ℕ → ℕ → A) → (ℕ → ℕ → A) → Type 0
  OneChallenge r x y =
      (j : ℕ) × (j < m1) × ((k : ℕ) → k < m2 → Balanced O m1 r x y k)
      × ((a : A) → Elem a → a ≢ r j → (k : ℕ) × (k < m2) × ¬ (Balanced O m1 (update r j a) x y k))

-- "the check polynomial isn't zero, has at most 40 roots, and the second draw is one of them"
abbrev pub FewRoots : {A : Type 0} → Ops A → (A → Type 0) → ℕ → List A → A → Type 0
FewRoots O Elem m2 c R = ¬ (IsZero O c) × AtMostRoots O Elem c (2 * m2) × Root O Elem c R
