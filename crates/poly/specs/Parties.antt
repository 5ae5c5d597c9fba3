-- The product check of one execution on shares: each value is the sum of n parties' shares, and each party opens its shares
-- at R. Party 0 alone has the public part of P ("party 0 has the sum of the r, others 0"). Assumes nothing.
use Rattle.std.specs.Prelude.{◌≡◌, List, ℕ, suc, ◌*◌, ◌≤◌, ◌<◌}
use Rattle.poly.specs.Index.{at}
use Rattle.poly.specs.Field.{Ops}
use Rattle.poly.specs.Sum.{sum}
use Rattle.poly.specs.Lagrange.{lagrange}
use Rattle.poly.specs.Balance.{values_s, values_t, values_p, check_poly}

-- The sum of all parties' shares.
abbrev pub total : {A : Type 0} → Ops A → ℕ → (ℕ → ℕ → A) → ℕ → A
total O n s j = sum O n (λ i. s i j)

abbrev pub totals : {A : Type 0} → Ops A → ℕ → (ℕ → ℕ → ℕ → A) → ℕ → ℕ → A
totals O n X j k = sum O n (λ i. X i j k)

-- The check polynomial of an execution, from all parties' shares (see below).
abbrev pub check_of : {A : Type 0} → Ops A → (ℕ → A) → ℕ → ℕ → ℕ → (ℕ → A) → (ℕ → ℕ → ℕ → A) → (ℕ → ℕ → ℕ → A)
    → (ℕ → ℕ → A) → (ℕ → ℕ → A) → (ℕ → ℕ → A) → List A
check_of O pt n m1 m2 r X Y s t v =
    check_poly O m1 m2 pt (values_s O m2 r (totals O n X) (total O n s)) (values_t m2 (totals O n Y) (total O n t))
    (values_p m2 (sum O m1 r) (total O n v))

-- Shares, by party first: inputs X and inverses Y by j and k, extra points s and t by j, v those of P at the points m2 to 2 m2.
-- The opened shares c, a and b are right, and their sums pass the check.
pub record Execution {A : Type 0} (O : Ops A) (Elem : A → Type 0) (pt : ℕ → A) (n m1 m2 : ℕ) (r : ℕ → A) (X Y : ℕ → ℕ → ℕ → A)
    (s t v : ℕ → ℕ → A) (R : A) (c : ℕ → A) (a b : ℕ → ℕ → A)
    : Type 0
  where
    pub elem_r : (j : ℕ) → j < m1 → Elem (r j)
    pub elem_X : (i j k : ℕ) → i < n → j < m1 → k < m2 → Elem (X i j k)
    pub elem_Y : (i j k : ℕ) → i < n → j < m1 → k < m2 → Elem (Y i j k)
    pub elem_s : (i j : ℕ) → i < n → j < m1 → Elem (s i j)
    pub elem_t : (i j : ℕ) → i < n → j < m1 → Elem (t i j)
    pub elem_v : (i k : ℕ) → i < n → m2 ≤ k → k ≤ 2 * m2 → Elem (v i k)
    pub c_is : (i : ℕ) → i < n → c i ≡ lagrange O pt (suc (2 * m2)) (values_p m2 (at i 0 (sum O m1 r) O.zero) (v i)) R
    pub a_is : (i j : ℕ) → i < n → j < m1 → a i j ≡ lagrange O pt (suc m2) (values_s O m2 r (X i) (s i) j) R
    pub b_is : (i j : ℕ) → i < n → j < m1 → b i j ≡ lagrange O pt (suc m2) (values_t m2 (Y i) (t i) j) R
    pub passes : sum O n c ≡ sum O m1 (λ j. O.mul (total O n a j) (total O n b j))
