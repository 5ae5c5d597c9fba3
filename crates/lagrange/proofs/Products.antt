-- The numerator of Lagrange's polynomial k is the product of the factors before k and of those after it. Assumes nothing.
use mathlib.Core.Path.{◌≡◌, refl, sym, ap, ap₂, ◌∙◌}
use mathlib.Core.List.{List}
use Prim.Native.Nat.{ℕ, zero, suc, ◌+◌, ◌-◌, ◌^◌, ◌≤◌, ◌<◌}
use native.Mathlib.Nat.{add-zero, add-suc}
use native.Mathlib.Omega.{arith}
use native.Mathlib.Decide.{ℕ_discrete}
use lib.Bits.{bit_xor, xor_lt}
use lib.ListN.{length, get_or, set}
use lib.Seq.{ext_get_or, get_or-set_same, get_or-set_other}
use Rattle.slices.specs.Lists.{tab}
use Rattle.slices.specs.Tab.{length_tab, get_d_tab}
use Rattle.field.specs.Ring.{mul}
use Rattle.poly.specs.Index.{at_same, at_other}
use Rattle.poly.specs.Field.{BinaryField, mul_assoc, mul_comm}
use Rattle.poly.specs.Lagrange.{number_points}
use Rattle.poly.specs.Weights.{numerator, basis_by_weight}
use Rattle.field.specs.Wide.{ops, Element}
use Rattle.weights.specs.Weights.{Weights}
use Rattle.lagrange.specs.Values.{upto, lagrange_value}
use Rattle.lagrange.proofs.Laws.{value_basis}

module _ (w low x : ℕ) where
  infixl 70 ◌⊗◌
  abbrev ◌⊗◌ : ℕ → ℕ → ℕ
  a ⊗ b = mul w low a b

  abbrev up : ℕ → ℕ
  up = upto w low x

  -- The product of x - i over k ≤ i < k + m.
  unfoldable pub over : ℕ → ℕ → ℕ
  over zero k = 1
  over (suc m) k = over m (suc k) ⊗ bit_xor x k

  abbrev num : ℕ → ℕ → ℕ
  num k n = numerator (ops w low) (λ i. i) k n x

  num_before : (n k : ℕ) → n ≤ k → num k n ≡ up n
  unfolding upto numerator
  num_before zero k l = refl
  num_before (suc n) k l = at_other n k _ _ (omega arith) ∙ ap (◌⊗ bit_xor x n) (num_before n k (omega arith))

  num_same : (k : ℕ) → num k (suc k) ≡ up k
  unfolding numerator
  num_same k = at_same k k _ _ refl ∙ num_before k k (omega arith)

  num_after : (k n : ℕ) → k < n → num k (suc n) ≡ num k n ⊗ bit_xor x n
  unfolding numerator
  num_after k n l = at_other n k _ _ (omega arith)

  module _ (F : BinaryField (ops w low) (Element w)) where
    swap : (a b c : ℕ) → a ⊗ b ⊗ c ≡ a ⊗ c ⊗ b
    swap a b c = mul_assoc F a b c ∙ ap (a ⊗◌) (mul_comm F b c) ∙ sym (mul_assoc F a c b)

    over_snoc : (m k : ℕ) → over (suc m) k ≡ over m k ⊗ bit_xor x (k + m)
    unfolding over
    over_snoc zero k = ap (λ i. 1 ⊗ bit_xor x i) (sym (add-zero k))
    over_snoc (suc m) k =
        let e : suc k + m ≡ k + suc m = omega arith in
        ap (◌⊗ bit_xor x k) (over_snoc m (suc k)) ∙ swap (over m (suc k)) (bit_xor x (suc k + m)) (bit_xor x k)
        ∙ ap (λ i. over m (suc k) ⊗ bit_xor x k ⊗ bit_xor x i) e

    up_lt : x < 2 ^ w → (n : ℕ) → n ≤ 2 ^ w → up n < 2 ^ w
    unfolding upto
    up_lt h zero l = F.elem_one
    up_lt h (suc n) l = F.elem_mul _ _ (up_lt h n (omega arith)) (xor_lt w x n h (omega arith))

    num_split : x < 2 ^ w → (m k : ℕ) → k < 2 ^ w → num k (suc k + m) ≡ up k ⊗ over m (suc k)
    unfolding over
    num_split h zero k l = ap (num k) (add-zero (suc k)) ∙ num_same k ∙ sym (F.mul_one (up k) (up_lt h k (omega arith)))
    num_split h (suc m) k l =
        ap (num k) (add-suc (suc k) m) ∙ num_after k (suc k + m) (omega arith)
        ∙ ap (◌⊗ bit_xor x (suc k + m)) (num_split h m k l)
        ∙ mul_assoc F (up k) (over m (suc k)) _ ∙ ap (up k ⊗◌) (sym (over_snoc m (suc k)))

  -- From the factors before and after, and the weight.
  pub value_split : {n : ℕ} {ws : List ℕ} → Weights w low n ws → x < 2 ^ w → (k : ℕ) → k < n
      → up k ⊗ over (n - suc k) (suc k) ⊗ get_or ws k 0 ≡ lagrange_value w low n x k
  value_split {n} {ws} W h k l =
      let e : suc k + (n - suc k) ≡ n = omega arith in
      let p = W.points in
      sym (value_basis w low W.field n p x h k l
      ∙ basis_by_weight W.field (λ i. i) (number_points n (2 ^ w) p) k l (get_or ws k 0) (W.small k l) (W.inverse k l) x
      ∙ ap (◌⊗ get_or ws k 0) (ap (num k) (sym e) ∙ num_split W.field h (n - suc k) k (omega arith)))

  -- ---- the loop downwards: p is the product from k on, and from k on the list holds the values

  pub record Down (n k p : ℕ) (l : List ℕ) : Type 0 where
    pub product : p ≡ over (n - k) k
    pub held : (i : ℕ) → i < k → get_or l i 0 ≡ up i
    pub done : (i : ℕ) → k ≤ i → i < n → get_or l i 0 ≡ lagrange_value w low n x i

  pub down_none : {n m k : ℕ} {l : List ℕ} → l ≡ tab up m → m ≡ n → k ≡ n → Down n k 1 l
  unfolding over
  down_none {n} {m} {k} {l} u p q =
      let e : n - k ≡ 0 = omega arith in
      record {
        product = ap (λ i. over i k) (sym e);
        held = λ i h. ap (λ t. get_or t i 0) u ∙ get_d_tab up m i 0 (omega arith);
        done = λ i h t. absurd (omega arith);
      }

  pub down_more : {n k p q u v : ℕ} {l ws : List ℕ} → Weights w low n ws → x < 2 ^ w → Down n k p l → 0 < k → k ≤ n → length l ≡ n
      → u ≡ get_or l (k - 1) 0 ⊗ p → v ≡ u ⊗ get_or ws (k - 1) 0 → q ≡ p ⊗ bit_xor x (k - 1) → Down n (k - 1) q (set l (k - 1) v)
  unfolding over
  down_more {n} {k} {p} {q} {u} {v} {l} {ws} W h d z t len g e f =
      let a : k ≡ suc (k - 1) = omega arith in
      let b : n - (k - 1) ≡ suc (n - k) = omega arith in
      let o : p ≡ over (n - k) (suc (k - 1)) = d.product ∙ ap (over (n - k)) a in
      record {
        product = f ∙ ap (◌⊗ bit_xor x (k - 1)) o ∙ ap (λ m. over m (k - 1)) (sym b);
        held = λ i m. get_or-set_other l (k - 1) i v 0 (omega arith) ∙ d.held i (omega arith);
        done = λ i m s. go i m s (ℕ_discrete i (k - 1));
      }
    where
      here : v ≡ lagrange_value w low n x (k - 1)
      here =
          let a : k ≡ suc (k - 1) = omega arith in
          let c : n - k ≡ n - suc (k - 1) = omega arith in
          e ∙ ap (◌⊗ get_or ws (k - 1) 0) g ∙ ap₂ (λ y z. y ⊗ z ⊗ get_or ws (k - 1) 0) (d.held (k - 1) (omega arith)) (d.product ∙ ap₂ over c a)
          ∙ value_split W h (k - 1) (omega arith)

      go : (i : ℕ) → k - 1 ≤ i → i < n → Dec (i ≡ k - 1) → get_or (set l (k - 1) v) i 0 ≡ lagrange_value w low n x i
      go i m s (yes e) = rw e (get_or-set_same l (k - 1) v 0 (omega arith) ∙ here)
      go i m s (no ne) = get_or-set_other l (k - 1) i v 0 ne ∙ d.done i (omega arith) s

  pub down_all : {n k p : ℕ} {l : List ℕ} → Down n k p l → k ≡ 0 → length l ≡ n → l ≡ tab (lagrange_value w low n x) n
  down_all {n} {k} {p} {l} d e len =
      ext_get_or 0 l (tab (lagrange_value w low n x) n) (len ∙ sym (length_tab (lagrange_value w low n x) n))
      (λ i h. d.done i (omega arith) (omega arith) ∙ sym (get_d_tab (lagrange_value w low n x) n i 0 (omega arith)))
