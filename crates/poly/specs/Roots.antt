-- A polynomial that isn't zero has fewer roots than coefficients. Assumes nothing.
use Rattle.std.specs.Prelude.{◌≡◌, ◌≢◌, ◌⊎◌, length}
use Rattle.std.proofs.Math.Path.{refl, ap, ap₂}
use Rattle.std.proofs.Common.{sym, ◌∙◌, inl, inr, arith}
use mathlib.Core.List.{List, [], ◌∷◌}
use Prim.Native.Nat.{ℕ, zero, suc, ◌≤◌, ◌<◌}
use Rattle.std.proofs.Math.Decide.{dec_lt}
use Rattle.slices.specs.Lists.{tab}
use Rattle.poly.specs.Field.{Ops, BinaryField, ring, add_zero, eq_of_sum, no_divisors}
use Rattle.poly.specs.Poly.{All, Distinct, eval, eval_nil, eval_cons, eval_zero, elem_eval, IsZero}

-- An element at which the polynomial is zero.
abbrev pub Root : {A : Type 0} → Ops A → (A → Type 0) → List A → A → Type 0
Root O Elem p x = Elem x × (eval O p x ≡ O.zero)

-- Every list of distinct roots has at most n entries.
abbrev pub AtMostRoots : {A : Type 0} → Ops A → (A → Type 0) → List A → ℕ → Type 0
AtMostRoots {A} O Elem p n = (xs : List A) → Distinct xs → All (Root O Elem p) xs → length xs ≤ n

-- ---- lists of values

pub all_tab : {A : Type 0} (P : A → Type 0) (n : ℕ) (f : ℕ → A) → ((k : ℕ) → k < n → P (f k)) → All P (tab f n)
all_tab P zero f h = tt
all_tab P (suc n) f h = (h 0 (omega arith), all_tab P n (λ k. f (suc k)) (λ k l. h (suc k) (omega arith)))

pub distinct_tab : {A : Type 0} (n : ℕ) (f : ℕ → A) → ((i j : ℕ) → i < j → j < n → f i ≢ f j) → Distinct (tab f n)
distinct_tab zero f h = tt
distinct_tab (suc n) f h = (
  all_tab (λ y. y ≢ f 0) n (λ k. f (suc k)) (λ k l e. h 0 (suc k) (omega arith) (omega arith) (sym e)),
  distinct_tab n (λ k. f (suc k)) (λ i j l m. h (suc i) (suc j) (omega arith) (omega arith)),
)

-- ---- roots

module _ {A : Type 0} {O : Ops A} {Elem : A → Type 0} (F : BinaryField O Elem) where
  open O use {add as ◌⊕◌, mul as ◌⊗◌, inv, zero as 𝟘, one as 𝟙}

  infixl 60 ◌⊕◌
  infixl 70 ◌⊗◌
  -- Synthetic division: the quotient of X * t, less its value at a, by X - a.
  quot : A → List A → List A
  quot a [] = []
  quot a (c ∷ t) = eval O (c ∷ t) a ∷ quot a t

  divide_step : (x a c u v w : A) → x ⊗ u ⊕ a ⊗ v ≡ (x ⊕ a) ⊗ w
      → x ⊗ (c ⊕ x ⊗ u) ⊕ a ⊗ (c ⊕ a ⊗ v) ≡ (x ⊕ a) ⊗ ((c ⊕ a ⊗ v) ⊕ x ⊗ w)
  divide_step x a c u v w h = left ∙ ap (λ z. (x ⊕ a) ⊗ (c ⊕ a ⊗ v) ⊕ x ⊗ z) h ∙ simp (ring, F)
    where
      left : x ⊗ (c ⊕ x ⊗ u) ⊕ a ⊗ (c ⊕ a ⊗ v) ≡ (x ⊕ a) ⊗ (c ⊕ a ⊗ v) ⊕ x ⊗ (x ⊗ u ⊕ a ⊗ v)
      left = simp (ring, F)

  divide : (x a : A) (t : List A) → x ⊗ eval O t x ⊕ a ⊗ eval O t a ≡ (x ⊕ a) ⊗ eval O (quot a t) x
  unfolding quot
  divide x a [] = simp (eval_nil, ring, F)
  divide x a (c ∷ t) = simp eval_cons (divide_step x a c (eval O t x) (eval O t a) (eval O (quot a t) x) (divide x a t))

  length_quot : (a : A) (t : List A) → length (quot a t) ≡ length t
  unfolding quot
  length_quot a [] = refl
  length_quot a (c ∷ t) = ap suc (length_quot a t)

  elem_quot : (a : A) (t : List A) → Elem a → All Elem t → All Elem (quot a t)
  unfolding quot
  elem_quot a [] e h = tt
  elem_quot a (c ∷ t) e h = (elem_eval F (c ∷ t) a h e, elem_quot a t e h.1)

  -- A polynomial that is zero at a, and all of whose higher coefficients are zero, is zero.
  head_zero : (a c : A) (t : List A) → IsZero O t → eval O (c ∷ t) a ≡ 𝟘 → c ≡ 𝟘
  head_zero a c t h e = sym (simp (eval_cons, eval_zero F t a h, ring, F)) ∙ e

  zero_of_quot : (a : A) (t : List A) → IsZero O (quot a t) → IsZero O t
  unfolding quot
  zero_of_quot a [] h = tt
  zero_of_quot a (c ∷ t) h = let r = zero_of_quot a t h.1 in (head_zero a c t r h.0, r)

  twice : (c u v : A) → u ⊕ v ≡ (c ⊕ u) ⊕ (c ⊕ v)
  twice c u v = simp (ring, F)

  factor : (c a x : A) (t : List A) → Elem a → All Elem t → Root O Elem (c ∷ t) x → x ≢ a → eval O (c ∷ t) a ≡ 𝟘
      → Root O Elem (quot a t) x
  unfolding eval
  factor c a x t ea et r n e = (
    r.0,
    no_divisors F (x ⊕ a) (eval O (quot a t) x) (F.elem_add _ _ r.0 ea)
        (elem_eval F (quot a t) x (elem_quot a t ea et) r.0) (λ z. n (eq_of_sum F x a z)) (sym (divide x a t) ∙ both),
  )
    where
      both : x ⊗ eval O t x ⊕ a ⊗ eval O t a ≡ 𝟘
      both = twice c (x ⊗ eval O t x) (a ⊗ eval O t a) ∙ ap₂ ◌⊕◌ r.1 e ∙ add_zero F 𝟘

  factors : (c a : A) (t xs : List A) → Elem a → All Elem t → eval O (c ∷ t) a ≡ 𝟘 → All (λ x. x ≢ a) xs
      → All (Root O Elem (c ∷ t)) xs → All (Root O Elem (quot a t)) xs
  factors c a t [] ea et e ns rs = tt
  factors c a t (x ∷ xs) ea et e ns rs = (factor c a x t ea et rs.0 ns.0 e, factors c a t xs ea et e ns.1 rs.1)

  -- With as many distinct roots as coefficients, a polynomial is zero.
  pub vanish : (xs p : List A) → All Elem p → Distinct xs → All (Root O Elem p) xs → length p ≤ length xs → IsZero O p
  vanish [] [] ep d r l = tt
  vanish [] (c ∷ t) ep d r l = absurd (omega arith)
  vanish (a ∷ xs) [] ep d r l = tt
  vanish (a ∷ xs) (c ∷ t) ep d r l =
      let rs = factors c a t xs r.0.0 ep.1 r.0.1 d.0 r.1 in
      let q = vanish xs (quot a t) (elem_quot a t r.0.0 ep.1) d.1 rs (rw length_quot (omega arith)) in
      let z = zero_of_quot a t q in
      (head_zero a c t z r.0.1, z)

  pub zero_or_not : (p : List A) → IsZero O p ⊎ ¬ (IsZero O p)
  zero_or_not [] = inl tt
  zero_or_not (c ∷ p) = go (F.discrete c 𝟘) (zero_or_not p)
    where
      go : Dec (c ≡ 𝟘) → IsZero O p ⊎ ¬ (IsZero O p) → IsZero O (c ∷ p) ⊎ ¬ (IsZero O (c ∷ p))
      go (yes e) (inl h) = inl (e, h)
      go (yes e) (inr n) = inr (λ h. n h.1)
      go (no n) r = inr (λ h. n h.0)

  -- A polynomial of at most n + 1 coefficients that isn't zero has at most n roots.
  pub root_bound : (p : List A) (n : ℕ) → All Elem p → length p ≤ suc n → ¬ (IsZero O p) → AtMostRoots O Elem p n
  root_bound p n ep l nz xs d r = go (dec_lt n (length xs))
    where
      go : Dec (n < length xs) → length xs ≤ n
      go (yes h) = absurd (nz (vanish xs p ep d r (omega arith)))
      go (no h) = omega arith
