-- Polynomials as lists of coefficients, the constant one first. Assumes nothing.
use Rattle.std.specs.Prelude.{◌≡◌, ◌≢◌, length}
use Rattle.std.proofs.Math.Path.{refl, ap}
use Rattle.std.proofs.Common.{◌∙◌, arith}
use mathlib.Core.List.{List, [], ◌∷◌}
use Prim.Native.Nat.{ℕ, zero, suc, ◌+◌, ◌≤◌, ◌<◌, max}
use Rattle.std.proofs.Math.Decide.{ℕ_discrete}
use Rattle.poly.specs.Field.{Ops, BinaryField, ring}
use Rattle.poly.specs.Sum.{sum}

-- P holds of every member of the list.
abbrev pub All : {A : Type 0} → (A → Type 0) → List A → Type 0
All P [] = Unit {0}
All P (x ∷ xs) = P x × All P xs

-- No value stands in the list twice.
abbrev pub Distinct : {A : Type 0} → List A → Type 0
Distinct [] = Unit {0}
Distinct (x ∷ xs) = All (λ y. y ≢ x) xs × Distinct xs

module _ {A : Type 0} (O : Ops A) where
  open O use {add as ◌⊕◌, mul as ◌⊗◌, zero as 𝟘}

  infixl 60 ◌⊕◌
  infixl 70 ◌⊗◌
  unfoldable pub eval : List A → A → A
  eval [] x = 𝟘
  eval (c ∷ p) x = c ⊕ x ⊗ eval p x

  abbrev pub IsZero : List A → Type 0
  IsZero p = All (λ c. c ≡ 𝟘) p

  abbrev pub padd : List A → List A → List A
  padd [] q = q
  padd (a ∷ p) [] = a ∷ p
  padd (a ∷ p) (b ∷ q) = (a ⊕ b) ∷ padd p q

  abbrev pub scale : A → List A → List A
  scale a [] = []
  scale a (b ∷ q) = (a ⊗ b) ∷ scale a q

  abbrev pub pmul : List A → List A → List A
  pmul [] q = []
  pmul (a ∷ p) q = padd (scale a q) (𝟘 ∷ pmul p q)

  -- f 0 + .. + f (n - 1)
  abbrev pub psum : ℕ → (ℕ → List A) → List A
  psum zero f = []
  psum (suc n) f = padd (psum n f) (f n)

  pub eval_nil : (x : A) → eval [] x ≡ 𝟘
  unfolding eval
  eval_nil x = refl

  pub eval_cons : (c : A) (p : List A) (x : A) → eval (c ∷ p) x ≡ c ⊕ x ⊗ eval p x
  unfolding eval
  eval_cons c p x = refl

  pub length_scale : (a : A) (q : List A) → length (scale a q) ≡ length q
  length_scale a [] = refl
  length_scale a (b ∷ q) = ap suc (length_scale a q)

  pub length_add : (p q : List A) → length (padd p q) ≡ max (length p) (length q)
  length_add [] q = omega arith
  length_add (a ∷ p) [] = omega arith
  length_add (a ∷ p) (b ∷ q) = omega (arith, length_add p q)

  length_mul_cons : (a b : A) (p q : List A) → length (pmul (a ∷ p) (b ∷ q)) ≡ suc (length p + length q)
  length_mul_cons a b [] q = rw (length_add (scale a q) [], length_scale) (omega arith)
  length_mul_cons a b (c ∷ p) q = rw (length_add (scale a q), length_scale) (omega (arith, length_mul_cons c b p q))

  pub length_mul : (p q : List A) → 0 < length p → 0 < length q → suc (length (pmul p q)) ≡ length p + length q
  length_mul [] q h k = absurd (omega arith)
  length_mul (a ∷ p) [] h k = absurd (omega arith)
  length_mul (a ∷ p) (b ∷ q) h k = omega (arith, length_mul_cons a b p q)

  pub length_sum : (n m : ℕ) (f : ℕ → List A) → ((k : ℕ) → k < n → length (f k) ≤ m) → length (psum n f) ≤ m
  length_sum zero m f h = omega arith
  length_sum (suc n) m f h =
      rw (length_add (psum n f)) (omega (arith, length_sum n m f (λ k l. h k (omega arith)), h n (omega arith)))

  pub length_sum_ge : (n : ℕ) (f : ℕ → List A) (k : ℕ) → k < n → length (f k) ≤ length (psum n f)
  length_sum_ge zero f k l = absurd (omega arith)
  length_sum_ge (suc n) f k l = rw (length_add (psum n f)) (go (ℕ_discrete k n) (length_sum_ge n f k))
    where
      go : Dec (k ≡ n) → (k < n → length (f k) ≤ length (psum n f)) → length (f k) ≤ max (length (psum n f)) (length (f n))
      go (yes e) h = rw e (omega arith)
      go (no ne) h = omega (arith, h (omega arith))

module _ {A : Type 0} {O : Ops A} {Elem : A → Type 0} (F : BinaryField O Elem) where
  open O use {add as ◌⊕◌, mul as ◌⊗◌, inv, zero as 𝟘, one as 𝟙}

  infixl 60 ◌⊕◌
  infixl 70 ◌⊗◌
  ruleset evals = (eval_nil, eval_cons)

  pub eval_add : (p q : List A) (x : A) → eval O (padd O p q) x ≡ eval O p x ⊕ eval O q x
  eval_add [] q x = simp (evals, ring, F)
  eval_add (a ∷ p) [] x = simp (evals, ring, F)
  eval_add (a ∷ p) (b ∷ q) x = simp (evals, eval_add p q x, ring, F)

  scale_step : (a b x y : A) → a ⊗ b ⊕ x ⊗ (a ⊗ y) ≡ a ⊗ (b ⊕ x ⊗ y)
  scale_step a b x y = simp (ring, F)

  pub eval_scale : (a : A) (q : List A) (x : A) → eval O (scale O a q) x ≡ a ⊗ eval O q x
  eval_scale a [] x = simp (evals, ring, F)
  eval_scale a (b ∷ q) x = simp (evals, eval_scale a q x) (scale_step a b x (eval O q x))

  pub eval_mul : (p q : List A) (x : A) → eval O (pmul O p q) x ≡ eval O p x ⊗ eval O q x
  eval_mul [] q x = simp (evals, ring, F)
  eval_mul (a ∷ p) q x = simp (eval_add, evals, eval_scale, eval_mul p q x, ring, F)

  pub eval_sum : (n : ℕ) (f : ℕ → List A) (x : A) → eval O (psum O n f) x ≡ sum O n (λ k. eval O (f k) x)
  unfolding sum
  eval_sum zero f x = simp evals
  eval_sum (suc n) f x = eval_add (psum O n f) (f n) x ∙ ap (◌⊕ eval O (f n) x) (eval_sum n f x)

  pub eval_zero : (p : List A) (x : A) → IsZero O p → eval O p x ≡ 𝟘
  eval_zero [] x h = simp evals
  eval_zero (c ∷ p) x h = simp (evals, h.0, eval_zero p x h.1, ring, F)

  pub elem_eval : (p : List A) (x : A) → All Elem p → Elem x → Elem (eval O p x)
  unfolding eval
  elem_eval [] x h e = F.elem_zero
  elem_eval (c ∷ p) x h e = F.elem_add _ _ h.0 (F.elem_mul _ _ e (elem_eval p x h.1 e))

  pub elem_padd : (p q : List A) → All Elem p → All Elem q → All Elem (padd O p q)
  elem_padd [] q h k = k
  elem_padd (a ∷ p) [] h k = h
  elem_padd (a ∷ p) (b ∷ q) h k = (F.elem_add _ _ h.0 k.0, elem_padd p q h.1 k.1)

  pub elem_scale : (a : A) (q : List A) → Elem a → All Elem q → All Elem (scale O a q)
  elem_scale a [] e h = tt
  elem_scale a (b ∷ q) e h = (F.elem_mul _ _ e h.0, elem_scale a q e h.1)

  pub elem_pmul : (p q : List A) → All Elem p → All Elem q → All Elem (pmul O p q)
  elem_pmul [] q h k = tt
  elem_pmul (a ∷ p) q h k = elem_padd (scale O a q) _ (elem_scale a q h.0 k) (F.elem_zero, elem_pmul p q h.1 k)

  pub elem_psum : (n : ℕ) (f : ℕ → List A) → ((k : ℕ) → k < n → All Elem (f k)) → All Elem (psum O n f)
  elem_psum zero f h = tt
  elem_psum (suc n) f h = elem_padd (psum O n f) _ (elem_psum n f (λ k l. h k (omega arith))) (h n (omega arith))
