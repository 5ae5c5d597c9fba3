-- Sums over the numbers below a bound. Assumes nothing.
use Rattle.std.specs.Prelude.{◌≡◌, ◌≢◌, Bool, true, false, eqb}
use Rattle.std.proofs.Math.Path.{refl, sym}
use Rattle.std.proofs.Common.{◌∙◌, ap, ap₂, arith}
use Prim.Native.Nat.{ℕ, zero, suc, ◌<◌}
use Rattle.std.proofs.Math.Decide.{ℕ_discrete}
use Rattle.poly.specs.Field.{Ops, BinaryField, ring, add_zero, zero_add, add_self, mul_comm}
use Rattle.slices.specs.Lists.{choose}
use Rattle.poly.specs.Index.{at, at_same, at_other, update}

-- f 0 + .. + f (n - 1)
unfoldable pub sum : {A : Type 0} → Ops A → ℕ → (ℕ → A) → A
sum O zero f = O.zero
sum O (suc n) f = O.add (sum O n f) (f n)

pub sum_suc : {A : Type 0} (O : Ops A) (n : ℕ) (f : ℕ → A) → sum O (suc n) f ≡ O.add (sum O n f) (f n)
unfolding sum
sum_suc O n f = refl

pub sum_cong : {A : Type 0} (O : Ops A) (n : ℕ) {f g : ℕ → A} → ((k : ℕ) → k < n → f k ≡ g k) → sum O n f ≡ sum O n g
unfolding sum
sum_cong O zero h = refl
sum_cong O (suc n) h = ap₂ O.add (sum_cong O n (λ k l. h k (omega arith))) (h n (omega arith))

pub sum_choose : {A : Type 0} (O : Ops A) (t : Bool) (n : ℕ) (f g : ℕ → A)
    → sum O n (λ i. choose t (f i) (g i)) ≡ choose t (sum O n f) (sum O n g)
sum_choose O true n f g = refl
sum_choose O false n f g = refl

pub sum_each : {A : Type 0} (O : Ops A) (k m n : ℕ) (f g : ℕ → A)
    → sum O n (λ i. at k m (f i) (g i)) ≡ at k m (sum O n f) (sum O n g)
unfolding at
sum_each O k m n f g = sum_choose O (eqb k m) n f g

module _ {A : Type 0} {O : Ops A} {Elem : A → Type 0} (F : BinaryField O Elem) where
  open O use {add as ◌⊕◌, mul as ◌⊗◌, inv, zero as 𝟘, one as 𝟙}

  infixl 60 ◌⊕◌
  infixl 70 ◌⊗◌
  pub sum_zero : (n : ℕ) (f : ℕ → A) → ((k : ℕ) → k < n → f k ≡ 𝟘) → sum O n f ≡ 𝟘
  unfolding sum
  sum_zero zero f h = refl
  sum_zero (suc n) f h = rw (sum_suc, sum_zero n f (λ k l. h k (omega arith)), h n (omega arith)) (add_zero F 𝟘)

  pub sum_add : (n : ℕ) (f g : ℕ → A) → sum O n (λ k. f k ⊕ g k) ≡ sum O n f ⊕ sum O n g
  unfolding sum
  sum_add zero f g = sym (add_zero F 𝟘)
  sum_add (suc n) f g = simp sum_suc (rw (sum_add n f g) (simp (ring, F)))

  pub sum_mul : (n : ℕ) (c : A) (f : ℕ → A) → sum O n (λ k. c ⊗ f k) ≡ c ⊗ sum O n f
  unfolding sum
  sum_mul zero c f = simp (ring, F)
  sum_mul (suc n) c f = simp sum_suc (rw (sum_mul n c f) (simp (ring, F)))

  pub sum_mul_right : (n : ℕ) (f : ℕ → A) (c : A) → sum O n (λ k. f k ⊗ c) ≡ sum O n f ⊗ c
  sum_mul_right n f c = sum_cong O n (λ k l. mul_comm F (f k) c) ∙ sum_mul n c f ∙ mul_comm F c _

  pub sum_swap : (n m : ℕ) (f : ℕ → ℕ → A) → sum O n (λ i. sum O m (f i)) ≡ sum O m (λ j. sum O n (λ i. f i j))
  unfolding sum
  sum_swap zero m f = sym (sum_zero m _ (λ k l. refl))
  sum_swap (suc n) m f = simp sum_suc (rw (sum_swap n m f) (sym (sum_add m _ (f n))))

  -- a sum with one term that may differ from zero
  pub sum_only : (n : ℕ) (f : ℕ → A) (j : ℕ) → j < n → ((k : ℕ) → k < n → k ≢ j → f k ≡ 𝟘) → sum O n f ≡ f j
  unfolding sum
  sum_only zero f j l h = absurd (omega arith)
  sum_only (suc n) f j l h = go (ℕ_discrete j n) (λ m. sum_only n f j m (λ k lk. h k (omega arith)))
    where
      go : Dec (j ≡ n) → (j < n → sum O n f ≡ f j) → sum O n f ⊕ f n ≡ f j
      go (yes e) r = rw (e, sum_zero n f (λ k lk. h k (omega arith) (omega arith))) (zero_add F (f n))
      go (no ne) r = rw (h n (omega arith) (omega arith), r (omega arith)) (add_zero F (f j))

  pub elem_sum : (n : ℕ) (f : ℕ → A) → ((k : ℕ) → k < n → Elem (f k)) → Elem (sum O n f)
  unfolding sum
  elem_sum zero f h = F.elem_zero
  elem_sum (suc n) f h = F.elem_add _ _ (elem_sum n f (λ k l. h k (omega arith))) (h n (omega arith))

  -- One party adds a value: the sum has it once.
  pub sum_at : (n j : ℕ) (a : A) → j < n → sum O n (λ i. at i j a 𝟘) ≡ a
  sum_at n j a l = sum_only n _ j l (λ k lk ne. at_other k j a 𝟘 ne) ∙ at_same j j a 𝟘 refl

  move : (u v w : A) → u ⊕ v ≡ w → u ≡ v ⊕ w
  move u v w h = let e : u ≡ v ⊕ (u ⊕ v) = simp (ring, F) in e ∙ ap (v ⊕◌) h

  pub sum_update : (n : ℕ) (G : ℕ → A → A) (f : ℕ → A) (j : ℕ) (a : A) → j < n
      → sum O n (λ i. G i (update f j a i)) ≡ sum O n (λ i. G i (f i)) ⊕ (G j a ⊕ G j (f j))
  sum_update n G f j a l =
      move _ _ _
      (sym (sum_add n _ _) ∙ sum_only n _ j l (λ k lk ne. rw (at_other k j a (f k) ne) (add_self F (G k (f k))))
      ∙ ap (λ u. G j u ⊕ G j (f j)) (at_same j j a (f j) refl))
