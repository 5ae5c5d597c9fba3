-- The lowest number that fails a test. Assumes nothing.
use Rattle.std.specs.Prelude.{◌≡◌, ◌⊎◌, Bool, Option, Some, None}
use Rattle.std.specs.Option.{MatchOption}
use Rattle.std.proofs.Math.Path.{refl, ap}
use Rattle.std.proofs.Common.{inl, inr, sym, ap₂, ◌∙◌, add-one}
use Rattle.std.proofs.Math.Bool.{true, false}
use Rattle.std.proofs.lemmas.Bool.{true≢false, cases_lt, cases_order}
use Prim.Native.Nat.{ℕ, zero, suc, ◌+◌, ◌-◌, ◌<◌, ◌≤◌}
use Rattle.std.proofs.Math.Decide.{ℕ_discrete}
use native.Mathlib.Omega.{arith}
use Rattle.slices.specs.Lists.{choose, found}
use Rattle.slices.specs.Found.{found_some, found_none}

-- the first of the n numbers from i on that fails the test, or the number after them
unfoldable pub lowest : ℕ → ℕ → (ℕ → Bool) → ℕ
lowest zero i test = i
lowest (suc n) i test = choose (test i) (lowest n (suc i) test) i

-- ---- for a loop: at number i of n, and past the end

-- what is left of a range is one more than what is left after its next number
one_more : (n i : ℕ) → i < n → n - i ≡ suc (n - (i + 1))
one_more n i h = omega arith

module _ (test : ℕ → Bool) (n i : ℕ) where
  pub lowest_here : i < n → test i ≡ false → lowest (n - i) i test ≡ i
  unfolding lowest
  lowest_here h t = simp (one_more n i h, t)

  pub lowest_next : i < n → test i ≡ true → lowest (n - i) i test ≡ lowest (n - (i + 1)) (i + 1) test
  unfolding lowest
  lowest_next h t = rw (one_more n i h) (simp (t, add-one))

  pub lowest_end : n ≤ i → lowest (n - i) i test ≡ i
  unfolding lowest
  lowest_end h = let e : n - i ≡ 0 = omega arith in simp e

-- ---- which number it is, of the n numbers from i on

module _ (test : ℕ → Bool) where
  up_to : (n i : ℕ) → lowest n i test ≤ i + n
  unfolding lowest
  up_to zero i = omega arith
  up_to (suc n) i = go (test i) (up_to n (suc i))
    where
      go : (b : Bool) {x : ℕ} → x ≤ suc i + n → choose b x i ≤ i + suc n
      go true h = omega arith
      go false h = omega arith

  before : (n i j : ℕ) → i ≤ j → j < lowest n i test → test j ≡ true
  unfolding lowest
  before zero i j l h = absurd (omega arith)
  before (suc n) i j l h = go (test i) refl (before n (suc i) j) h (ℕ_discrete i j)
    where
      go : (b : Bool) {x : ℕ} → test i ≡ b → (suc i ≤ j → j < x → test j ≡ true) → j < choose b x i → Dec (i ≡ j) → test j ≡ true
      go true t r h (yes e) = ap test (sym e) ∙ t
      go true t r h (no ne) = r (omega arith) h
      go false t r h d = absurd (omega arith)

  fails : (n i : ℕ) → lowest n i test < i + n → test (lowest n i test) ≡ false
  unfolding lowest
  fails zero i h = absurd (omega arith)
  fails (suc n) i h = go (test i) refl (fails n (suc i)) h
    where
      go : (b : Bool) {x : ℕ} → test i ≡ b → (x < suc i + n → test x ≡ false) → choose b x i < i + suc n → test (choose b x i) ≡ false
      go true t r h = r (omega arith)
      go false t r h = t

cong : (n i : ℕ) {f g : ℕ → Bool} → ((j : ℕ) → i ≤ j → j < i + n → f j ≡ g j) → lowest n i f ≡ lowest n i g
unfolding lowest
cong zero i h = refl
cong (suc n) i {f} {g} h =
    ap₂ (λ (b : Bool) (x : ℕ). choose b x i) (h i (omega arith) (omega arith)) (cong n (suc i) (λ j l m. h j (omega arith) (omega arith)))

-- ---- the same from 0 on

module _ (test : ℕ → Bool) (n : ℕ) where
  pub lowest_le : lowest n 0 test ≤ n
  lowest_le = omega (arith, up_to test n 0)

  -- it fails the test
  pub lowest_fails : {i : ℕ} → i ≡ lowest n 0 test → i < n → test i ≡ false
  lowest_fails e h = ap test e ∙ fails test n 0 (omega arith)

  -- those below it pass
  pub lowest_before : {j : ℕ} → j < lowest n 0 test → test j ≡ true
  lowest_before {j} h = before test n 0 j (omega arith) h

  -- where it is n, all pass
  pub lowest_all : lowest n 0 test ≡ n → (i : ℕ) → i < n → test i ≡ true
  lowest_all e i h = lowest_before (omega arith)

  -- which it is
  lowest_is : {i : ℕ} → i < n → test i ≡ false → ((k : ℕ) → 0 ≤ k → k < i → test k ≡ true) → lowest n 0 test ≡ i
  lowest_is {i} h f b = go (cases_order (lowest n 0 test) i)
    where
      go : (lowest n 0 test ≡ i) ⊎ ((lowest n 0 test < i) ⊎ (i < lowest n 0 test)) → lowest n 0 test ≡ i
      go (inl e) = e
      go (inr (inl l)) = absurd (true≢false (sym (b (lowest n 0 test) (omega arith) l) ∙ lowest_fails refl (omega arith)))
      go (inr (inr m)) = absurd (true≢false (sym (lowest_before m) ∙ f))

  -- what a search over the n numbers tells: the lowest that fails, or that all pass
  pub found_lowest : (r : Option ℕ)
      → MatchOption r ((k : ℕ) → 0 ≤ k → k < n → test k ≡ true)
      (λ i. (0 ≤ i) × (i < n) × (test i ≡ false) × ((k : ℕ) → 0 ≤ k → k < i → test k ≡ true)) → r ≡ found n (lowest n 0 test)
  found_lowest (Some i) h =
      let e = lowest_is h.1 h.2 h.3 in
      sym (ap (found n) e ∙ found_some n i h.1)
  found_lowest None h = sym (found_none n (lowest n 0 test) (go (cases_lt (lowest n 0 test) n)))
    where
      go : (lowest n 0 test < n) ⊎ (n ≤ lowest n 0 test) → n ≤ lowest n 0 test
      go (inl l) = absurd (true≢false (sym (h (lowest n 0 test) (omega arith) l) ∙ lowest_fails refl l))
      go (inr m) = m

-- tests that agree on the n numbers give the same
pub lowest_cong : (n : ℕ) {f g : ℕ → Bool} → ((i : ℕ) → i < n → f i ≡ g i) → lowest n 0 f ≡ lowest n 0 g
lowest_cong n h = cong n 0 (λ j l m. h j (omega arith))
