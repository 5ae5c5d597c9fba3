-- A test of each number, where the first that fails refuses: what it answers by the lowest such, and tests that agree. Assumes nothing.
use Rattle.std.specs.Prelude.{◌≡◌, Some, None, Err, Bool}
use Rattle.std.proofs.Math.Path.{refl}
use Rattle.std.proofs.Common.{ap, ap₂, ◌∙◌, sym, arith}
use Rattle.std.proofs.Math.Bool.{true, false}
use Prim.Native.Nat.{ℕ, zero, suc, ◌+◌, ◌<◌, ◌≤◌}
use Rattle.slices.specs.Lists.{choose, found}
use Rattle.slices.specs.Found.{some_found, none_found}
use Rattle.compare.specs.Lowest.{lowest}
use Rattle.banquet.specs.declared.Refusal.{Refusal}
use Rattle.banquet.specs.Answer.{Answer, require, each}

module _ (test : ℕ → Bool) (refusal : ℕ → Refusal) (rest : Answer) where
  each_from : (n i : ℕ) → ((lowest n i test < i + n) → each n i test refusal rest ≡ Err (refusal (lowest n i test)))
      × ((i + n ≤ lowest n i test) → each n i test refusal rest ≡ rest)
  unfolding each lowest require
  each_from zero i = (λ h. absurd (omega arith), λ h. refl)
  each_from (suc n) i = go (test i) (each_from n (suc i))
    where
      go : (t : Bool)
          → ((lowest n (suc i) test < suc i + n) → each n (suc i) test refusal rest ≡ Err (refusal (lowest n (suc i) test)))
          × ((suc i + n ≤ lowest n (suc i) test) → each n (suc i) test refusal rest ≡ rest)
          → ((choose t (lowest n (suc i) test) i < i + suc n)
          → require t (refusal i) (each n (suc i) test refusal rest) ≡ Err (refusal (choose t (lowest n (suc i) test) i)))
          × ((i + suc n ≤ choose t (lowest n (suc i) test) i) → require t (refusal i) (each n (suc i) test refusal rest) ≡ rest)
      go true ih = (λ h. ih.0 (omega arith), λ h. ih.1 (omega arith))
      go false ih = (λ h. refl, λ h. absurd (omega arith))

  pub each_found : (n : ℕ) {found : ℕ} → found ≡ lowest n 0 test → found < n → each n 0 test refusal rest ≡ Err (refusal found)
  each_found n e l = (each_from n 0).0 (omega (arith, e)) ∙ ap (λ i. Err (refusal i)) (sym e)

  pub each_none : (n : ℕ) {found : ℕ} → found ≡ lowest n 0 test → n ≤ found → each n 0 test refusal rest ≡ rest
  each_none n e l = (each_from n 0).1 (omega (arith, e))

  -- the same of what a search found, or not
  pub each_some : (n : ℕ) {i : ℕ} → Some i ≡ found n (lowest n 0 test) → each n 0 test refusal rest ≡ Err (refusal i)
  each_some n e = let f = some_found n _ _ e in each_found n f.0 (omega (arith, f.0, f.1))

  pub each_no : (n : ℕ) → None ≡ found n (lowest n 0 test) → each n 0 test refusal rest ≡ rest
  each_no n e = each_none n refl (none_found n _ e)

-- tests that agree on the n numbers, and the same rest
each_same : (refusal : ℕ → Refusal) (n i : ℕ) {f g : ℕ → Bool} {r r' : Answer} → ((j : ℕ) → i ≤ j → j < i + n → f j ≡ g j) → r ≡ r'
    → each n i f refusal r ≡ each n i g refusal r'
unfolding each
each_same refusal zero i h e = e
each_same refusal (suc n) i h e =
    ap₂ (λ (t : Bool) (r : Answer). require t (refusal i) r) (h i (omega arith) (omega arith))
    (each_same refusal n (suc i) (λ j l m. h j (omega arith) (omega arith)) e)

pub each_cong : (refusal : ℕ → Refusal) (n : ℕ) {f g : ℕ → Bool} {r r' : Answer} → ((j : ℕ) → j < n → f j ≡ g j) → r ≡ r'
    → each n 0 f refusal r ≡ each n 0 g refusal r'
each_cong refusal n h e = each_same refusal n 0 (λ j l m. h j (omega arith)) e
