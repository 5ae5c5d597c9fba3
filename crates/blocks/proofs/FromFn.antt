-- An array whose element i is f i, made by the library's `from_fn` of a closure that only reads. Assumes nothing.
use Rattle.std.proofs.Common.{◌≡◌, ◌∙◌, sym, subst, ℕ, zero, suc, ◌+◌, ◌<◌, ◌≤◌, List, get_or, arith, refl}
use Rattle.std.specs.Array.{IsFromFnResultFrom, IsFromFnResult}
use Rattle.std.proofs.Math.Decide.{ℕ_discrete}
use Rattle.std.specs.Fn.{Mut, Called}
use Rattle.slices.specs.Lists.{tab}
use Rattle.slices.specs.Tab.{tab_cong, tab_sized}

module _ {F : Type 0} {g : Mut F (ℕ × Unit {0}) ℕ} {c : F} (f : ℕ → ℕ) (call : (i y : ℕ) (q : F) → Called g c (i, tt) y q → (q ≡ c) × (y ≡ f i)) where
  each_made : (ys : List ℕ) (i n : ℕ) (p : F) → p ≡ c → IsFromFnResultFrom g p ys i n → (k : ℕ) → i ≤ k → k < i + n → get_or ys k 0 ≡ f k
  each_made ys i zero p e made k h l = absurd (omega arith)
  each_made ys i (suc n) p e (q, y, is, called, rest) k h l =
      let met : (q ≡ c) × (y ≡ f i) = call i y q (subst (λ (p : F). Called g p (i, tt) y q) e called) in
      elim (ℕ_discrete i k) [
        | yes same ↦ subst (λ (j : ℕ). get_or ys j 0 ≡ f j) same (is.1 0 ∙ met.1)
        | no other ↦ each_made ys (i + 1) n q met.0 rest k (omega arith) (omega arith)
      ]

  pub from_fn_tab : {ys : List ℕ} {n : ℕ} → IsFromFnResult g c ys n → ys ≡ tab f n
  from_fn_tab {ys} {n} made =
      sym (tab_sized ys made.long) ∙ tab_cong n (λ i l. each_made ys 0 n c refl made.each i (omega arith) (omega arith))
