-- `permutation::two_rounds` meets its contract: at the loop's head, s is the state after k of the two rounds. Assumes nothing.
use mathlib.Core.Path.{◌≡◌, refl, ap, ◌∙◌}
use mathlib.Core.Logic.{⊎_elim}
use mathlib.Core.List.{List}
use Prim.Native.Nat.{ℕ, zero, suc, ◌+◌, ◌-◌, ◌≤◌}
use native.Mathlib.Omega.{arith}
use borrow.Author.Rules.{rules}
use Rattle.keccak.specs.Keccak.{round}
use Rattle.permutation.specs.State.{state, masked}
use Rattle.permutation.proofs.two_rounds.Statement.{statement}
use Rattle.permutation.proofs.two_rounds.Tie as tie

-- the state after k of the rounds with constants c and d
unfoldable after : ℕ → ℕ → List ℕ → ℕ → List ℕ
after c d a zero = a
after c d a (suc zero) = round c a
after c d a (suc (suc k)) = round d (round c a)

after_first : (c d rc : ℕ) (a b : List ℕ) (k : ℕ) → k ≡ 0 → rc ≡ c → b ≡ after c d a k → round rc b ≡ after c d a (k + 1)
unfolding after
after_first c d rc a b k z e h = rw (z, e) (ap (round c) (h ∙ ap (after c d a) z))

after_second : (c d rc : ℕ) (a b : List ℕ) (k : ℕ) → k ≡ 1 → rc ≡ d → b ≡ after c d a k → round rc b ≡ after c d a (k + 1)
unfolding after
after_second c d rc a b k z e h = rw (z, e) (ap (round d) (h ∙ ap (after c d a) z))

abbrev invariant-loop : tie.invariant-loop-k
invariant-loop rc0 rc1 s₀ k₀ s k = (k ≤ 2) × (masked (state s) ≡ after rc0 rc1 (masked (state s₀)) k)

abbrev decreases-loop : tie.decreases-loop-k
decreases-loop rc0 rc1 s₀ k₀ s k = 2 - k

loop-holds : tie.Need-loop-k-init invariant-loop decreases-loop
unfolding after
loop-holds c = (omega arith, refl)

loop-again : tie.Need-loop-k-preserved invariant-loop decreases-loop
loop-again c =
    let j = c in
    let h = j.loop-k in
    let a = j.args in
    let st = masked (state a.a) in
    let now = masked (state h.s) in (
      omega (arith, h.invariant.0, j.loop-k-test.true),
      c.step_round-t.ensures
          ∙ ⊎_elim
          (λ w. after_first a.rc0 a.rc1 j.if-k-eq0.rc st now h.k w.if-k-eq0.true w.rc-is h.invariant.1)
          (λ w. after_second a.rc0 a.rc1 j.if-k-eq0.rc st now h.k (omega (arith, w.if-k-eq0.false, j.loop-k-test.true)) w.rc-is h.invariant.1)
          j.if-k-eq0.branch-raw,
    )

returns : tie.Need-returns invariant-loop decreases-loop
unfolding after
returns c =
    let h = c.loop-k in
    let a = c.args in
    let last : h.k ≡ 2 = omega arith in
    h.invariant.1 ∙ ap (after a.rc0 a.rc1 (masked (state a.a))) last

pub two_rounds_spec : {M : Type 1} → statement M
two_rounds_spec =
    tie.close
    (tie.spec invariant-loop decreases-loop loop-holds (λ c κs. tt) (λ c. search rules) (λ c. search rules) loop-again returns)
