-- `permutation::permute` meets its contract: at the loop's head, s is the state after 2 i rounds. Assumes nothing.
use mathlib.Core.Path.{◌≡◌, refl, ap, ap₂, ◌∙◌}
use mathlib.Core.List.{List}
use Prim.Native.Nat.{ℕ, suc, ◌+◌, ◌*◌, ◌≤◌, ◌-◌}
use native.Mathlib.Numerals.{add-one}
use native.Mathlib.Omega.{arith}
use borrow.Author.Rules.{rules}
use lib.ListN.{get_or}
use Rattle.keccak.specs.Keccak.{keccak_f, rounds, round, round_constants}
use Rattle.permutation.specs.State.{plane, state, masked}
use Rattle.permutation.proofs.Steps.{joined_cong, masked_twice, rounds_of}
use Rattle.permutation.proofs.permute.Statement.{statement}
use Rattle.permutation.proofs.permute.Tie as tie

-- a turn: rounds 2 i and 2 i + 1
two_more : (i : ℕ) (a : List ℕ) {b r : List ℕ}
    → r ≡ round (get_or round_constants (2 * i + 1) 0) (round (get_or round_constants (2 * i) 0) b) → b ≡ rounds (2 * i) a → r ≡ rounds (2 * (i + 1)) a
unfolding rounds
two_more i a {b} e h =
    let n : 2 * (i + 1) ≡ suc (suc (2 * i)) = omega arith in
    rw (n, ← h) (e ∙ ap (λ k. round (get_or round_constants k 0) (round (get_or round_constants (2 * i) 0) b)) (add-one (2 * i)))

abbrev invariant-loop : tie.invariant-loop-i
invariant-loop a table s₀ i₀ s i = (i ≤ 12) × (masked (state s) ≡ rounds (2 * i) (masked (state s₀)))

abbrev decreases-loop : tie.decreases-loop-i
decreases-loop a table s₀ i₀ s i = 12 - i

loop-holds : tie.Need-loop-i-init invariant-loop decreases-loop
unfolding rounds
loop-holds c = (omega arith, refl)

loop-again : tie.Need-loop-i-preserved invariant-loop decreases-loop
loop-again c =
    let h = c.loop-i in
    (search rules, two_more h.i _ c.two_rounds-t.ensures h.invariant.1)

returns : tie.Need-returns invariant-loop decreases-loop
unfolding keccak_f plane state
returns c =
    let off = c in
    let h = off in
    let on = h in
    let p4 = on in
    let p3 = p4 in
    let p2 = p3 in
    let p1 = p2 in
    let p0 = p1 in
    let start = p0 in
    let last : 2 * h.loop-i.i ≡ 24 = omega (arith, h.loop-i.invariant, off.loop-i-test) in
    off.with_mask-t.ensures ∙ h.loop-i.invariant.1
    ∙ ap₂
    rounds
    last
    (ap masked on.with_mask-s.ensures ∙ masked_twice (state _) refl
    ∙ joined_cong p0.cut.ensures p1.cut-2.ensures p2.cut-3.ensures p3.cut-4.ensures p4.cut-5.ensures)
    ∙ rounds_of start.args.a.now 23

pub permute_spec : {M : Type 1} → statement M
permute_spec =
    tie.close
    (tie.spec
    invariant-loop
    decreases-loop
    (λ c κs. omega arith) (λ c κs. omega arith) (λ c κs. omega arith) (λ c κs. omega arith) (λ c κs. omega arith)
    (λ c κs. tt)
    loop-holds
    (λ c. search rules) (λ c. search rules) (λ c. search rules) (λ c. search rules) (λ c. search rules) (λ c. search rules) (λ c. search rules)
    (λ c κs. tt)
    (λ c. search rules) (λ c. search rules)
    loop-again
    (λ c κs. tt)
    returns)
