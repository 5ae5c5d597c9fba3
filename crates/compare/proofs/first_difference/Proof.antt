-- `compare::first_difference` meets its contract. Each invariant says that the answer of the whole is the answer of what is left. Assumes nothing.
use mathlib.Core.Path.{◌≡◌, refl, sym, ap, ◌∙◌}
use mathlib.Core.Bool.{Bool, ◌||◌}
use mathlib.Core.List.{List}
use mathlib.Core.Logic.{⊎_elim}
use Rattle.std.specs.Prelude.{None}
use Prim.Native.Nat.{ℕ, ◌≤◌, ◌-◌, ◌+◌, ◌*◌}
use native.Mathlib.Nat.{sub-zero}
use native.Mathlib.Omega.{arith}
use lib.Dec.{eqb}
use lib.ListN.{length}
use borrow.Author.Rules.{rules}
use Rattle.slices.specs.Lists.{found, row, same}
use Rattle.slices.specs.Found.{found_some, found_none}
use Rattle.slices.proofs.Rows.{row_fits}
use Rattle.compare.specs.Lowest.{lowest, lowest_here, lowest_next, lowest_end}
use Rattle.compare.proofs.Laws.{alike, alike_row, alike_here, alike_next, alike_end, hidden_passes, shown_tested}
use Rattle.compare.proofs.first_difference.Statement.{statement}
use Rattle.compare.proofs.first_difference.Tie as tie

-- row i passes
abbrev passes : ℕ → ℕ → List ℕ → List ℕ → ℕ → Bool
passes len hidden a b i = eqb i hidden || same (row len i a) (row len i b)

abbrev invariant-loop : tie.invariant-loop-k
invariant-loop n len hidden a b found₀ i at k₀ k_end found k =
    (found ≡ None) × (k ≤ i * len + len) × (same (row len i a) (row len i b) ≡ alike a b (i * len + len) k)

abbrev decreases-loop : tie.decreases-loop-k
decreases-loop n len hidden a b found₀ i at k₀ k_end found k = i * len + len - k

abbrev invariant-parties : tie.invariant-parties
invariant-parties n len hidden a b found₀ i₀ found i =
    (found ≡ None) × (i ≤ n) × (lowest n 0 (passes len hidden a b) ≡ lowest (n - i) i (passes len hidden a b))

abbrev decreases-parties : tie.decreases-parties
decreases-parties n len hidden a b found₀ i₀ found i = n - i

-- row i lies in both slices
module _ (c : tie.In-parties invariant-loop decreases-loop invariant-parties decreases-parties) where
  abbrev end : ℕ
  end = c.parties.i * c.args.len + c.args.len

  fits : end ≤ c.before.before.args.n * c.before.before.args.len
  fits = row_fits c.args.len (omega arith)

  in_a : end ≤ length c.before.before.args.a.now
  in_a = omega (arith, fits)

  in_b : end ≤ length c.before.before.args.b.now
  in_b = omega (arith, fits)

parties-holds : tie.Need-parties-init invariant-loop decreases-loop invariant-parties decreases-parties
parties-holds c = (refl, search rules, rw (sub-zero c.args.n))

loop-holds : tie.Need-loop-k-init invariant-loop decreases-loop invariant-parties decreases-parties
loop-holds c =
    let turn = c.before in
    let s = turn.args in (
      turn.parties.invariant.0,
      omega arith,
      alike_row s.len turn.parties.i s.a.now s.b.now (omega (arith, in_a turn)) (omega (arith, in_b turn)),
    )

loop-again : tie.Need-loop-k-preserved invariant-loop decreases-loop invariant-parties decreases-parties
loop-again c =
    let l = c in
    let turn = l.before.before.before.before.before.before in
    let s = turn.args in (
      l.loop-k.invariant.0,
      omega arith,
      l.loop-k.invariant.2 ∙ alike_next s.a.now s.b.now (in_a turn) (in_b turn) (omega arith) c.if-a-k.false,
    )

parties-again : tie.Need-parties-preserved invariant-loop decreases-loop invariant-parties decreases-parties
parties-again c =
    let turn = c.before in
    let s = turn.args in
    let i = turn.parties.i in
    let x = same (row s.len i s.a.now) (row s.len i s.b.now) in
    let onto = turn.parties.invariant.2 in
    ⊎_elim
    (λ w. (
      w.found-is ∙ w.loop-k.invariant.0,
      omega arith,
      onto ∙ lowest_next _ _ _ (omega arith)
          (shown_tested i s.hidden x w.if-i-hidden.true ∙ w.loop-k.invariant.2 ∙ alike_end s.a.now s.b.now (in_a turn) (in_b turn) w.loop-k-test.false),
    ))
    (λ w. (
      w.found-is ∙ turn.parties.invariant.0,
      omega arith,
      onto ∙ lowest_next _ _ _ (omega arith) (hidden_passes i s.hidden x w.if-i-hidden.false),
    ))
    c.if-i-hidden.branch-raw

returns : tie.Need-returns-after-parties invariant-loop decreases-loop invariant-parties decreases-parties
returns c =
    let l = c.parties in
    let n = c.args.n in
    let e : lowest n 0 (passes c.args.len c.args.hidden c.args.a.now c.args.b.now) ≡ n =
    l.invariant.2 ∙ lowest_end _ _ _ (omega arith) ∙ omega arith in
    l.invariant.0 ∙ sym (ap (found n) e ∙ found_none n n (omega arith))

returns-2 : tie.Need-returns-then-a-k invariant-loop decreases-loop invariant-parties decreases-parties
returns-2 c =
    let l = c in
    let turn = l.before.before.before.before.before.before in
    let s = turn.args in
    let i = turn.parties.i in
    let x = same (row s.len i s.a.now) (row s.len i s.b.now) in
    let e : lowest s.n 0 (passes s.len s.hidden s.a.now s.b.now) ≡ i =
    turn.parties.invariant.2
    ∙ lowest_here _ _ _ (omega arith)
    (shown_tested i s.hidden x l.if-i-hidden.true
    ∙ l.loop-k.invariant.2 ∙ alike_here s.a.now s.b.now (in_a turn) (in_b turn) (omega arith) c.if-a-k.true) in
    sym (ap (found s.n) e ∙ found_some s.n i (omega arith))

pub first_difference_spec : {M : Type 1} → statement M
first_difference_spec =
    tie.close
    (tie.spec invariant-loop decreases-loop invariant-parties decreases-parties parties-holds (λ c. omega (arith, in_a c.before))
    (λ c. omega (arith, in_a c.before)) loop-holds (λ c. omega (arith, in_a c.before.before.before.before))
    (λ c. omega (arith, in_b c.before.before.before.before.before))
    (λ c. omega (arith, in_a c.before.before.before.before.before.before)) (λ c. search rules) loop-again
    (λ c. search rules) (λ c. search rules) parties-again returns returns-2)
