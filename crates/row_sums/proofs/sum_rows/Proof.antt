-- `row_sums::sum_rows` meets its contract: after j turns the sum of the first j rows is there. Assumes nothing.
use mathlib.Core.Path.{sym, ap, ◌∙◌}
use Prim.Native.Nat.{ℕ, ◌≤◌, ◌+◌, ◌-◌, ◌*◌}
use native.Mathlib.Omega.{arith}
use lib.ListN.{length, length-take, length-drop}
use borrow.Author.Rules.{rules}
use Rattle.slices.specs.Lists.{row}
use Rattle.slices.proofs.Rows.{row_fits, row_long, row_cut}
use Rattle.row_sums.proofs.Laws.{Summing, summing_none, summing_more, summing_all}
use Rattle.row_sums.proofs.sum_rows.Statement.{statement}
use Rattle.row_sums.proofs.sum_rows.Tie as tie

abbrev invariant-loop : tie.invariant-loop-j
invariant-loop n rows out₀ len j₀ out j = (j ≤ n) × Summing (λ j. row len j rows) len j out

abbrev decreases-loop : tie.decreases-loop-j
decreases-loop n rows out₀ len j₀ out j = n - j

abbrev start : tie.At-loop-j invariant-loop decreases-loop → tie.Start invariant-loop decreases-loop
start k = k.before.before.before.before.before.before.before

abbrev size : tie.At-loop-j invariant-loop decreases-loop → ℕ
size k = length (start k).args.out.now

-- row j fits
fits : (c : tie.In-loop-j invariant-loop decreases-loop)
    → c.before.loop-j.j * size c.before + size c.before ≤ length (start c.before).args.rows.now
fits c = omega (arith, row_fits (size c.before) c.loop-j-test.true)

loop-holds : tie.Need-loop-j-init invariant-loop decreases-loop
loop-holds c = (search rules, summing_none c.before.before.zero.ensures)

xor-into-requires : tie.Need-xor_into-requires invariant-loop decreases-loop
xor-into-requires c κs =
    simp (length-take, length-drop) (omega (arith, fits c.before.before, c.before.before.before.loop-j.invariant.1.long))

loop-again : tie.Need-loop-j-preserved invariant-loop decreases-loop
loop-again c =
    let x = c.before.before.xor_into in
    let t = c.before.before.before.before.before in
    let k = t.before in
    let j = k.loop-j.j in
    let s = (start k).args.rows.now in
    let cut = row_cut j (size k) s in (
      omega arith,
      summing_more k.loop-j.invariant.1 cut (ap length (sym cut) ∙ row_long j (size k) s (fits t)) x.ensures,
    )

returns : tie.Need-returns invariant-loop decreases-loop
returns c = summing_all c.before.loop-j.invariant.1 (omega arith) (start c.before).requires.0

pub sum_rows_spec : {M : Type 1} → statement M
sum_rows_spec =
    tie.close
    (tie.spec invariant-loop decreases-loop (λ c κs. search rules) loop-holds (λ c. omega (arith, fits c)) (λ c. omega (arith, fits c)) (λ c. search rules)
    (λ c. search rules) (λ c. fits c.before) xor-into-requires (λ c. search rules) (λ c. search rules) loop-again (λ c. search rules) returns)
