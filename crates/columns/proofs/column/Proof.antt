-- `columns::column` meets its contract: after i turns the parts of the first i rows are written. Assumes nothing.
use mathlib.Core.Path.{◌≡◌}
use Prim.Native.Nat.{ℕ, ◌+◌, ◌-◌, ◌*◌, ◌≤◌}
use native.Mathlib.Omega.{arith}
use lib.ListN.{length}
use borrow.Author.Rules.{rules}
use Rattle.slices.specs.Lists.{row, part}
use Rattle.slices.proofs.Rows.{Stacking, stacking_none, stacking_more, stacking_all, row_fits}
use Rattle.columns.proofs.Laws.{cell_cut, cell_long}
use Rattle.columns.proofs.column.Statement.{statement}
use Rattle.columns.proofs.column.Tie as tie

abbrev invariant-loop : tie.invariant-loop-i
invariant-loop n stride at len rows out₀ i₀ out i =
    (i ≤ n) × Stacking (λ i. part at len (row stride i rows)) len i (n * len) out

abbrev decreases-loop : tie.decreases-loop-i
decreases-loop n stride at len rows out₀ i₀ out i = n - i

abbrev start : tie.At-loop-i invariant-loop decreases-loop → tie.Start invariant-loop decreases-loop
start k = k.before.before.before

module _ (c : tie.In-loop-i invariant-loop decreases-loop) where
  abbrev s : tie.Start invariant-loop decreases-loop
  s = start c.before

  abbrev i : ℕ
  i = c.before.loop-i.i

  -- the part of row i, and row i of the output
  read : i * s.args.stride + s.args.at + s.args.len ≤ length s.args.rows.now
  read = omega (arith, row_fits s.args.stride c.loop-i-test.true, s.requires)

  write : i * s.args.len + s.args.len ≤ s.args.n * s.args.len
  write = row_fits s.args.len c.loop-i-test.true

  long : length c.before.loop-i.out ≡ s.args.n * s.args.len
  long = c.before.loop-i.invariant.1.long

copy-at-requires : tie.Need-copy_at-requires invariant-loop decreases-loop
copy-at-requires c κs =
    let t = c.before.before in
    let g = (s t).args in
    omega (arith, cell_long g.stride g.at g.len (i t) g.rows.now (read t), write t, long t)

loop-again : tie.Need-loop-i-preserved invariant-loop decreases-loop
loop-again c =
    let k = c.before.before.copy_at in
    let t = c.before.before.before.before.before in
    let g = (s t).args in (
      omega arith,
      stacking_more t.before.loop-i.invariant.1 (cell_long g.stride g.at g.len (i t) g.rows.now (read t))
          (cell_cut g.stride g.at g.len (i t) g.rows.now (s t).requires.1) (write t) k.ensures,
    )

returns : tie.Need-returns invariant-loop decreases-loop
returns c =
    let k = c.before in
    let e : k.loop-i.i ≡ (start k).args.n = omega arith in
    stacking_all (rw e at k.loop-i.invariant.1) (omega arith)

pub column_spec : {M : Type 1} → statement M
column_spec =
    tie.close
    (tie.spec invariant-loop decreases-loop (λ c. (search rules, stacking_none _ _ c.before.before.requires.2)) (λ c. omega (arith, read c))
    (λ c. omega (arith, read c)) (λ c. omega (arith, read c)) (λ c. omega (arith, write c.before, long c.before)) (λ c. search rules)
    (λ c. search rules) (λ c. read c.before) copy-at-requires (λ c. search rules) (λ c. search rules) loop-again (λ c. search rules) returns)
