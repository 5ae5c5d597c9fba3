-- `absorb_rows::absorb_column` meets its contract: after i turns the parts of the first i rows are absorbed. Assumes nothing.
use mathlib.Core.Path.{◌≡◌, refl}
use Prim.Native.Nat.{ℕ, ◌+◌, ◌-◌, ◌*◌, ◌≤◌}
use native.Mathlib.Omega.{arith}
use lib.ListN.{length}
use borrow.Author.Rules.{rules}
use Rattle.slices.proofs.Rows.{row_fits}
use Rattle.columns.specs.Column.{column_of}
use Rattle.stream.specs.Stream.{absorbed}
use Rattle.absorb_rows.proofs.Laws.{one_more}
use Rattle.absorb_rows.proofs.absorb_column.Statement.{statement}
use Rattle.absorb_rows.proofs.absorb_column.Tie as tie

abbrev invariant-loop : tie.invariant-loop-i
invariant-loop n stride at len rows t₀ i₀ t i = (i ≤ n) × (t ≡ absorbed t₀ (column_of i stride at len rows))

abbrev decreases-loop : tie.decreases-loop-i
decreases-loop n stride at len rows t₀ i₀ t i = n - i

abbrev start : tie.At-loop-i invariant-loop decreases-loop → tie.Start invariant-loop decreases-loop
start k = k.before.before

module _ (c : tie.In-loop-i invariant-loop decreases-loop) where
  abbrev s : tie.Start invariant-loop decreases-loop
  s = start c.before

  abbrev i : ℕ
  i = c.loop-i.i

  -- the part of row i
  read : i * s.args.stride + s.args.at + s.args.len ≤ length s.args.rows.now
  read = omega (arith, row_fits s.args.stride c.loop-i-test.true, s.requires)

loop-holds : tie.Need-loop-i-init invariant-loop decreases-loop
unfolding absorbed
loop-holds c = (omega arith, refl)

loop-again : tie.Need-loop-i-preserved invariant-loop decreases-loop
loop-again c =
    let t = c.before.before in
    let g = (s t).args in
    (omega arith, one_more g.stride g.at g.len (i t) g.rows.now g.s (s t).requires.1 t.loop-i.invariant.1 c.absorb-u.ensures)

returns : tie.Need-returns invariant-loop decreases-loop
returns c =
    let k = c.before in
    let e : k.loop-i.i ≡ (start k).args.n = omega arith in
    rw e at k.loop-i.invariant.1

pub absorb_column_spec : {M : Type 1} → statement M
absorb_column_spec =
    tie.close
    (tie.spec invariant-loop decreases-loop loop-holds (λ c. omega (arith, read c)) (λ c. omega (arith, read c)) (λ c. omega (arith, read c))
    (λ c. search rules) (λ c. search rules) read (λ c κs. search rules) (λ c. search rules) (λ c. search rules) loop-again
    returns)
