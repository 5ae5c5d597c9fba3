-- The loop fills the slice.
use Rattle.slices.proofs.Fill.{Filling}
use Rattle.forms.specs.Point.{tabled_row}
use Rattle.opened.proofs.rows.Given as goal

abbrev pub invariant-loop-j : goal.invariant-loop-j
invariant-loop-j l = Filling (tabled_row l.set.shape l.bytes l.tables) l.set.shape.m1 l.fn.out l.j l.out
