-- The loop fills the slice.
use Rattle.slices.proofs.Fill.{Filling}
use Rattle.tables.proofs.Picked.{entry}
use Rattle.tables.proofs.halves.Given as goal

abbrev pub invariant-loop-n : goal.invariant-loop-n
invariant-loop-n l = Filling (entry l.p) 32 l.fn.out l.n l.out
