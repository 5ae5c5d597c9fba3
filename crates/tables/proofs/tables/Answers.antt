-- The tables of a turn are those of its coefficient.
use Rattle.std.proofs.Common.{ap, ◌∙◌, arith}
use Rattle.slices.proofs.Rows.{stacking_lent}
use Rattle.tables.specs.Tables.{halves, table_of}
use Rattle.tables.proofs.tables.Goals as goal

pub loop-k-preserved : goal.loop-k-preserved
unfolding table_of
loop-k-preserved c =
    stacking_lent c.loop-k.invariant (omega arith) (c.halves.ensures ∙ ap halves c.scaled-p.ensures) c.halves.auto.out
