-- A turn adds the entries for one byte.
use Rattle.dots.proofs.Sums.{tabled_none, tabled_more}
use Rattle.dots.proofs.dot_tables.Goals as goal

pub loop-k-init : goal.loop-k-init
loop-k-init c = tabled_none _ _

pub loop-k-preserved : goal.loop-k-preserved
loop-k-preserved c = tabled_more _ _ c.loop-k.k c.loop-k.invariant c.entries-sum.ensures
