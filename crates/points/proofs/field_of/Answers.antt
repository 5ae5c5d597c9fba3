-- A valid set's field is that of 32 bits or that of 48.
use Rattle.points.proofs.Laws.{powers_32, powers_48}
use Rattle.points.proofs.field_of.Goals as goal

pub returns-then-set-eq4-clause-powers : goal.returns-then-set-eq4-clause-powers
returns-then-set-eq4-clause-powers c = powers_32 c.args.set.shape c.if-set-eq4.true

pub returns-else-set-eq4-clause-powers : goal.returns-else-set-eq4-clause-powers
returns-else-set-eq4-clause-powers c = powers_48 c.args.set.shape c.if-set-eq4.false
