-- A turn writes one entry.
use Rattle.std.proofs.Common.{◌∙◌, arith}
use Rattle.slices.proofs.Fill.{filling_more, filling_all}
use Rattle.tables.proofs.Picked.{entries}
use Rattle.tables.proofs.halves.Goals as goal

pub loop-n-preserved : goal.loop-n-preserved
loop-n-preserved c = filling_more c.loop-n.invariant (omega arith) c.combination.ensures

pub returns : goal.returns
returns c = filling_all c.loop-n.invariant (omega arith) ∙ entries c.args.p.now c.told-p
