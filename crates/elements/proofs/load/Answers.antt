use Rattle.std.proofs.Common.{refl}
use Rattle.slices.proofs.Fill.{filling_none, filling_more, filling_all}
use Rattle.elements.proofs.load.Goals as goal

pub loop-k-init : goal.loop-k-init
loop-k-init c = filling_none refl

pub loop-k-preserved : goal.loop-k-preserved
loop-k-preserved c = filling_more c.loop-k.invariant c.loop-k-test.true c.load.ensures

pub returns : goal.returns
returns c = filling_all c.loop-k.invariant c.loop-k-test.false
