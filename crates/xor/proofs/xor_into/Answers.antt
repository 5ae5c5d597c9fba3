use Rattle.std.proofs.Common.{◌∙◌, refl}
use Rattle.slices.specs.Sums.{tab_zip}
use Rattle.slices.proofs.Fill.{filling_none, filling_more, filling_at, filling_all}
use Rattle.xor.proofs.xor_into.Goals as goal

pub loop-i-init : goal.loop-i-init
loop-i-init c = filling_none refl

pub loop-i-preserved : goal.loop-i-preserved
loop-i-preserved c = filling_more c.loop-i.invariant c.loop-i-test.true (rw (filling_at c.loop-i.invariant c.loop-i-test.true))

pub returns : goal.returns
returns c = filling_all c.loop-i.invariant c.loop-i-test.false ∙ tab_zip _ _ c.requires
