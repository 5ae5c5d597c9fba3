use Rattle.std.proofs.Common.{◌∙◌, refl, ap}
use Rattle.slices.specs.Lists.{tab}
use Rattle.slices.specs.Tab.{tab_list}
use Rattle.slices.proofs.Fill.{filling_none, filling_more, filling_all}
use Rattle.slices.proofs.copy.Goals as goal

pub loop-i-init : goal.loop-i-init
loop-i-init c = filling_none refl

pub loop-i-preserved : goal.loop-i-preserved
loop-i-preserved c = filling_more c.loop-i.invariant c.loop-i-test.true refl

pub returns : goal.returns
returns c = filling_all c.loop-i.invariant c.loop-i-test.false ∙ (ap (tab _) c.requires ∙ tab_list _)
