use Rattle.std.proofs.Common.{◌∙◌, ap, arith}
use Rattle.slices.proofs.Fill.{filling_more, filling_at, filling_all}
use Rattle.slices.specs.Tab.{tab_map}
use Rattle.field.specs.Byte.{inverse8}
use Rattle.sbox_inputs.proofs.invert.Goals as goal

pub loop-i-preserved : goal.loop-i-preserved
loop-i-preserved c = filling_more c.loop-i.invariant (omega arith) (c.inverse.ensures ∙ ap inverse8 (filling_at c.loop-i.invariant (omega arith)))

pub returns : goal.returns
returns c = filling_all c.loop-i.invariant (omega arith) ∙ tab_map inverse8 c.args.s.now
