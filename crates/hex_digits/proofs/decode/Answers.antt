-- `hex_digits::decode` meets its contract: each turn stores what a pair stands for. Assumes nothing.
use Rattle.std.proofs.Common.{arith, refl, ◌∙◌, length}
use Rattle.slices.proofs.Fill.{filling_none, filling_more, filling_all}
use Rattle.hex_digits.proofs.Laws.{tab_decoded}
use Rattle.hex_digits.proofs.decode.Goals as goal

pub loop-i-init : goal.loop-i-init
loop-i-init c = filling_none refl

pub loop-i-preserved : goal.loop-i-preserved
loop-i-preserved c = filling_more c.loop-i.invariant (omega arith) cc

pub returns : goal.returns
returns c = filling_all c.loop-i.invariant (omega arith) ∙ tab_decoded (length c.args.out.now) c.args.text.now c.requires
