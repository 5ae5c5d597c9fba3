-- `hex_digits::encode` meets its contract: each turn stores a digit. Assumes nothing.
use Rattle.std.proofs.Common.{arith, refl, ap, ◌∙◌}
use Rattle.slices.specs.Lists.{tab}
use Rattle.slices.specs.Bytes.{bytes_of}
use Rattle.slices.proofs.Fill.{filling_none, filling_more, filling_all}
use Rattle.hex_digits.proofs.Laws.{digit_at, tab_encoded}
use Rattle.hex_digits.proofs.encode.Goals as goal

pub loop-i-init : goal.loop-i-init
loop-i-init c = filling_none refl

pub loop-i-preserved : goal.loop-i-preserved
loop-i-preserved c = filling_more c.loop-i.invariant (omega arith) cc

pub returns : goal.returns
returns c =
    filling_all c.loop-i.invariant (omega arith) ∙ ap (tab (digit_at c.args.s.now)) c.requires
    ∙ tab_encoded c.args.s.now (bytes_of c.type_inv.s)
