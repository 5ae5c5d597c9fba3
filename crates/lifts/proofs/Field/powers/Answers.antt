-- The numbers and the definition's lists, computed, are one.
use Rattle.std.proofs.Common.{ap, sym}
use Rattle.field.specs.Wide32.{powers32}
use Rattle.wide48.specs.Wide48.{powers48}
use Rattle.lifts.specs.Fields.{powers_in}
use Rattle.lifts.proofs.Field.powers.Goals as goal

pub returns-in-Bits32 : goal.returns-in-Bits32
unfolding powers32
returns-in-Bits32 c = ap powers_in (sym c.in-Bits32.is)

pub returns-in-Bits48 : goal.returns-in-Bits48
unfolding powers48
returns-in-Bits48 c = ap powers_in (sym c.in-Bits48.is)
