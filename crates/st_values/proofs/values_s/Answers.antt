-- A turn writes S_j.
use Rattle.std.proofs.Common.{arith, ap₂}
use Rattle.std.specs.Int.Bits.{bit_xor}
use Rattle.slices.proofs.Fill.{filling_more, filling_all}
use Rattle.sets.specs.Laws.{wide_field}
use Rattle.forms.specs.Point.{value_s}
use Rattle.st_values.proofs.values_s.Goals as goal

pub mul-scaled-requires : goal.mul-scaled-requires
mul-scaled-requires c = (wide_field c.args.set.valid).fits

pub mul-requires : goal.mul-requires
mul-requires c = (wide_field c.args.set.valid).fits

pub loop-j-preserved : goal.loop-j-preserved
unfolding value_s
loop-j-preserved c = filling_more c.loop-j.invariant (omega arith) (ap₂ bit_xor c.mul-scaled.ensures c.mul.ensures)

pub returns : goal.returns
returns c = filling_all c.loop-j.invariant (omega arith)
