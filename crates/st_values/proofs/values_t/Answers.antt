-- A turn writes T_j.
use Rattle.std.proofs.Common.{arith, ap, get_or}
use Rattle.std.specs.Int.Bits.{bit_xor}
use Rattle.slices.proofs.Fill.{filling_more, filling_all}
use Rattle.sets.specs.Laws.{wide_field}
use Rattle.forms.specs.Point.{value_t}
use Rattle.st_values.proofs.values_t.Goals as goal

pub mul-requires : goal.mul-requires
mul-requires c = (wide_field c.args.set.valid).fits

pub loop-j-preserved : goal.loop-j-preserved
unfolding value_t
loop-j-preserved c = filling_more c.loop-j.invariant (omega arith) (ap (bit_xor (get_or c.args.rows.now c.loop-j.j 0)) c.mul.ensures)

pub returns : goal.returns
returns c = filling_all c.loop-j.invariant (omega arith)
