-- A turn writes what the tables give for its bytes.
use Rattle.std.proofs.Common.{arith}
use Rattle.std.proofs.Math.Nat.{mul_comm}
use Rattle.slices.proofs.Fill.{filling_more, filling_all}
use Rattle.opened.proofs.rows.Goals as goal

pub dot_tables-requires : goal.dot_tables-requires
dot_tables-requires c = omega (arith, c.args.set.valid.twenty, mul_comm c.args.set.shape.m1 c.args.set.shape.m2)

pub loop-j-preserved : goal.loop-j-preserved
loop-j-preserved c = filling_more c.loop-j.invariant (omega arith) c.dot_tables.ensures

pub returns : goal.returns
returns c = filling_all c.loop-j.invariant (omega arith)
