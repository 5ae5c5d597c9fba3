-- `encode_lines::encode_lines` meets its contract: a turn writes a line. Assumes nothing.
use Rattle.std.proofs.Common.{arith}
use Rattle.encode_lines.proofs.Writing.{writing_none, writing_lent, writing_room, writing_more, writing_all}
use Rattle.encode_lines.proofs.encode_lines.Goals as goal

pub loop-i-init : goal.loop-i-init
loop-i-init c = writing_none c.args.sizes.now c.args.s.now c.args.out.now c.requires.0 c.requires.1

pub encode-requires : goal.encode-requires
encode-requires c = writing_lent c.loop-i.invariant c.loop-i-test.true

pub bounds-out-b : goal.bounds-out-b
bounds-out-b c = writing_room c.loop-i.invariant c.loop-i-test.true c.encode.new.out c.encode.auto.out

pub loop-i-preserved : goal.loop-i-preserved
loop-i-preserved c = writing_more c.loop-i.invariant c.loop-i-test.true c.encode.ensures c.encode.auto.out

pub returns : goal.returns
returns c = writing_all c.loop-i.invariant (omega (arith, c.loop-i.invariant.upto))
