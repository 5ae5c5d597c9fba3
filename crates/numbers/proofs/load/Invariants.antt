use Rattle.slices.specs.Lists.{part}
use Rattle.numbers.proofs.Turns.{Reading}
use Rattle.numbers.proofs.load.Given as goal

abbrev pub invariant-loop-b : goal.invariant-loop-b
invariant-loop-b l = Reading (part l.at l.w l.s) l.b-iterator.iter.rest.now l.x
