use Rattle.std.proofs.Common.{◌≡◌, length}
use Rattle.stream.specs.Stream.{sponge, absorbed}
use Rattle.absorb.proofs.absorb.Given as goal

abbrev pub invariant-loop-rest : goal.invariant-loop-rest
invariant-loop-rest l = absorbed (sponge l.lanes l.at) l.rest ≡ absorbed l.fn.s l.src

abbrev pub decreases-loop-rest : goal.decreases-loop-rest
decreases-loop-rest l = length l.rest
