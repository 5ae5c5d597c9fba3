use Rattle.std.proofs.Common.{◌≡◌, ◌+◌, ◌*◌, take}
use Rattle.stream.specs.Stream.{sponge, absorbed}
use Rattle.absorb.proofs.add_lanes.Given as goal

abbrev pub invariant-loop-i : goal.invariant-loop-i
invariant-loop-i l = sponge l.lanes (8 * (l.k + l.i)) ≡ absorbed (sponge l.fn.lanes (8 * l.k)) (take (8 * l.i) l.src)
