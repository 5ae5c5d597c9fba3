-- The products of the pairs so far are added.
use Rattle.std.proofs.Common.{◌≡◌, length}
use Rattle.dots.proofs.Sums.{dotted}
use Rattle.dots.proofs.dot.Given as goal

abbrev pub invariant-loop-value : goal.invariant-loop-value
invariant-loop-value l = l.sum ≡ dotted l.bits l.low l.values l.coefficients (length l.yielded)
