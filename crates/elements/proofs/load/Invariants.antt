use Rattle.std.proofs.Common.{length}
use Rattle.slices.specs.Numbers.{number_at}
use Rattle.slices.proofs.Fill.{Filling}
use Rattle.elements.proofs.load.Given as goal

abbrev pub invariant-loop-k : goal.invariant-loop-k
invariant-loop-k l = Filling (λ k. number_at l.w k l.s) (length l.fn.out) l.fn.out l.k l.out
