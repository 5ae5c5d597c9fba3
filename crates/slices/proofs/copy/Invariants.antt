use Rattle.std.proofs.Common.{length, get_or}
use Rattle.slices.proofs.Fill.{Filling}
use Rattle.slices.proofs.copy.Given as goal

-- the elements of src, as far as the loop has come
abbrev pub invariant-loop-i : goal.invariant-loop-i
invariant-loop-i l = Filling (λ k. get_or l.src k 0) (length l.fn.dst) l.fn.dst l.i l.dst
