use Rattle.std.proofs.Common.{length, get_or, bit_xor}
use Rattle.slices.proofs.Fill.{Filling}
use Rattle.xor.proofs.xor_into.Given as goal

-- the sums, as far as the loop has come
abbrev pub invariant-loop-i : goal.invariant-loop-i
invariant-loop-i l = Filling (λ k. bit_xor (get_or l.fn.dst k 0) (get_or l.src k 0)) (length l.fn.dst) l.fn.dst l.i l.dst
