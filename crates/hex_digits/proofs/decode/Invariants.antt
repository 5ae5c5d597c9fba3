-- `hex_digits::decode`: the loop fills `out` with what the pairs stand for. Assumes nothing.
use Rattle.std.proofs.Common.{length}
use Rattle.slices.proofs.Fill.{Filling}
use Rattle.hex_digits.proofs.Laws.{pair_at}
use Rattle.hex_digits.proofs.decode.Given as goal

abbrev pub invariant-loop-i : goal.invariant-loop-i
invariant-loop-i l = Filling (pair_at l.text) (length l.fn.out) l.fn.out l.i l.out
