-- `hex_digits::encode`: the loop fills `out` with the digits. Assumes nothing.
use Rattle.std.proofs.Common.{length}
use Rattle.slices.proofs.Fill.{Filling}
use Rattle.hex_digits.proofs.Laws.{digit_at}
use Rattle.hex_digits.proofs.encode.Given as goal

abbrev pub invariant-loop-i : goal.invariant-loop-i
invariant-loop-i l = Filling (digit_at l.s) (length l.fn.out) l.fn.out l.i l.out
