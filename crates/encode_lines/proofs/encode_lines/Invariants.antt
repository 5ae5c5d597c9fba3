-- `encode_lines::encode_lines`: a turn writes a line. Assumes nothing.
use Rattle.encode_lines.proofs.Writing.{Writing}
use Rattle.encode_lines.proofs.encode_lines.Given as goal

abbrev pub invariant-loop-i : goal.invariant-loop-i
invariant-loop-i l = Writing l.sizes l.s l.fn.out l.i l.p l.out
