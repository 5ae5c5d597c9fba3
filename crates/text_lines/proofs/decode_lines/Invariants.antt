-- `text_lines::decode_lines`: a turn reads a line. Assumes nothing.
use Rattle.text_lines.proofs.Reading.{Reading}
use Rattle.text_lines.proofs.decode_lines.Given as goal

abbrev pub invariant-loop : goal.invariant-loop
invariant-loop l = Reading l.message l.sizes l.text l.fn.out l.index l.at l.p l.out
