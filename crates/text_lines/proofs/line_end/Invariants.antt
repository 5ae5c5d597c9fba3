-- `text_lines::line_end`: the line end of the whole is that of what is left. Assumes nothing.
use Rattle.std.proofs.Common.{◌≡◌, ◌+◌, drop}
use Rattle.text_lines.specs.Lines.{line_end}
use Rattle.text_lines.proofs.line_end.Given as goal

abbrev pub invariant-loop-i : goal.invariant-loop-i
invariant-loop-i l = line_end l.text ≡ l.i + line_end (drop l.i l.text)
