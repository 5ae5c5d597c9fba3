-- `text_lines::check_lines`: the answer to the whole is the answer to the lines that are left. Assumes nothing.
use Rattle.std.proofs.Common.{◌≡◌, ◌≤◌, length}
use Rattle.text_lines.proofs.Checked.{checked}
use Rattle.text_lines.proofs.check_lines.Given as goal

abbrev pub invariant-loop-i : goal.invariant-loop-i
invariant-loop-i l = (l.at ≤ length l.text) × (checked l.message l.sizes l.text 0 0 ≡ checked l.message l.sizes l.text l.i l.at)
