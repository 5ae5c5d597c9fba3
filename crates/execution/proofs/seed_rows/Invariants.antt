-- Each party's tape is drawn and its row filled.
use Rattle.std.proofs.Common.{◌*◌}
use Rattle.slices.specs.Lists.{row}
use Rattle.slices.proofs.Rows.{Stacking}
use Rattle.banquet.specs.Sets.{scheme_of}
use Rattle.banquet.specs.Hash.{tape as tape_of}
use Rattle.forms.specs.Party.{committed, worked_row}
use Rattle.execution.proofs.seed_rows.Given as goal

abbrev pub invariant-loop-i : goal.invariant-loop-i
invariant-loop-i l =
    Stacking (λ i. worked_row l.set.shape (committed l.front l.key l.inverse) l.product l.first l.far l.given l.tables l.last i
    (tape_of (scheme_of l.set.shape) l.salt l.e i (row 16 i l.seeds))) l.len l.i (l.n * l.len) l.out
