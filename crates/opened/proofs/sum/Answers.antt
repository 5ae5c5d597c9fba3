-- The fold is the sum.
use Rattle.std.proofs.Common.{rules}
use Rattle.opened.proofs.Laws.{sum_folded}
use Rattle.opened.proofs.sum.Goals as goal

pub returns : goal.returns
returns c = sum_folded c.args.s.now (search rules)
