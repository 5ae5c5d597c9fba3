-- `scratch::clear` meets its contract. Assumes nothing.
use Rattle.scratch.proofs.Laws.{front_cleared}
use Rattle.scratch.proofs.clear.Goals as goal

pub returns : goal.returns
returns c = front_cleared c.args.work.now c.zero.ensures c.requires
