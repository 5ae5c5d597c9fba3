-- `stdio::ended`: by what the last read said. Assumes nothing.
use Rattle.std.proofs.Common.{refl}
use Rattle.stdio.specs.Outcome.{ended}
use Rattle.stdio.proofs.ended.Goals as goal

pub returns-in-Ok : goal.returns-in-Ok
unfolding ended
returns-in-Ok c = rw c.in-Ok.is refl

pub returns-in-Err : goal.returns-in-Err
unfolding ended
returns-in-Err c = rw c.in-Err.is refl
