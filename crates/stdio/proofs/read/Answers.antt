-- `stdio::read`: at least one byte a turn, and no more than were asked for. Assumes nothing.
use Rattle.std.proofs.Common.{rules, arith, length, ◌≤◌, ◌<◌, ◌+◌}
use Rattle.std.specs.Counts.{IsPrefixLen}
use Rattle.stdio.proofs.Laws.{bytes_some, ended_counted}
use Rattle.stdio.proofs.read.Goals as goal

-- what a turn adds
some : (c : goal.In-Ok-Some) → (0 < c.in-Ok-Some.more) × (c.loop-done.done + c.in-Ok-Some.more ≤ length c.args.text.now)
some c =
    let moved = bytes_some _ c.read.result c.in-Ok-Some.more c.read.ensures.bound (grind arith) in
    search (rules, arith, moved)

pub overflow_add-done : goal.overflow_add-done
overflow_add-done c = search (arith, some c)

pub loop-done-smaller : goal.loop-done-smaller
loop-done-smaller c = search (arith, some c)

pub loop-done-preserved : goal.loop-done-preserved
loop-done-preserved c = search (rules, arith, some c)

pub returns-in_default : goal.returns-in_default
returns-in_default c = rw c.ended.ensures (ended_counted (λ n. IsPrefixLen n _) c.loop-done.done _ (search (rules, arith)))
