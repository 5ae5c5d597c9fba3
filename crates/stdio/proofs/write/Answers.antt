-- `stdio::write`: at least one byte a turn, and no more than were lent. Assumes nothing.
use Rattle.std.proofs.Common.{rules, arith, length, ◌≤◌, ◌<◌, ◌+◌}
use Rattle.stdio.proofs.Laws.{bytes_some}
use Rattle.stdio.proofs.write.Goals as goal

-- what a turn adds
some : (c : goal.In-Ok-Some) → (0 < c.in-Ok-Some.more) × (c.loop-done.done + c.in-Ok-Some.more ≤ length c.args.bytes.now)
some c =
    let moved = bytes_some _ c.write.result c.in-Ok-Some.more c.write.ensures.bound (grind arith) in
    search (rules, arith, moved)

pub overflow_add-done : goal.overflow_add-done
overflow_add-done c = search (arith, some c)

pub loop-done-smaller : goal.loop-done-smaller
loop-done-smaller c = search (arith, some c)

pub loop-done-preserved : goal.loop-done-preserved
loop-done-preserved c = search (rules, arith, some c)
