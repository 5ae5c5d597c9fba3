-- Each half of the output is lent to a call.
use Rattle.std.proofs.Common.{arith, ◌∙◌, ◌≤◌, ◌/◌, length}
use Rattle.nodes.proofs.Halves.{halved, both_long, join}
use Rattle.tree.proofs.Halves.{first_half, second_half}
use Rattle.tree.proofs.Leaves.{leaves_none, leaves_from}
use Rattle.tree.proofs.+expand.Goals as goal

pub expand-requires : goal.expand-requires
expand-requires t c =
    let b = halved _ _ (omega (arith, c.if-depth-eq0.false)) c.requires.3 in
    let long = both_long _ _ _ _ c.children-pair.ensures in
    (omega (arith, b.deep), (c.requires.0, omega (arith, long), first_half b c.args.out.now c.requires.2, b.left))

pub expand-requires-else-depth-eq0 : goal.expand-requires-else-depth-eq0
expand-requires-else-depth-eq0 t c =
    let b = halved _ _ (omega (arith, c.if-depth-eq0.false)) c.requires.3 in
    let long = both_long _ _ _ _ c.children-pair.ensures in
    let room = second_half b c.args.out.now c.requires.2 c.expand.new.out c.expand.auto.out in
    (omega (arith, b.deep), (c.requires.0, omega (arith, long), room, b.right))

pub returns-then-depth-eq0 : goal.returns-then-depth-eq0
returns-then-depth-eq0 t c = leaves_none _ _ _ _ _ c.if-depth-eq0.true c.copy.ensures

pub returns-else-depth-eq0 : goal.returns-else-depth-eq0
returns-else-depth-eq0 t c =
    let a = c.args in
    let d = a.out.now in
    let deep : 1 ≤ a.depth = omega arith in
    join d c.expand.new.out (length d / 2) (omega arith) c.expand.auto.out c.expand-else-depth-eq0.new.out
    ∙ leaves_from a.salt.now a.e a.node a.seed.now c.children-pair.ensures a.depth deep c.expand.ensures c.expand-else-depth-eq0.ensures
