-- Each half of the output is lent to a call.
use Rattle.std.proofs.Common.{ℕ, List, ◌≡◌, ◌∙◌, ◌≤◌, ◌*◌, ◌/◌, arith, length, take}
use Rattle.std.proofs.Math.Seq.{length-take-le}
use Rattle.nodes.proofs.Halves.{halved, join}
use Rattle.tree.proofs.Halves.{first_half, second_half, middle, seeds_long}
use Rattle.tree.proofs.Leaves.{shown_none, shown_left, shown_right}
use Rattle.shown.proofs.+expand_shown.Goals as goal

-- the first of the siblings' seeds
seed_long : (s : List ℕ) (d : ℕ) → length s ≡ d * 16 → 1 ≤ d → length (take 16 s) ≡ 16
seed_long s d e h = length-take-le 16 s (omega arith)

pub expand_shown-requires : goal.expand_shown-requires
expand_shown-requires t c =
    let b = halved _ _ (omega (arith, c.if-depth-eq0.false)) c.requires.3 in (
      omega (arith, b.deep),
      (c.requires.0, seeds_long _ c.args.seeds.now c.requires.1, first_half b c.args.out.now c.requires.2, b.left),
    )

pub expand-requires : goal.expand-requires
expand-requires t c =
    let b = halved _ _ (omega (arith, c.if-depth-eq0.false)) c.requires.3 in
    let room = second_half b c.args.out.now c.requires.2 c.expand_shown.new.out c.expand_shown.auto.out in
    (c.requires.0, seed_long c.args.seeds.now _ c.requires.1 b.deep, room, b.right)

pub expand-requires-else-hidden-middle : goal.expand-requires-else-hidden-middle
expand-requires-else-hidden-middle t c =
    let b = halved _ _ (omega (arith, c.if-depth-eq0.false)) c.requires.3 in
    (c.requires.0, seed_long c.args.seeds.now _ c.requires.1 b.deep, first_half b c.args.out.now c.requires.2, b.left)

pub expand_shown-requires-else-hidden-middle : goal.expand_shown-requires-else-hidden-middle
expand_shown-requires-else-hidden-middle t c =
    let b = halved _ _ (omega (arith, c.if-depth-eq0.false)) c.requires.3 in
    let first = c.expand-else-hidden-middle in
    let room = second_half b c.args.out.now c.requires.2 first.new.out first.auto.out in
    (omega (arith, b.deep), (c.requires.0, seeds_long _ c.args.seeds.now c.requires.1, room, b.right))

pub returns-then-depth-eq0 : goal.returns-then-depth-eq0
returns-then-depth-eq0 t c = shown_none _ _ _ _ _ _ _ c.if-depth-eq0.true c.requires.2 c.zero.ensures

pub returns-then-hidden-middle : goal.returns-then-hidden-middle
returns-then-hidden-middle t c =
    let a = c.args in
    let d = a.out.now in
    let b = halved _ _ (omega (arith, c.if-depth-eq0.false)) c.requires.3 in
    join d c.expand_shown.new.out (length d / 2) (omega arith) c.expand_shown.auto.out c.expand.new.out
    ∙ shown_left a.salt.now a.e a.node a.seeds.now a.hidden a.depth b.deep (middle b d c.requires.2) c.if-hidden-middle.true c.expand_shown.ensures
    c.expand.ensures

pub returns-else-hidden-middle : goal.returns-else-hidden-middle
returns-else-hidden-middle t c =
    let a = c.args in
    let d = a.out.now in
    let b = halved _ _ (omega (arith, c.if-depth-eq0.false)) c.requires.3 in
    let first = c.expand-else-hidden-middle in
    let second = c.expand_shown-else-hidden-middle in
    join d first.new.out (length d / 2) (omega arith) first.auto.out second.new.out
    ∙ shown_right a.salt.now a.e a.node a.seeds.now a.hidden a.depth b.deep (middle b d c.requires.2) c.if-hidden-middle.false first.ensures
    second.ensures
