-- `siblings::sibling_seeds` meets its contract. A seed is copied, and the rest of the output lent to a call. Assumes nothing.
use mathlib.Core.Path.{◌≡◌, ◌∙◌}
use Prim.Native.Nat.{◌-◌, ◌*◌, ◌≤◌}
use native.Mathlib.Omega.{arith}
use lib.ListN.{length}
use Rattle.slices.proofs.Put.{Wrote, lent_long}
use Rattle.nodes.proofs.Halves.{Halved, halved}
use Rattle.siblings.proofs.Siblings.{shift_lt, shift_is, Step, step_left, step_right, seed_at, first, both, siblings_none}
use Rattle.siblings.proofs.+sibling_seeds.Goals as goal
use Rattle.siblings.proofs.+sibling_seeds.Goals.{then-half-hidden, else-half-hidden}

pub overflow_shl-half : goal.overflow_shl-half
overflow_shl-half t c = shift_lt (halved c.args.node c.args.depth (omega (arith, c.if-depth-gt0.true)) c.requires.3)

pub sibling_seeds-requires : goal.sibling_seeds-requires
sibling_seeds-requires t c =
    let a = c.args in
    let k = c.if-half-hidden in
    let out = a.out.now in
    let p = c.children-seeds.result in
    let e = c.children-seeds.ensures in
    let b : Halved a.node a.depth = halved a.node a.depth (omega (arith, c.if-depth-gt0.true)) c.requires.3 in
    let size : length out ≡ a.depth * 16 = c.requires.2 in
    let room : 16 ≤ length out = omega (arith, size, b.deep) in
    let step : Step a.salt.now a.e a.node a.seed.now p a.hidden a.depth k.child k.leaf k.own =
    elim k.branch [
      | then-half-hidden w ↦ step_right a.salt.now a.e a.node a.seed.now e a.hidden b (shift_is b) w.if-half-hidden.true w.child-is w.leaf-is w.own-is
      | else-half-hidden w ↦ step_left a.salt.now a.e a.node a.seed.now e a.hidden b (shift_is b) w.if-half-hidden.false w.child-is w.leaf-is w.own-is
    ] in
    let wrote : Wrote out (seed_at (16 - k.own) p) 16 c.copy_at.new.dst = first _ step.other c.copy_at.ensures c.copy_at.auto.dst in
    (omega (arith, c.decreases, b.deep), (c.requires.0, step.own, lent_long (length out) wrote (omega arith) ∙ omega (arith, size), step.fits))

pub returns-after-half-hidden : goal.returns-after-half-hidden
returns-after-half-hidden t c =
    let a = c.args in
    let k = c.if-half-hidden in
    let out = a.out.now in
    let p = c.children-seeds.result in
    let e = c.children-seeds.ensures in
    let b : Halved a.node a.depth = halved a.node a.depth (omega (arith, c.if-depth-gt0.true)) c.requires.3 in
    let size : length out ≡ a.depth * 16 = c.requires.2 in
    let room : 16 ≤ length out = omega (arith, size, b.deep) in
    let step : Step a.salt.now a.e a.node a.seed.now p a.hidden a.depth k.child k.leaf k.own =
    elim k.branch [
      | then-half-hidden w ↦ step_right a.salt.now a.e a.node a.seed.now e a.hidden b (shift_is b) w.if-half-hidden.true w.child-is w.leaf-is w.own-is
      | else-half-hidden w ↦ step_left a.salt.now a.e a.node a.seed.now e a.hidden b (shift_is b) w.if-half-hidden.false w.child-is w.leaf-is w.own-is
    ] in
    let wrote : Wrote out (seed_at (16 - k.own) p) 16 c.copy_at.new.dst = first _ step.other c.copy_at.ensures c.copy_at.auto.dst in
    both _ _ wrote room c.sibling_seeds.auto.out ∙ step.joined c.sibling_seeds.ensures

pub returns-else-depth-gt0 : goal.returns-else-depth-gt0
returns-else-depth-gt0 t c = siblings_none _ _ _ _ _ _ c.args.out.now (omega (arith, c.if-depth-gt0.false)) c.requires.2
