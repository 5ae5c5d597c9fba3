-- A turn adds x where the lowest of b's bits that are left is set.
use Rattle.std.proofs.Common.{arith, ◌<◌, ◌-◌, ◌%◌, ◌∙◌}
use Rattle.std.proofs.Math.Nat.{mod-lt, sub-zero}
use Rattle.std.proofs.Math.Pow.{pow_pos}
use Rattle.field.specs.Ring.{xtime}
use Rattle.gf.proofs.Product.{product_start, product_end, product_turn, pick_zero, pick_one}
use Rattle.gf.proofs.mul.Goals as goal
use Rattle.gf.proofs.mul.Goals.{then-rest-eq1, else-rest-eq1}

pub loop-init : goal.loop-init
loop-init c =
    let a = c.args in
    let p : 0 < c.top-end.result = omega (arith, pow_pos a.bits, c.top-end.ensures) in
    (mod-lt a.a p, rw sub-zero (product_start a.bits (xtime a.bits a.low) a.a a.b c.top-end.ensures))

pub loop-preserved : goal.loop-preserved
loop-preserved c =
    let l = c.loop in (
      c.step-x.ensures.1,
      product_turn (xtime c.args.bits c.args.low) l.sum (c.args.bits - l.counter) l.x l.rest (omega arith)
          (elim c.if-rest-eq1.branch [
            | then-rest-eq1 w ↦ w.sum-is ∙ pick_one (l.rest % 2) l.sum l.x (omega arith)
            | else-rest-eq1 w ↦ w.sum-is ∙ pick_zero (l.rest % 2) l.sum l.x (omega arith)
          ])
          c.step-x.ensures.0
          ∙ l.invariant.1,
    )

pub returns : goal.returns
returns c =
    let l = c.loop in
    product_end (xtime c.args.bits c.args.low) l.sum (c.args.bits - l.counter) l.x l.rest (omega arith) ∙ l.invariant.1
