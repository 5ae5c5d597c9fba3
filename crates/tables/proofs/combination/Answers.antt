-- A turn adds the next element where the lowest of v's bits that are left is set.
use Rattle.std.proofs.Common.{arith, get_or, ◌%◌, ◌∙◌}
use Rattle.gf.proofs.Product.{pick_zero, pick_one}
use Rattle.tables.proofs.Picked.{combine_turn, combine_end}
use Rattle.tables.proofs.combination.Goals as goal
use Rattle.tables.proofs.combination.Goals.{then-rest-eq1, else-rest-eq1}

pub loop-power-preserved : goal.loop-power-preserved
loop-power-preserved c =
    let l = c.loop-power in
    let p = c.args.p.now in
    combine_turn p l.power-index l.sum l.rest (omega arith)
    (elim c.if-rest-eq1.branch [
      | then-rest-eq1 w ↦ w.sum-is ∙ pick_one (l.rest % 2) l.sum (get_or p l.power-index 0) (omega arith)
      | else-rest-eq1 w ↦ w.sum-is ∙ pick_zero (l.rest % 2) l.sum (get_or p l.power-index 0) (omega arith)
    ])
    ∙ l.invariant

pub returns : goal.returns
returns c =
    let l = c.loop-power in
    combine_end c.args.p.now l.power-index l.sum l.rest (omega arith) ∙ l.invariant
