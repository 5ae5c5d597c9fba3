-- The row of each turn.
use Rattle.std.proofs.Common.{arith, get_or}
use Rattle.slices.proofs.Fill.{filling_more, filling_all}
use Rattle.offsets.proofs.Laws.{row_product}
use Rattle.offsets.proofs.products.Goals as goal

pub loop-k-preserved : goal.loop-k-preserved
loop-k-preserved c =
    let a = c.args in
    let k = c.loop-k.k in
    filling_more c.loop-k.invariant (omega arith)
    (row_product a.set.shape a.first.now a.extra.now a.us.now a.vs.now k (get_or a.lasts.now k 0) (get_or a.shares.now k 0) c.product-p.ensures)

pub returns : goal.returns
returns c = filling_all c.loop-k.invariant (omega arith)
