use Rattle.std.proofs.Common.{◌≡◌, refl, length, get_or, arith}
use Rattle.slices.specs.Numbers.{length_bytes_of}
use Rattle.slices.proofs.Rows.{stacking_none, stacking_more, stacking_all, row_fits}
use Rattle.elements.proofs.store.Goals as goal

pub loop-k-init : goal.loop-k-init
loop-k-init c = stacking_none _ _ c.requires.1

pub loop-k-preserved : goal.loop-k-preserved
loop-k-preserved c =
    stacking_more c.loop-k.invariant (length_bytes_of c.args.w (get_or c.args.values.now c.loop-k.k 0)) refl
    (row_fits c.args.w c.loop-k-test.true) c.store.ensures

pub returns : goal.returns
returns c =
    let e : c.loop-k.k ≡ length c.args.values.now = omega arith in
    stacking_all (rw e at c.loop-k.invariant) (omega arith)
