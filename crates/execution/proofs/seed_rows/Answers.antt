-- After i turns the first i rows are written; the tape is scratch.
use Rattle.std.proofs.Common.{◌≡◌, ◌∙◌, length}
use Rattle.slices.specs.Layout.{total}
use Rattle.slices.proofs.Rows.{stacking_lent, row_fits}
use Rattle.banquet.specs.Shape.{tape_sizes}
use Rattle.forms.specs.Party.{committed, worked_row}
use Rattle.party_shares.proofs.Laws.{front_long}
use Rattle.execution.proofs.Laws.{drawn_row}
use Rattle.execution.proofs.seed_rows.Goals as goal

pub loop-i-preserved : goal.loop-i-preserved
loop-i-preserved c =
    let a = c.args in
    let i = c.loop-i.i in
    let size = c.tape_length-size.ensures in
    -- the tape keeps its length
    let long : length c.loop-i.tape ≡ total (tape_sizes a.set.shape) = c.loop-i.auto.tape ∙ front_long _ size.0 size.1 in
    stacking_lent c.loop-i.invariant (row_fits _ c.loop-i-test.true)
    (drawn_row c.requires.0.valid
    (worked_row a.set.shape (committed a.front.now a.key.now a.inverse.now) a.product.now a.first.now a.far.now a.given a.tables.now a.last i)
    a.salt.now a.e i a.seeds.now c.party_row.ensures c.hash.ensures long)
    c.party_row.auto.out
