-- `share_check::compare_rows` meets its contract: the lowest row that differs, or else the sums. Assumes nothing.
use Rattle.share_check.proofs.Rows.{row_differs, rows_agree}
use Rattle.share_check.proofs.compare_rows.Goals as goal

pub returns-in-Some : goal.returns-in-Some
returns-in-Some c =
    let a = c.args in
    row_differs a.set.shape a.ciphertext.now a.e a.hidden a.made.now a.stated.now c.row_length-len.ensures.0 c.in-Some.ensures

pub returns : goal.returns
returns c =
    let a = c.args in
    rows_agree a.set.shape a.ciphertext.now a.e a.hidden a.made.now a.stated.now c.row_length-len.ensures.0 c.in_default.ensures c.check_sums.ensures.value
