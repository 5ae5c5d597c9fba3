-- `check_signature::check_products` meets its contract: number 15, then the hashes; only the front of the work slice is written. Assumes nothing.
use Rattle.std.proofs.Common.{sym, ◌∙◌, ◌*◌, arith}
use Rattle.sets.specs.Bounds.{rows_most}
use Rattle.scratch.proofs.Laws.{scratch_front}
use Rattle.check_signature.proofs.Answers.{product_refused, products_hold}
use Rattle.check_signature.proofs.check_products.Goals as goal

pub returns-in-Some-clause-value : goal.returns-in-Some-clause-value
returns-in-Some-clause-value c =
    let a = c.args in
    product_refused a.set.shape a.public.now a.message.now a.s.now c.in-Some.ensures

pub returns-clause-value : goal.returns-clause-value
returns-clause-value c =
    let a = c.args in
    c.check_hashes.ensures ∙ sym (products_hold a.set.shape a.public.now a.message.now a.s.now c.in_default.ensures)

pub returns-clause-scratch : goal.returns-clause-scratch
returns-clause-scratch c =
    let a = c.args in
    scratch_front (a.set.shape.parties * c.row_length.result) a.work.now c.check_hashes.new.rows
    (omega (arith, rows_most c.requires.0.valid c.row_length.ensures.1)) c.requires.1 c.check_hashes.auto.rows
