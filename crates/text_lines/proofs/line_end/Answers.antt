-- `text_lines::line_end` meets its contract: a digit goes on, a line end is the end, and else there is none. Assumes nothing.
use Rattle.std.proofs.Common.{sym, arith, ◌∙◌}
use Rattle.slices.specs.Found.{found_some, found_none}
use Rattle.text_lines.proofs.Laws.{end_here, end_later, end_other, end_none}
use Rattle.text_lines.proofs.line_end.Goals as goal

pub loop-i-preserved : goal.loop-i-preserved
loop-i-preserved c = c.loop-i.invariant ∙ end_later c.args.text.now c.loop-i.i c.loop-i-test.true (sym c.in-Value.ensures)

pub returns-in-LineEnd : goal.returns-in-LineEnd
returns-in-LineEnd c =
    let e = c.loop-i.invariant ∙ end_here c.args.text.now c.loop-i.i c.loop-i-test.true (sym c.in-LineEnd.ensures) in
    rw e (sym (found_some _ _ c.loop-i-test.true))

pub returns-in-Other : goal.returns-in-Other
returns-in-Other c =
    let e = c.loop-i.invariant ∙ end_other c.args.text.now c.loop-i.i c.loop-i-test.true (sym c.in-Other.ensures) in
    rw e (sym (found_none _ _ (omega arith)))

pub returns : goal.returns
returns c =
    let e = c.loop-i.invariant ∙ end_none c.args.text.now c.loop-i.i (omega arith) in
    rw e (sym (found_none _ _ (omega arith)))
