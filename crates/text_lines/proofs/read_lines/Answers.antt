-- `text_lines::read_lines` meets its contract: of a text that breaks the form nothing is put into `out`. Assumes nothing.
use Rattle.std.proofs.Common.{length, sym, ap, ◌∙◌}
use Rattle.banquet.specs.Answer.{Answer, output_after}
use Rattle.banquet.specs.Card.{decoded_lines}
use Rattle.verdict.specs.Tests.{returned}
use Rattle.text_lines.specs.Form.{broken}
use Rattle.text_lines.proofs.read_lines.Goals as goal

pub returns-in_err-check_lines-clause-out_after : goal.returns-in_err-check_lines-clause-out_after
returns-in_err-check_lines-clause-out_after c =
    let a = c.args in
    let is = sym c.check_lines.ensures ∙ c.in_err-check_lines.was in
    let file = decoded_lines (length a.sizes.now) a.text.now in
    sym (ap (λ (r : Answer). output_after r file a.out.now) (returned _ c.from_residual.ensures.1 ∙ sym is)
    ∙ (broken a.sizes.now a.message 1 a.text.now is).output file a.out.now)
