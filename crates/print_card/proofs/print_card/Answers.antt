-- `print_card::print_card` meets its contract: the work is zero, and the answer's line is printed. Assumes nothing.
use Rattle.print_card.proofs.Laws.{card_printed}
use Rattle.print_card.proofs.print_card.Goals as goal

pub returns : goal.returns
returns c =
    card_printed c.args.text.now c.verify_card-answer.ensures c.verdict.ensures
    (c.print_verdict-length.ensures.value, c.print_verdict-length.ensures.out_after)
