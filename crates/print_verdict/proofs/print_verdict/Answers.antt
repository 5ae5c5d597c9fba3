-- `print_verdict::print_verdict` meets its contract. Assumes nothing.
use Rattle.print_verdict.proofs.Laws.{accepted_written, refused_written}
use Rattle.print_verdict.proofs.print_verdict.Goals as goal

pub returns-then-verdict-eq0 : goal.returns-then-verdict-eq0
returns-then-verdict-eq0 c =
    let told = accepted_written c.args.verdict c.args.out.now c.if-verdict-eq0.true c.copy_at.ensures in
    record { value = told.0; out_after = told.1 }

pub returns : goal.returns
returns c =
    let told = refused_written c.args.verdict c.args.out.now c.if-verdict-eq0.false
    (c.print_refusal.ensures.value, c.print_refusal.ensures.out_after) in
    record { value = told.0; out_after = told.1 }
