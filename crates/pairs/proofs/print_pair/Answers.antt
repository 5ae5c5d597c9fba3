-- `pairs::print_pair` meets its contract: the public key's line, or the refusal's. Assumes nothing.
use Rattle.std.proofs.Common.{rules, arith}
use Rattle.pairs.proofs.Laws.{key_written, form_written, other_written}
use Rattle.pairs.proofs.print_pair.Goals as goal

pub returns-then-verdict-eq0 : goal.returns-then-verdict-eq0
returns-then-verdict-eq0 c =
    let told = key_written c.args.verdict c.args.public.now c.args.n c.args.out.now c.requires.0 c.if-verdict-eq0.true c.encode_lines.ensures
    (search (rules, arith)) in
    record { value = told.0; out_after = told.1 }

pub returns-then-verdict-eq18 : goal.returns-then-verdict-eq18
returns-then-verdict-eq18 c =
    let told = form_written c.args.verdict c.args.public.now c.args.n c.args.out.now _ _ c.if-verdict-eq18.true
    (c.print_refusal.ensures.value, c.print_refusal.ensures.out_after) in
    record { value = told.0; out_after = told.1 }

pub returns : goal.returns
returns c =
    let told = other_written c.args.verdict c.args.public.now c.args.n c.args.out.now _ _ c.if-verdict-eq0.false c.if-verdict-eq18.false
    (c.print_verdict.ensures.value, c.print_verdict.ensures.out_after) in
    record { value = told.0; out_after = told.1 }
