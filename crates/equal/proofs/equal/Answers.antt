-- `equal::equal`: slices of one length are the same where each pair of bytes is. Assumes nothing.
use Rattle.std.proofs.Common.{rules, tests, sym, ◌∙◌, ne_eqb}
use Rattle.std.proofs.lemmas.Bool.Decides.{same_from_decides}
use Rattle.std.proofs.lemmas.Iterator.{YieldsList-from_slice, YieldsList-from_zip, same_from_all}
use Rattle.slices.specs.Compare.{same_refl, same_eq, same_lengths}
use Rattle.equal.proofs.equal.Goals as goal

pub returns-then-a-b : goal.returns-then-a-b
returns-then-a-b c =
    let a = c.args.a.now in
    let b = c.args.b.now in
    same_from_decides _ _
    (same_from_all c.all.new.self _ _ a b c.all.ensures.ran (YieldsList-from_zip (YieldsList-from_slice a cc) (YieldsList-from_slice b cc))
    (search rules) (λ x q k. search (rules, tests)) (λ x q k. search (rules, tests)))
    (same_eq a b, same_refl a b)

pub returns-else-a-b : goal.returns-else-a-b
returns-else-a-b c = ne_eqb _ _ c.if-a-b.false ∙ sym (same_lengths c.args.a.now c.args.b.now c.if-a-b.false)
