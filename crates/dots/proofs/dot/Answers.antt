-- A turn adds the product of the next pair.
use Rattle.std.proofs.Common.{arith, rules, length, ap, sym, ◌∙◌}
use Rattle.std.proofs.lemmas.List.{length_push}
use Rattle.std.proofs.lemmas.Slice.Zip.{zip_turn, zip_end}
use Rattle.dots.proofs.Sums.{dotted, dot_none, dot_more, dot_all}
use Rattle.dots.proofs.dot.Goals as goal

pub loop-value-init : goal.loop-value-init
loop-value-init c = dot_none _ _ _ _

pub loop-value-preserved : goal.loop-value-preserved
loop-value-preserved c =
    let l = c.loop-value in
    let i = c.in-Some in
    let t = zip_turn c.args.values.now c.args.coefficients.now l.yielded c.into_iter-value-iterator.result l.value-iterator c.next.new.self c.next.result
    (search rules) (search rules) l.yielded_by (i.value, i.coefficient) i.is c.next.ensures.steps in
    dot_more _ _ _ _ (length l.yielded) l.invariant (t.2 0) (t.3 0) c.mul-sum.ensures
    ∙ ap (dotted _ _ _ _) (sym (length_push l.yielded (i.value, i.coefficient)))

pub returns : goal.returns
returns c =
    let l = c.loop-value in
    let n = zip_end c.args.values.now c.args.coefficients.now l.yielded c.into_iter-value-iterator.result l.value-iterator c.next.new.self c.next.result
    (search rules) (search rules) l.yielded_by c.in-None.is c.next.ensures.steps in
    dot_all _ _ _ _ l.invariant (omega (arith, n, c.requires.1))
