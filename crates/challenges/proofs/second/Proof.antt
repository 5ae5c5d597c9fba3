-- `challenges::second` meets its contract: either return is a case of the definition. Assumes nothing.
use mathlib.Core.Path.{sym, ap, ◌∙◌}
use borrow.Author.Rules.{rules}
use Rattle.banquet.specs.Hash.{evaluation_point}
use Rattle.challenges.specs.Challenges.{moved, kept}
use Rattle.challenges.proofs.second.Statement.{statement}
use Rattle.challenges.proofs.second.Tie as tie

returns : tie.Need-returns-then-x-least
returns c =
    let x = c.load-x in
    let m = c.args.set.shape.m2 in
    sym (moved m x.result c.if-x-least.true) ∙ ap (evaluation_point m) x.ensures

returns-2 : tie.Need-returns
returns-2 c =
    let x = c.load-x in
    let m = c.args.set.shape.m2 in
    sym (kept m x.result c.if-x-least.false) ∙ ap (evaluation_point m) x.ensures

pub second_spec : {M : Type 1} → statement M
second_spec = tie.close (tie.spec (λ c. search rules) (λ c κs. search rules) (λ c. search rules) returns returns-2)
