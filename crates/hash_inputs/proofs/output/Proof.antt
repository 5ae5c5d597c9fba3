-- `hash_inputs::output` meets its contract. Assumes nothing.
use mathlib.Core.Path.{ap, ◌∙◌}
use borrow.Author.Rules.{rules}
use lib.ListN.{length}
use Rattle.stream.specs.Stream.{squeezed}
use Rattle.hash_inputs.proofs.output.Statement.{statement}
use Rattle.hash_inputs.proofs.output.Tie as tie

returns : tie.Need-returns
returns c =
    let q = c in
    let f = q in
    q.squeeze.ensures.0 ∙ ap (λ t. squeezed t (length f.args.out.now)) f.finish-f.ensures

pub output_spec : {M : Type 1} → statement M
output_spec = tie.close (tie.spec (λ c κs. search rules) (λ c κs. search rules) (λ c. search rules) returns)
