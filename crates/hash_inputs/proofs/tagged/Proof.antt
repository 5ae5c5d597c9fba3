-- `hash_inputs::tagged` meets its contract: the byte is absorbed, and then the hash. Assumes nothing.
use mathlib.Core.Path.{ap, ◌∙◌}
use mathlib.Core.List.{[], ◌∷◌}
use borrow.Author.Rules.{rules}
use Rattle.stream.specs.Stream.{absorbed}
use Rattle.stream.proofs.Stream.{joined}
use Rattle.hash_inputs.proofs.tagged.Statement.{statement}
use Rattle.hash_inputs.proofs.tagged.Tie as tie

returns : tie.Need-returns
returns c =
    let n = c in
    let a = n.args in
    joined (a.tag ∷ []) a.h.now (c.absorb-a.ensures ∙ ap (λ s. absorbed s (a.tag ∷ [])) n.new.ensures) c.absorb.ensures

pub tagged_spec : {M : Type 1} → statement M
tagged_spec =
    tie.close
    (tie.spec (λ c κs. search rules) (λ c. search rules) (λ c κs. search rules) (λ c κs. search rules) returns)
