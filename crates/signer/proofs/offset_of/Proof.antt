-- `signer::offset_of` meets its contract: the value, and then the shares added to it. Assumes nothing.
use mathlib.Core.Path.{ap, ◌∙◌}
use borrow.Author.Rules.{rules}
use Rattle.slices.specs.Lists.{zip_xor}
use Rattle.signer.proofs.offset_of.Statement.{statement}
use Rattle.signer.proofs.offset_of.Tie as tie

returns : tie.Need-returns
returns c =
    let at_xor_into = c in
    let at_copy = at_xor_into in
    let s = at_copy in
    at_xor_into.xor_into.ensures ∙ ap (λ t. zip_xor t s.args.shares.now) at_copy.copy.ensures

pub offset_of_spec : {M : Type 1} → statement M
offset_of_spec =
    tie.close (tie.spec (λ c κs. search rules) (λ c κs. search rules) (λ c. search rules) returns)
