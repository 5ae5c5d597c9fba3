-- `nodes::children` hashes the buffer that has the input's parts. Assumes nothing.
use mathlib.Core.Path.{ap, ◌∙◌}
use borrow.Author.Rules.{rules}
use Rattle.shake.specs.Shake128.{shake128}
use Rattle.banquet.specs.Hash.{children}
use Rattle.nodes.proofs.Input.{buffer}
use Rattle.nodes.proofs.children.Statement.{statement}
use Rattle.nodes.proofs.children.Tie as tie

returns : tie.Need-returns
unfolding children
returns c =
    let seed = c in
    let salt = seed in
    let store = salt in
    let s = store in
    let a = s.args in
    c.digest.ensures
    ∙ ap (λ m. shake128 m 32)
    (buffer a.e a.node a.salt.now a.seed.now s.requires store.store.ensures salt.copy_at.ensures seed.copy_at-2.ensures)

pub children_spec : {M : Type 1} → statement M
children_spec =
    tie.close
    (tie.spec (λ c. search rules) (λ c. search rules) (λ c. search rules) (λ c κs. search rules) (λ c. search rules) (λ c κs. search rules)
    (λ c. search rules) (λ c κs. search rules) (λ c. search rules) (λ c. search rules) (λ c κs. search rules) returns)
