-- `party::hash` meets its contract: the buffer holds the hash's input. Assumes nothing.
use mathlib.Core.Path.{ap, ◌∙◌}
use lib.ListN.{length}
use borrow.Author.Rules.{rules}
use Rattle.shake.specs.Shake128.{shake128}
use Rattle.party.specs.Party.{party_hash}
use Rattle.party.proofs.Laws.{buffer}
use Rattle.party.proofs.hash.Statement.{statement}
use Rattle.party.proofs.hash.Tie as tie

returns : tie.Need-returns
unfolding party_hash
returns c =
    let second = c in
    let first = second in
    let s = first in
    let a = s.args in
    c.digest.ensures
    ∙ ap (λ m. shake128 m (length a.out.now))
    (buffer a.tag a.e a.i a.salt.now a.seed.now s.requires first.copy_at.ensures second.copy_at-2.ensures)

pub hash_spec : {M : Type 1} → statement M
hash_spec =
    tie.close
    (tie.spec (λ c. search rules) (λ c. search rules) (λ c. search rules) (λ c. search rules) (λ c κs. search rules) (λ c. search rules)
    (λ c κs. search rules) (λ c. search rules) (λ c κs. search rules) (λ c. search rules) returns)
