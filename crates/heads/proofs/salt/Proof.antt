-- `heads::salt` meets its contract. Assumes nothing.
use borrow.Author.Rules.{rules}
use Rattle.heads.proofs.Laws.{salt_is}
use Rattle.heads.proofs.salt.Statement.{statement}
use Rattle.heads.proofs.salt.Tie as tie

pub salt_spec : {M : Type 1} → statement M
salt_spec =
    tie.close (tie.spec (λ c. search rules) (λ c. search rules) (λ c. search rules) (λ c. salt_is c.args.s.now))
