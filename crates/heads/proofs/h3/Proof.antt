-- `heads::h3` meets its contract. Assumes nothing.
use borrow.Author.Rules.{rules}
use Rattle.heads.proofs.Laws.{h3_is}
use Rattle.heads.proofs.h3.Statement.{statement}
use Rattle.heads.proofs.h3.Tie as tie

pub h3_spec : {M : Type 1} → statement M
h3_spec =
    tie.close (tie.spec (λ c. search rules) (λ c. search rules) (λ c. search rules) (λ c. h3_is c.args.s.now))
