-- `heads::h1` meets its contract. Assumes nothing.
use borrow.Author.Rules.{rules}
use Rattle.heads.proofs.Laws.{h1_is}
use Rattle.heads.proofs.h1.Statement.{statement}
use Rattle.heads.proofs.h1.Tie as tie

pub h1_spec : {M : Type 1} → statement M
h1_spec =
    tie.close (tie.spec (λ c. search rules) (λ c. search rules) (λ c. search rules) (λ c. h1_is c.args.s.now))
