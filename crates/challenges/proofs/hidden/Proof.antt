-- `challenges::hidden` meets its contract. Assumes nothing.
use mathlib.Core.Path.{ap}
use Prim.Native.Nat.{◌%◌}
use borrow.Author.Rules.{rules}
use Rattle.banquet.specs.Hash.{party_of}
use Rattle.challenges.proofs.hidden.Statement.{statement}
use Rattle.challenges.proofs.hidden.Tie as tie

returns : tie.Need-returns
unfolding party_of
returns c = ap (◌% c.args.set.shape.parties) c.load-x.ensures

pub hidden_spec : {M : Type 1} → statement M
hidden_spec = tie.close (tie.spec (λ c. search rules) (λ c κs. search rules) (λ c. search rules) returns)
