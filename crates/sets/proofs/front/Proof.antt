-- `sets::front` meets its contract. Assumes nothing.
use mathlib.Core.Path.{ap}
use native.Mathlib.Nat.{sub-zero}
use lib.ListN.{take}
use borrow.Author.Rules.{rules}
use Rattle.sets.proofs.front.Statement.{statement}
use Rattle.sets.proofs.front.Tie as tie

pub front_spec : {M : Type 1} → statement M
front_spec =
    tie.close
    (tie.spec (λ c. search rules) (λ c. search rules) (λ c. search rules)
    (λ c. let a = c.args in ap (λ n. take n a.public.now) (sub-zero a.shape.front)))
