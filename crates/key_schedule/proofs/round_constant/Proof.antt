-- `key_schedule::round_constant` reads the table of the round constants. Assumes nothing.
use mathlib.Core.Path.{refl}
use borrow.Author.Rules.{rules}
use Rattle.aes.specs.Aes.{round_constants}
use Rattle.key_schedule.proofs.round_constant.Statement.{statement}
use Rattle.key_schedule.proofs.round_constant.Tie as tie

returns : tie.Need-returns
unfolding round_constants
returns c = refl

pub round_constant_spec : {M : Type 1} → statement M
round_constant_spec = tie.close (tie.spec (λ c. search rules) returns)
