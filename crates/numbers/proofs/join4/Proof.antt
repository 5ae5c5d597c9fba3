-- `numbers::join4` meets its contract: Horner's rule multiplied out. Assumes nothing.
use native.Mathlib.Omega.{arith}
use Rattle.slices.specs.Numbers.{number}
use Rattle.numbers.proofs.join4.Statement.{statement}
use Rattle.numbers.proofs.join4.Tie as tie

returns : tie.Need-returns
unfolding number
returns c = omega arith

pub join4_spec : {M : Type 1} → statement M
join4_spec =
    tie.close
    (tie.spec (λ c. omega arith) (λ c. omega arith) (λ c. omega arith) (λ c. omega arith) (λ c. omega arith) (λ c. omega arith) returns)
