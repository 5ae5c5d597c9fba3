-- `permutation::cut` meets its contract: both sides compute to the same list. Assumes nothing.
use mathlib.Core.Path.{refl}
use native.Mathlib.Nat.{add-zero}
use native.Mathlib.Omega.{arith}
use Rattle.permutation.specs.State.{plane}
use Rattle.permutation.proofs.cut.Statement.{statement}
use Rattle.permutation.proofs.cut.Tie as tie

returns : tie.Need-returns
unfolding plane
returns c = rw add-zero refl

pub cut_spec : {M : Type 1} → statement M
cut_spec =
    tie.close
    (tie.spec
    (λ c. omega arith) (λ c. omega arith)
    (λ c. omega arith) (λ c. omega arith) (λ c. omega arith)
    (λ c. omega arith) (λ c. omega arith) (λ c. omega arith)
    (λ c. omega arith) (λ c. omega arith) (λ c. omega arith)
    (λ c. omega arith) (λ c. omega arith) (λ c. omega arith)
    returns)
