-- `steps::double` is 02 times a. Assumes nothing.
use native.Mathlib.Omega.{arith}
use Rattle.steps.specs.Steps.{double_low, double_high}
use Rattle.steps.proofs.double.Statement.{statement}
use Rattle.steps.proofs.double.Tie as tie

returns : tie.Need-returns-then-a-lt128
returns c = double_low c.args.a (omega arith)

returns-2 : tie.Need-returns-else-a-lt128
returns-2 c = double_high c.args.a (omega arith) (omega arith)

pub double_spec : {M : Type 1} → statement M
double_spec = tie.close (tie.spec returns returns-2)
