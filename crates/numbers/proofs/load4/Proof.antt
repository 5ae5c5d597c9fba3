-- `numbers::load4` meets its contract: the four bytes are the part. Assumes nothing.
use mathlib.Core.Path.{ap, ◌∙◌}
use native.Mathlib.Omega.{arith}
use Rattle.slices.specs.Numbers.{number}
use Rattle.numbers.proofs.Turns.{four_bytes}
use Rattle.numbers.proofs.load4.Statement.{statement}
use Rattle.numbers.proofs.load4.Tie as tie

returns : tie.Need-returns
returns c =
    let start = c in
    c.join4.ensures ∙ ap number (four_bytes start.args.s.now start.args.at start.requires)

pub load4_spec : {M : Type 1} → statement M
load4_spec =
    tie.close
    (tie.spec
    (λ c. omega arith) (λ c. omega arith) (λ c. omega arith) (λ c. omega arith) (λ c. omega arith) (λ c. omega arith) (λ c. omega arith)
    (λ c κs. tt)
    returns)
