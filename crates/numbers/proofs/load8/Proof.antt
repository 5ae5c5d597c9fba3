-- `numbers::load8` meets its contract: four bytes, and four above them. Assumes nothing.
use mathlib.Core.Path.{ap₂, ◌∙◌}
use Prim.Native.Nat.{◌+◌, ◌*◌, ◌^◌}
use native.Mathlib.Omega.{arith}
use Rattle.numbers.proofs.Turns.{eight_bytes}
use Rattle.numbers.proofs.load8.Statement.{statement}
use Rattle.numbers.proofs.load8.Tie as tie

returns : tie.Need-returns
returns c =
    let start = c in
    ap₂ (λ x y. x + 2 ^ 32 * y) c.load4.ensures c.load4-2.ensures
    ∙ eight_bytes start.args.s.now start.args.at start.requires

pub load8_spec : {M : Type 1} → statement M
load8_spec =
    tie.close
    (tie.spec
    (λ c κs. omega arith) (λ c. omega arith) (λ c. omega arith) (λ c κs. omega arith)
    (λ c. omega arith) (λ c. omega arith) (λ c. omega arith)
    returns)
