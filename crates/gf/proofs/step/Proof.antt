-- `gf::step` meets its contract. Assumes nothing.
use native.Mathlib.Omega.{arith}
use borrow.Author.Rules.{rules}
use Rattle.gf.proofs.Product.{doubled, reduced, reduced_lt}
use Rattle.gf.proofs.step.Statement.{statement}
use Rattle.gf.proofs.step.Tie as tie

returns : tie.Need-returns-then-twice-end
returns c =
    let a = c.args in
    (doubled a.bits a.low a.a c.requires.0 (omega arith), search rules)

returns-2 : tie.Need-returns-else-twice-end
returns-2 c =
    let a = c.args in
    let e = c.requires.0 in (
      reduced a.bits a.low a.a e (omega arith) (omega arith),
      reduced_lt a.bits a.low a.a e (omega arith) (omega arith) (omega arith),
    )

pub step_spec : {M : Type 1} → statement M
step_spec = tie.close (tie.spec (λ c. omega arith) returns returns-2)
