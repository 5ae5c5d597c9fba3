-- `gf::top` meets its contract: nothing is shifted out. Assumes nothing.
use native.Mathlib.Omega.{arith}
use lib.Dec.{lit<}
use lib.Pow.{shl_exact}
use borrow.Author.Rules.{rules}
use Rattle.gf.proofs.top.Statement.{statement}
use Rattle.gf.proofs.top.Tie as tie

returns : tie.Need-returns
returns c = omega (arith, shl_exact {a = 1} 1 c.args.bits 64 (lit< tt) (omega arith))

pub top_spec : {M : Type 1} → statement M
top_spec = tie.close (tie.spec (λ c. search rules) returns)
