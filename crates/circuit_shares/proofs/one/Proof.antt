-- `circuit_shares::one` meets its contract. Assumes nothing.
use mathlib.Core.Path.{sym}
use Rattle.poly.specs.Index.{at_same, at_other}
use Rattle.circuit_shares.proofs.one.Statement.{statement}
use Rattle.circuit_shares.proofs.one.Tie as tie

returns : tie.Need-returns-then-i-eq0
returns c = sym (at_same c.args.i 0 1 0 c.if-i-eq0.true)

returns-2 : tie.Need-returns-else-i-eq0
returns-2 c = sym (at_other c.args.i 0 1 0 c.if-i-eq0.false)

pub one_spec : {M : Type 1} → statement M
one_spec = tie.close (tie.spec returns returns-2)
