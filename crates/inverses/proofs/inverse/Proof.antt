-- `inverses::inverse` reads the table of inverses: the table, computed, is that of the inverses. Assumes nothing.
use native.Mathlib.Omega.{arith}
use borrow.Author.Rules.{rules}
use Rattle.slices.specs.Tab.{get_d_tab}
use Rattle.field.specs.Linear.{combine, orbit}
use Rattle.field.specs.Ring.{xtime, times}
use Rattle.field.specs.Field.{iterate, ones_power, inverse}
use Rattle.field.specs.Byte.{inverse8}
use Rattle.inverses.proofs.inverse.Statement.{statement}
use Rattle.inverses.proofs.inverse.Tie as tie

returns : tie.Need-returns
unfolding xtime times combine orbit iterate ones_power inverse
returns c = get_d_tab inverse8 256 c.args.a 0 (omega arith)

pub inverse_spec : {M : Type 1} → statement M
inverse_spec = tie.close (tie.spec (λ c. search rules) returns)
