-- The sum so far and what the rest of the bits add to it.
use Rattle.std.proofs.Common.{◌≡◌, drop}
use Rattle.std.specs.Int.Bits.{bit_xor}
use Rattle.field.specs.Linear.{combine}
use Rattle.tables.proofs.combination.Given as goal

abbrev pub invariant-loop-power : goal.invariant-loop-power
invariant-loop-power l = bit_xor l.sum (combine (drop l.power-index l.p) l.rest) ≡ combine l.p l.v
