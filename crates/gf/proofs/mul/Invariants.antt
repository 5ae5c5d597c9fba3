-- The sum so far and what the rest of the bits add to it.
use Rattle.std.proofs.Common.{◌≡◌, ◌<◌, ◌-◌}
use Rattle.std.specs.Int.Bits.{bit_xor}
use Rattle.field.specs.Linear.{combine, orbit}
use Rattle.field.specs.Ring.{xtime, mul as product}
use Rattle.gf.proofs.mul.Given as goal

abbrev pub invariant-loop : goal.invariant-loop
invariant-loop l =
    (l.x < l.end) × (bit_xor l.sum (combine (orbit (l.bits - l.counter) (xtime l.bits l.low) l.x) l.rest) ≡ product l.bits l.low l.a l.b)
