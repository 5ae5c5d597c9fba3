-- `sbox_inputs::first_zero` looks at one element a turn. Assumes nothing.
use Rattle.std.proofs.Common.{◌≡◌, sym, arith, length, add-one}
use Rattle.slices.specs.Found.{found_some, found_none}
use Rattle.aes.specs.Aes.{first_zero}
use Rattle.aes.proofs.Zero.{first_zero_here, first_zero_later, first_zero_end}
use Rattle.sbox_inputs.proofs.first_zero.Goals as goal

pub returns-then-b-eq0 : goal.returns-then-b-eq0
returns-then-b-eq0 c =
    let s = c.args.s.now in
    let e : first_zero s ≡ c.loop-i.i = omega (arith, first_zero_here s c.loop-i.i c.loop-i-test.true c.if-b-eq0.true, c.loop-i.invariant) in
    rw e (sym (found_some (length s) c.loop-i.i c.loop-i-test.true))

pub loop-i-preserved : goal.loop-i-preserved
loop-i-preserved c =
    rw add-one (omega (arith, first_zero_later c.args.s.now c.loop-i.i c.loop-i-test.true c.if-b-eq0.false, c.loop-i.invariant))

pub returns : goal.returns
returns c =
    let s = c.args.s.now in
    let e : first_zero s ≡ c.loop-i.i = omega (arith, first_zero_end s c.loop-i.i (omega arith), c.loop-i.invariant) in
    rw e (sym (found_none (length s) c.loop-i.i (omega arith)))
