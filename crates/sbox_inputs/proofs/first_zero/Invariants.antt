-- The first zero of the whole is that of what is left. Assumes nothing.
use Rattle.std.proofs.Common.{◌≡◌, ◌+◌, drop}
use Rattle.aes.specs.Aes.{first_zero}
use Rattle.sbox_inputs.proofs.first_zero.Given as goal

abbrev pub invariant-loop-i : goal.invariant-loop-i
invariant-loop-i l = l.i + first_zero (drop l.i l.s) ≡ first_zero l.s
