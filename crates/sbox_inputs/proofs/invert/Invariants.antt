use Rattle.std.proofs.Common.{length, get_or}
use Rattle.slices.proofs.Fill.{Filling}
use Rattle.field.specs.Byte.{inverse8}
use Rattle.sbox_inputs.proofs.invert.Given as goal

abbrev pub invariant-loop-i : goal.invariant-loop-i
invariant-loop-i l = Filling (λ k. inverse8 (get_or l.fn.s k 0)) (length l.fn.s) l.fn.s l.i l.s
