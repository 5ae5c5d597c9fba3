use Rattle.std.proofs.Common.{length, get_or}
use Rattle.std.specs.Int.Bits.{bit_xor}
use Rattle.slices.proofs.Fill.{Filling}
use Rattle.aes.specs.Aes.{matrix}
use Rattle.affine.proofs.affine.Given as goal

abbrev pub invariant-loop-b : goal.invariant-loop-b
invariant-loop-b l = Filling (λ k. bit_xor (matrix (get_or l.fn.s k 0)) l.c) (length l.fn.s) l.fn.s l.b-index l.s
