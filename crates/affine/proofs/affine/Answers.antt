-- `affine::affine` maps one element a turn. Assumes nothing.
use Rattle.std.proofs.Common.{◌∙◌, ℕ, ap, arith}
use Rattle.std.specs.Int.Bits.{bit_xor}
use Rattle.slices.proofs.Fill.{filling_more, filling_at, filling_all}
use Rattle.slices.specs.Tab.{tab_map}
use Rattle.aes.specs.Aes.{matrix}
use Rattle.affine.proofs.affine.Goals as goal

pub loop-b-preserved : goal.loop-b-preserved
loop-b-preserved c =
    filling_more c.loop-b.invariant (omega arith)
    (c.affine_byte.ensures ∙ ap (λ (b : ℕ). bit_xor (matrix b) c.args.c) (filling_at c.loop-b.invariant (omega arith)))

pub returns : goal.returns
returns c = filling_all c.loop-b.invariant (omega arith) ∙ tab_map (λ b. bit_xor (matrix b) c.args.c) c.args.s.now
