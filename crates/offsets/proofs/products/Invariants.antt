-- The loop fills the slice.
use Rattle.std.proofs.Common.{get_or}
use Rattle.std.specs.Int.Bits.{bit_xor}
use Rattle.slices.specs.Lists.{row}
use Rattle.slices.proofs.Fill.{Filling}
use Rattle.forms.specs.Point.{product_value}
use Rattle.offsets.proofs.products.Given as goal

abbrev pub invariant-loop-k : goal.invariant-loop-k
invariant-loop-k l =
    Filling
    (λ k. bit_xor (product_value l.set.shape l.first l.extra (row l.set.shape.m1 k l.us) (row l.set.shape.m1 k l.vs) (get_or l.lasts k 0)) (get_or l.shares k 0))
    21 l.fn.out l.k l.out
