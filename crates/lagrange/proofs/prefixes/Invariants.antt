-- The loop fills the slice with the products so far.
use Rattle.std.proofs.Common.{◌≡◌, length}
use Rattle.slices.proofs.Fill.{Filling}
use Rattle.lagrange.specs.Values.{upto}
use Rattle.lagrange.proofs.prefixes.Given as goal

abbrev pub invariant-loop-k : goal.invariant-loop-k
invariant-loop-k l =
    Filling (upto l.bits l.low l.x) (length l.fn.out) l.fn.out l.k l.out × (l.product ≡ upto l.bits l.low l.x l.k)
