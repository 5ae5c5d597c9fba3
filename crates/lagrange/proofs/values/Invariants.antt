-- From k on the slice holds Lagrange's values, and before k the products of the factors before each point.
use Rattle.std.proofs.Common.{◌≡◌, length}
use Rattle.lagrange.proofs.Products.{Down}
use Rattle.lagrange.proofs.values.Given as goal

abbrev pub invariant-loop-k : goal.invariant-loop-k
invariant-loop-k l =
    (length l.out ≡ length l.weights) × Down l.bits l.low l.x (length l.weights) l.k l.product l.out
