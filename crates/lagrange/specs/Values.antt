-- The values at x of Lagrange's basis polynomials for the points 0 to n - 1: polynomial k is one at k and zero at the others. A dot
-- product with them is the value at x of the interpolating polynomial. In the field of X^w + low; "Points are wide elements with those
-- numbers". Assumes nothing.
use Rattle.std.specs.Prelude.{List, ℕ, zero, suc, length}
use Rattle.std.specs.Int.Bits.{bit_xor}
use Rattle.std.proofs.Math.ListN.{get_or}
use Rattle.poly.specs.Index.{at}
use Rattle.poly.specs.Sum.{sum}
use Rattle.poly.specs.Poly.{eval}
use Rattle.poly.specs.Lagrange.{interpolate}
use Rattle.field.specs.Ring.{mul}
use Rattle.field.specs.Wide.{ops}

module _ (w low : ℕ) where
  -- the value at x of the interpolating polynomial with the values v 0, .. v (n - 1) at the points 0, .. n - 1
  unfoldable pub interpolated : ℕ → (ℕ → ℕ) → ℕ → ℕ
  interpolated n v x = eval (ops w low) (interpolate (ops w low) (λ i. i) n v) x

  -- Lagrange's value k: for the values one at k and zero elsewhere
  unfoldable pub lagrange_value : ℕ → ℕ → ℕ → ℕ
  lagrange_value n x k = interpolated n (λ i. at i k 1 0) x

  -- the sum of value k times coefficient k, over the values
  unfoldable pub dot_product : List ℕ → List ℕ → ℕ
  dot_product v c = sum (ops w low) (length v) (λ k. mul w low (get_or v k 0) (get_or c k 0))

  -- the product of x - i over i < n
  unfoldable pub upto : ℕ → ℕ → ℕ
  upto x zero = 1
  upto x (suc n) = mul w low (upto x n) (bit_xor x n)
