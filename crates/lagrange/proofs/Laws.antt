-- Laws of specs/Values: the dot product with the values is the value at x of the interpolating polynomial. Assumes nothing.
use Rattle.std.specs.Prelude.{◌≡◌, refl, List, ℕ, ◌≤◌, ◌<◌, ◌^◌, length}
use Rattle.std.proofs.Math.Path.{sym, ap}
use Rattle.std.proofs.Common.{◌∙◌, subst, arith}
use Rattle.std.proofs.Math.ListN.{get_or}
use Rattle.slices.specs.Lists.{tab}
use Rattle.slices.specs.Tab.{get_d_tab}
use Rattle.poly.specs.Index.{at, at_same, at_other}
use Rattle.poly.specs.Field.{BinaryField, zero_mul, mul_comm}
use Rattle.poly.specs.Sum.{sum, sum_cong, sum_only}
use Rattle.poly.specs.Poly.{elem_eval}
use Rattle.poly.specs.Lagrange.{number_points, basis_poly, basis, lagrange, elem_basis, eval_basis, eval_interpolate}
use Rattle.field.specs.Ring.{mul}
use Rattle.field.specs.Wide.{ops, Element}
use Rattle.lagrange.specs.Values.{interpolated, lagrange_value, dot_product}

module _ (w low : ℕ) (F : BinaryField (ops w low) (Element w)) (n : ℕ) (points : n ≤ 2 ^ w) (x : ℕ) (h : Element w x) where
  elem_value : (k : ℕ) → k < n → Element w (basis (ops w low) (λ i. i) k n x)
  elem_value k l =
      subst (Element w) (eval_basis F (λ i. i) k n x)
      (elem_eval F (basis_poly (ops w low) (λ i. i) k n) x (elem_basis F (λ i. i) (number_points n (2 ^ w) points) k n l (omega arith)) h)

  pub value_basis : (k : ℕ) → k < n → lagrange_value w low n x k ≡ basis (ops w low) (λ i. i) k n x
  unfolding lagrange_value interpolated lagrange
  value_basis k l =
      eval_interpolate F (λ i. i) n (λ i. at i k 1 0) x
      ∙ sum_only F n _ k l (λ i m ne. ap (λ a. mul w low a (basis (ops w low) (λ i. i) i n x)) (at_other i k 1 0 ne) ∙ zero_mul F _)
      ∙ ap (λ a. mul w low a (basis (ops w low) (λ i. i) k n x)) (at_same k k 1 0 refl) ∙ mul_comm F 1 _ ∙ F.mul_one _ (elem_value k l)

  -- the sum of the values v k times Lagrange's values
  pub sum_interpolated : (v : ℕ → ℕ) → sum (ops w low) n (λ k. mul w low (v k) (lagrange_value w low n x k)) ≡ interpolated w low n v x
  unfolding interpolated lagrange
  sum_interpolated v = sum_cong (ops w low) n (λ k l. ap (mul w low (v k)) (value_basis k l)) ∙ sym (eval_interpolate F (λ i. i) n v x)

  pub dot_interpolated : (v : List ℕ) → length v ≡ n
      → dot_product w low v (tab (lagrange_value w low n x) n) ≡ interpolated w low n (λ k. get_or v k 0) x
  unfolding dot_product
  dot_interpolated v e =
      ap (λ m. sum (ops w low) m (λ k. mul w low (get_or v k 0) (get_or (tab (lagrange_value w low n x) n) k 0))) e
      ∙ sum_cong (ops w low) n (λ k l. ap (mul w low (get_or v k 0)) (get_d_tab (lagrange_value w low n x) n k 0 l))
      ∙ sum_interpolated (λ k. get_or v k 0)
