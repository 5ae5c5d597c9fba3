-- What the engine holds of a point x: Lagrange's values there, and for each j the value there of what the bytes of j alone give; and the same at all the
-- points 20 to 40.
use Rattle.std.specs.Prelude.{◌≡◌, refl, List, ℕ, zero, suc, ◌+◌, ◌*◌, get_or}
use Rattle.std.proofs.Common.{ap}
use Rattle.std.specs.Int.Bits.{bit_xor}
use Rattle.slices.specs.Lists.{tab, rows}
use Rattle.poly.specs.Sum.{sum}
use Rattle.field.specs.Ring.{mul}
use Rattle.field.specs.Wide.{ops}
use Rattle.lagrange.specs.Values.{lagrange_value}
use Rattle.tables.specs.Tables.{table_of, tabled}
use Rattle.banquet.specs.declared.Shape.{Shape}
use Rattle.banquet.specs.Shape.{sbox_at}
use Rattle.banquet.specs.Scheme.{wide_ops, wide_mul, lifted}
use Rattle.banquet.specs.Sets.{scheme_of}
use Rattle.sets.specs.Laws.{powers_of}

module _ (S : Shape) where
  open S use {wide, low, m1, m2}

  -- Lagrange's value k at x, for the points 0 to 20 and for the points 0 to 40
  abbrev pub near : ℕ → ℕ → ℕ
  near x k = lagrange_value (8 * wide) low (suc m2) x k

  abbrev pub far : ℕ → ℕ → ℕ
  far x k = lagrange_value (8 * wide) low (suc (2 * m2)) x k

  -- the tables of the values for the points 0 to 19
  abbrev pub tables_at : ℕ → List ℕ
  tables_at x = rows (λ k. table_of (8 * wide) low (powers_of S) (near x k)) m2

  -- the sum that such tables give for j: of the bytes j, j + m1, ..
  abbrev pub tabled_row : List ℕ → List ℕ → ℕ → ℕ
  tabled_row bytes tables j = tabled m2 (λ k. get_or bytes (j + k * m1) 0) tables

  -- the value at x of the polynomial through the lifted bytes j, j + m1, .. at 0 to 19 and through 0 at 20
  unfoldable pub row_at : List ℕ → ℕ → ℕ → ℕ
  row_at bytes j x = sum (wide_ops (scheme_of S)) m2 (λ k. wide_mul (scheme_of S) (lifted (scheme_of S) (get_or bytes (sbox_at S j k) 0)) (near x k))

  -- at the points 20 to 40: the rows of the S-boxes' inputs or of their inverses, and Lagrange's value for the extra point
  abbrev pub point_row : List ℕ → ℕ → List ℕ
  point_row bytes k = tab (λ j. row_at bytes j (20 + k)) m1

  abbrev pub point_rows : List ℕ → List ℕ
  point_rows bytes = rows (point_row bytes) 21

  abbrev pub point_lasts : List ℕ
  point_lasts = tab (λ k. near (20 + k) 20) 21

  -- S_j(x) and T_j(x) from these rows: r_j times the row and the extra point's part; the row and the extra point's part
  unfoldable pub value_s : ℕ → ℕ → ℕ → ℕ → ℕ
  value_s r row s last = bit_xor (mul (8 * wide) low r row) (mul (8 * wide) low s last)

  unfoldable pub value_t : ℕ → ℕ → ℕ → ℕ
  value_t row t last = bit_xor row (mul (8 * wide) low t last)

  -- P there: the sum of S_j times T_j, from the first challenge, the extra points (s and t for each j) and the rows of the inputs and of the inverses
  unfoldable pub product_value : List ℕ → List ℕ → List ℕ → List ℕ → ℕ → ℕ
  product_value first extra u v last =
      sum (wide_ops (scheme_of S)) m1
      (λ j. wide_mul (scheme_of S) (value_s (get_or first j 0) (get_or u j 0) (get_or extra (2 * j) 0) last)
      (value_t (get_or v j 0) (get_or extra (2 * j + 1) 0) last))

-- the sum of n numbers
unfoldable pub xor_sum : ℕ → (ℕ → ℕ) → ℕ
xor_sum zero f = 0
xor_sum (suc n) f = bit_xor (xor_sum n f) (f n)

-- it is the sum of any wide field
pub sum_xor_lem : (w low n : ℕ) (f : ℕ → ℕ) → sum (ops w low) n f ≡ xor_sum n f
unfolding sum xor_sum
sum_xor_lem w low zero f = refl
sum_xor_lem w low (suc n) f = ap (λ a. bit_xor a (f n)) (sum_xor_lem w low n f)
