-- Rows by tables at a point; which points there are, and where a point's rows stand. Assumes nothing.
use mathlib.Core.Path.{◌≡◌, ◌∙◌}
use mathlib.Core.List.{List}
use Prim.Native.Nat.{ℕ, ◌+◌, ◌-◌, ◌*◌, ◌^◌, ◌≤◌, ◌<◌}
use native.Mathlib.Omega.{arith}
use mir.Syntax.{w64}
use mir.Val.{Fits}
use Rattle.slices.specs.Lists.{tab, rows}
use Rattle.slices.specs.Tab.{tab_cong}
use Rattle.slices.specs.Bytes.{Bytes}
use Rattle.slices.proofs.Rows.{Stacking, stacking_all, row_fits}
use Rattle.banquet.specs.declared.Shape.{Shape}
use Rattle.sets.specs.Valid.{Valid}
use Rattle.sets.specs.Laws.{laws}
use Rattle.forms.specs.Point.{tables_at, tabled_row, row_at}
use Rattle.forms.specs.Values.{tabled_row_lem}

module _ {S : Shape} (v : Valid S) where
  -- the points 20 to 40 are elements
  pub point_fits : {k : ℕ} → k < 21 → 20 + k < 2 ^ (8 * S.wide)
  point_fits h = omega (arith, h, (laws v).enough_points, v.twenty)

  pub rows_right : (x n : ℕ) {bytes tables out : List ℕ} → Bytes bytes → tables ≡ tables_at S x → out ≡ tab (tabled_row S bytes tables) n
      → out ≡ tab (λ j. row_at S bytes j x) n
  rows_right x n b t e = e ∙ tab_cong n (λ j l. tabled_row_lem v x b t j)

-- the indices of turn k fit, and its rows of m numbers are there
pub record Turn (m k : ℕ) : Type 0 where
  pub row_start : Fits w64 (k * m)
  pub row_bytes : Fits w64 (k * m * 8)
  pub row_end : Fits w64 (k * m + m)
  pub row_room : k * m + m ≤ 21 * m
  pub point : Fits w64 (20 + k)
  pub number_bytes : Fits w64 (k * 8)
  pub next : Fits w64 (k + 1)
  pub nearer : 21 - (k + 1) < 21 - k

pub turn : {m k : ℕ} → m ≤ 10 → k < 21 → Turn m k
turn {m} few h = record {
  row_start = omega (arith, row_fits m h, few);
  row_bytes = omega (arith, row_fits m h, few);
  row_end = omega (arith, row_fits m h, few);
  row_room = row_fits m h;
  point = omega (arith, h);
  number_bytes = omega (arith, h);
  next = omega (arith, h);
  nearer = omega (arith, h);
}

-- all rows are written
pub stacked : {f : ℕ → List ℕ} {k i n m : ℕ} {l : List ℕ} → Stacking f k i m l → i ≡ n → m ≤ n * k → l ≡ rows f n
stacked {f} {k} {i} {n} {m} {l} w e h = let w' : Stacking f k n m l = rw e at w in stacking_all w' h
