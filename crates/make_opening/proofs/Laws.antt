-- Counts and lengths, and the rows at the points 20 to 40. Assumes nothing.
use mathlib.Core.Path.{◌≡◌, ap, ◌∙◌}
use mathlib.Core.List.{List}
use Prim.Native.Nat.{ℕ, ◌*◌, ◌^◌, ◌≤◌}
use native.Mathlib.Nat.{mul-le-mul_right}
use native.Mathlib.Omega.{arith}
use lib.ListN.{length}
use Rattle.slices.specs.Tab.{length_tab, length_rows}
use Rattle.shake.specs.Shake128.{shake128}
use Rattle.banquet.specs.declared.Shape.{Shape}
use Rattle.banquet.specs.Shape.{sboxes}
use Rattle.banquet.specs.Scheme.{true_inverses}
use Rattle.banquet.specs.Sets.{scheme_of}
use Rattle.banquet.specs.Key.{front_of}
use Rattle.banquet.specs.Tree.{node_seeds, leaves}
use Rattle.tree.specs.Rows.{length_leaf_seeds}
use Rattle.sets.specs.Valid.{Valid}
use Rattle.sets.specs.Bounds.{sboxes_most, leaves_most}
use Rattle.sets.specs.Circuit.{all_inputs, all_inverses}
use Rattle.forms.specs.Point.{point_row, point_rows, point_lasts}
use Rattle.make_opening.specs.Steps.{Inverted, AtPoints}

-- ---- counts

pub at_most : {a n k : ℕ} → a ≡ n → n ≤ k → a ≤ k
at_most e h = omega (arith, e, h)

module _ {S : Shape} (v : Valid S) where
  open S use {parties, depth, wide, m1}

  -- ---- seeds

  pub seeds_long : (salt root : List ℕ) (e : ℕ) {seeds : List ℕ} → length root ≡ 16 → seeds ≡ node_seeds (leaves shake128 salt e depth 0 root)
      → parties * 16 ≤ length seeds
  seeds_long salt root e h k =
      let more : parties * 16 ≤ 2 ^ depth * 16 = mul-le-mul_right 16 v.leaves in
      omega (arith, more, ap length k, length_leaf_seeds salt e depth 0 root h)

  pub few_nodes : 2 * 2 ^ depth ≤ 256
  few_nodes = omega (arith, leaves_most v)

  -- ---- the offsets of P, and the rows of shares

  pub points_room : 21 * wide ≤ 126
  points_room = omega (arith, v.wide_most)

  -- ---- the S-boxes' inputs and inverses

  pub inputs_long : {key public inputs inverses : List ℕ} → Inverted S key public inputs inverses → length inputs ≡ sboxes S
  inputs_long {key} i = ap length i.inputs_is ∙ all_inputs v _ key

  pub inverses_long : (key public : List ℕ) {inverses : List ℕ} → inverses ≡ true_inverses (scheme_of S) (front_of (scheme_of S) public) key
      → length inverses ≡ sboxes S
  inverses_long key public h = ap length h ∙ all_inverses v (front_of (scheme_of S) public) key

  pub inverses_room : {n : ℕ} → n ≡ sboxes S → n ≤ 200
  inverses_room e = rw e (sboxes_most v)

  pub columns_room : 21 * m1 ≤ 210
  columns_room = omega (arith, v.columns)

  pub points_long : (bytes : List ℕ) {us : List ℕ} → us ≡ point_rows S bytes → length us ≡ 21 * m1
  points_long bytes e = ap length e ∙ length_rows m1 (point_row S bytes) 21 (λ k l. length_tab _ m1)

  -- ---- the rows at the points

  pub at_points : {key public inputs inverses us vs lasts : List ℕ} → Inverted S key public inputs inverses
      → us ≡ point_rows S inputs → vs ≡ point_rows S inverses
      → lasts ≡ point_lasts S → AtPoints S key public inverses us vs lasts
  at_points i u v l =
      record { inverses_is = i.inverses_is; us_is = u ∙ ap (point_rows S) i.inputs_is; vs_is = v; lasts_is = l }
