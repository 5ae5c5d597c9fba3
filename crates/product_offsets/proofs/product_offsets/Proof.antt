-- `product_offsets::product_offsets` meets its contract. Assumes nothing.
use mathlib.Core.Path.{◌≡◌, refl, sym, ap, ◌∙◌}
use Prim.Native.Nat.{ℕ, ◌-◌, ◌*◌}
use native.Mathlib.Nat.{le_of_eq}
use lib.ListN.{length, take, replicate}
use borrow.Author.Rules.{rules}
use Rattle.sets.specs.Room.{columns_lent, pairs_lent}
use Rattle.tapes.proofs.Laws.{part_long, load_fits}
use Rattle.product_offsets.proofs.Laws.{offsets_worked, first_long, products_long, store_fits}
use Rattle.product_offsets.proofs.product_offsets.Statement.{statement}
use Rattle.product_offsets.proofs.product_offsets.Tie as tie

-- ---- the places, from the last to the first

abbrev at-products : tie.After-slice_known-4-1 → tie.After-products
at-products c = c.before.before.before.before.before.before.before.before

abbrev at-load3 : tie.After-products → tie.After-load-3
at-load3 c = c.before.before.before.before

abbrev at-tape-part2 : tie.After-load-3 → tie.After-tape_part-2
at-tape-part2 c = c.before.before

abbrev at-load2 : tie.After-tape_part-2 → tie.After-load-2
at-load2 c = c.before.before.before

abbrev at-tape-part : tie.After-load-2 → tie.After-tape_part
at-tape-part c = c.before.before

abbrev at_load : tie.After-tape_part → tie.After-load
at_load c = c.before.before.before

abbrev at-points : tie.After-load → tie.After-points-1
at-points c = c.before.before

abbrev start : tie.After-points-1 → tie.Start
start c = c.before.before.before.before.before.before.before.before

-- ---- the parts of the rooms that are lent

module _ (c : tie.After-points-1) where
  abbrev m : ℕ
  m = (start c).args.set.shape.m1

  draws_lent : length {A = ℕ} (take (m - 0) (replicate 10 0)) ≡ m
  draws_lent = columns_lent (start c).requires.0.valid (replicate 10 0) refl

  extra_lent : length {A = ℕ} (take (2 * m - 0) (replicate 20 0)) ≡ 2 * m
  extra_lent = pairs_lent (start c).requires.0.valid (replicate 20 0) refl

load-requires : tie.Need-load-requires
load-requires c κs =
    let x = c.before in
    let p = (start x).requires in load_fits p.0.valid (m x) (draws_lent x) (first_long p.0.valid p.2)

load-requires-2 : tie.Need-load-requires-2
load-requires-2 c κs =
    let t = c.before in
    let x = at-points (at_load t) in
    let s = start x in
    let v = s.requires.0.valid in
    load_fits v (2 * m x) (extra_lent x) (le_of_eq (sym (part_long v 2 s.args.sum.now s.requires.1 t.tape_part.ensures)))

load-requires-3 : tie.Need-load-requires-3
load-requires-3 c κs =
    let t = c.before in
    let s = start (at-points (at_load (at-tape-part (at-load2 t)))) in
    let v = s.requires.0.valid in
    load_fits v 21 refl (products_long v (part_long v 3 s.args.sum.now s.requires.1 t.tape_part-2.ensures))

products-requires : tie.Need-products-requires
products-requires c κs =
    let z = c.before.before.before in
    let y = at-load2 (at-tape-part2 z) in
    let x = at_load (at-tape-part y) in
    let o = at-points x in
    let g = (start o).requires.0 in (
      x.load.auto.out ∙ draws_lent o,
      y.load-2.auto.out ∙ extra_lent o,
      z.load-3.auto.out,
      g.us_size,
      g.vs_size,
      g.lasts_size,
      refl,
    )

store-requires : tie.Need-store-requires
store-requires c κs =
    let a = c.before.before.before.before.before in
    let p = (start (at-points (at_load (at-tape-part (at-load2 (at-tape-part2 (at-load3 a))))))).requires in
    store_fits p.0.valid p.3 (ap length a.products.ensures)

returns : tie.Need-returns
returns c =
    let a = at-products c in
    let z = at-load3 a in
    let t = at-tape-part2 z in
    let y = at-load2 t in
    let u = at-tape-part y in
    let x = at_load u in
    let o = at-points x in
    let s = start o in
    let i = s.args in
    offsets_worked s.requires.0.valid i.us.now i.vs.now i.lasts.now i.sum.now i.first.now (draws_lent o) (extra_lent o)
    x.load.ensures u.tape_part.ensures y.load-2.ensures t.tape_part-2.ensures z.load-3.ensures a.products.ensures
    c.store.ensures

pub product_offsets_spec : {M : Type 1} → statement M
product_offsets_spec =
    tie.close
    (tie.spec (λ c. search rules) (λ c. search rules) (λ c. search rules) (λ c. search rules) (λ c. search rules) (λ c. search rules)
    (λ c. search rules) load-requires (λ c κs. search rules) load-requires-2 (λ c κs. search rules) (λ c. search rules) load-requires-3
    (λ c. search rules) (λ c. search rules) products-requires (λ c. search rules) store-requires (λ c. search rules) returns)
