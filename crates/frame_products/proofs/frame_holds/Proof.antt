-- `frame_products::frame_holds` meets its contract. Assumes nothing.
use mathlib.Core.Path.{◌≡◌}
use lib.Dec.{lit<}
use lib.ListN.{length}
use borrow.Author.Rules.{rules}
use Rattle.slices.specs.Layout.{total}
use Rattle.banquet.specs.Shape.{frame_sizes}
use Rattle.frame_products.proofs.Laws.{long, parts_sized, product_is}
use Rattle.frame_products.proofs.frame_holds.Statement.{statement}
use Rattle.frame_products.proofs.frame_holds.Tie as tie

module _ (f : tie.After-frame-frame) where
  abbrev start : tie.Start
  start = f.before.before

  whole : length f.frame-frame.result.now ≡ total (frame_sizes start.args.set.shape)
  whole = let s = start in long s.args.set.valid s.args.s.now s.args.e s.requires.0 s.requires.1 f.frame-frame.ensures

holds-requires : tie.Need-holds-requires
holds-requires c κs =
    let f = c.before.before.before in
    let s = start f in
    let p = parts_sized s.args.set.valid s.args.s.now s.args.e s.requires.0 s.requires.1 f.frame-frame.ensures c.part.ensures c.part-2.ensures
    c.part-3.ensures in
    (p.1, p.2, p.3)

returns : tie.Need-returns
returns c =
    let d = c in
    let f = d.before.before.before.before in
    let s = start f in
    product_is s.args.set.valid s.args.s.now s.args.e s.requires.0 s.requires.1 f.frame-frame.ensures
    d.part.ensures d.part-2.ensures d.part-3.ensures c.holds.ensures

pub frame_holds_spec : {M : Type 1} → statement M
frame_holds_spec =
    tie.close
    (tie.spec (λ c κs. search rules) (λ c κs. (lit< tt, whole c)) (λ c κs. (lit< tt, whole c.before))
    (λ c κs. (lit< tt, whole c.before.before)) holds-requires returns)
