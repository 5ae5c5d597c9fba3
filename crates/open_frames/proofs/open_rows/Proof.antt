-- `open_frames::open_rows` meets its contract: the rows are those of the parties' seeds, under the frame's offsets. Assumes nothing.
use mathlib.Core.Path.{◌≡◌, sym}
use mathlib.Core.List.{List}
use Prim.Native.Nat.{ℕ}
use lib.Dec.{lit<}
use lib.ListN.{length, get_or}
use Rattle.banquet.specs.Shape.{frame_sizes}
use Rattle.banquet.specs.Sets.{scheme_of}
use Rattle.banquet.specs.Signature.{frame_part}
use Rattle.frames.specs.Frames.{part_long}
use Rattle.leaf_seeds.specs.Seeds.{seeds_room}
use Rattle.open_frames.proofs.Laws.{rows_opened}
use Rattle.open_frames.proofs.open_rows.Statement.{statement}
use Rattle.open_frames.proofs.open_rows.Tie as tie

-- ---- where the leaves' seeds are known

module _ (l : tie.After-leaf_seeds-seeds) where
  abbrev start : tie.Start
  start = l.before.before.before.before.before.before.before

  size : (k : ℕ) {f : List ℕ} → f ≡ frame_part (scheme_of start.args.set.shape) start.args.frame.now k
      → length f ≡ get_or (frame_sizes start.args.set.shape) k 0
  size k = part_long start.args.set.shape start.args.frame.now k start.requires.5

abbrev leaved : tie.After-part-3 → tie.After-leaf_seeds-seeds
leaved c = c.before.before.before.before

share-rows-requires : tie.Need-share_rows-requires
share-rows-requires c κs =
    let x = c.before in
    let l = leaved x in
    let a = (start l).args in
    let p = (start l).requires in (
      p.0,
      seeds_room (start l).args.set.valid a.salt.now a.root.now a.e p.1 l.leaf_seeds-seeds.ensures,
      p.2,
      size l 2 x.part.ensures,
      size l 3 x.part-2.ensures,
      p.3,
      size l 4 x.part-3.ensures,
      p.4,
      p.6,
    )

returns : tie.Need-returns
returns c =
    let r = c in
    let x = r.before.before.before.before in
    let l = leaved x in
    let a = (start l).args in
    let p = (start l).requires in
    rows_opened (start l).args.set.valid a.front.now a.salt.now a.root.now a.e a.first.now a.second a.frame.now p.1
    l.leaf_seeds-seeds.ensures x.part.ensures x.part-2.ensures x.part-3.ensures r.share_rows.ensures

pub open_rows_spec : {M : Type 1} → statement M
open_rows_spec =
    tie.close
    (tie.spec
    (λ c κs. let p = c.requires in (p.0, p.1))
    (λ c. sym c.leaf_seeds-seeds.type_inv.1.0.1)
    (λ c κs. let p = (start c.before).requires in (lit< tt, p.5))
    (λ c κs. let p = (start c.before.before).requires in (lit< tt, p.5))
    (λ c κs. let p = (start c.before.before.before).requires in (lit< tt, p.5))
    share-rows-requires
    (λ c. c.share_rows.auto.out)
    returns)
