-- `offset_frames::offset_frame` meets its contract: the product offsets are worked out into an array of their own and copied. Assumes nothing.
use mathlib.Core.Path.{◌≡◌, sym, ◌∙◌}
use mathlib.Core.List.{List}
use Prim.Native.Nat.{ℕ, ◌+◌, ◌*◌, ◌≤◌}
use native.Mathlib.Omega.{arith}
use lib.Dec.{lit<}
use lib.ListN.{length, replicate}
use Rattle.slices.proofs.Put.{front_long}
use Rattle.sets.specs.Bounds.{all_sboxes, by_points}
use Rattle.frames.specs.Frames.{frame_total}
use Rattle.signing.specs.Steps.{offsets_at, witness_length}
use Rattle.signing.specs.Kept.{sum_room, sum_long}
use Rattle.offset_frames.proofs.Laws.{offset_made}
use Rattle.offset_frames.proofs.offset_frame.Statement.{statement}
use Rattle.offset_frames.proofs.offset_frame.Tie as tie

-- ---- earlier moments

abbrev product-offsets-before-slice-known3 : tie.After-slice_known-3-1 → tie.After-product_offsets
product-offsets-before-slice-known3 c = c.before.before.before.before.before.before.before

abbrev start-before-offset : tie.After-offset-k → tie.Start
start-before-offset c = c.before.before.before.before.before.before.before

abbrev zeros : List ℕ
zeros = replicate 126 0

-- ---- the call

module _ (s : tie.Start) where
  abbrev size : ℕ
  size = 21 * s.args.set.shape.wide

  few : size ≤ length zeros
  few = omega (arith, s.requires.0.valid.wide_most)

-- the length of a tape is known, and where in the frame the sum of the tapes begins and its product shares do
module _ (m : tie.After-offset-p) where
  abbrev sized : tie.After-tape_length-size
  sized = m.before.before

  abbrev start : tie.Start
  start = sized.before.before.before.before.before.before

  from : m.before.offset-k.result ≡ offsets_at start.args.set.shape
  from = m.offset-k.ensures.0

  behind : m.offset-p.result ≡ offsets_at start.args.set.shape + witness_length start.args.set.shape
  behind = m.offset-p.ensures.0 ∙ omega arith

product-offsets-requires : tie.Need-product_offsets-requires
product-offsets-requires c κs =
    let m = c.before.before.before.before in
    let s = start m in (
      s.requires.0,
      sum_long s.requires.0.valid s.args.frame.now s.requires.2 (from m) (sized m).tape_length-size.ensures.0,
      s.requires.1,
      front_long (size s) zeros (few s) ∙ sym (by_points s.requires.0.valid s.args.set.shape.wide),
    )

-- ---- what it leaves

module _ (x : tie.After-product_offsets) where
  abbrev measured : tie.After-offset-p
  measured = x.before.before.before.before.before

  abbrev entry : tie.Start
  entry = start measured

  left_long : length x.product_offsets.new.out ≡ size entry
  left_long = x.product_offsets.auto.out ∙ front_long (size entry) zeros (few entry)

copy-at-requires : tie.Need-copy_at-requires
copy-at-requires c κs =
    let x = c.before.before.before in
    let s = entry x in
    let v = s.requires.0.valid in omega (arith, behind (measured x), left_long x, frame_total v, all_sboxes v, s.requires.2)

returns : tie.Need-returns
returns c =
    let x = product-offsets-before-slice-known3 c in
    let a = (entry x).args in
    let m = measured x in
    offset_made a.set.shape a.frame.now (from m) (behind m) (sized m).tape_length-size.ensures.0 a.us.now a.vs.now a.lasts.now a.first.now
    x.product_offsets.ensures c.copy_at.ensures

pub offset_frame_spec : {M : Type 1} → statement M
offset_frame_spec =
    tie.close
    (tie.spec
    (λ c κs. tt)
    (λ c κs. lit< tt)
    (λ c κs. lit< tt)
    (λ m. omega (arith, m.offset-k.ensures.1, (sized m).tape_length-size.ensures.1))
    (λ c. omega (arith, (start c.before).requires.0.valid.wide_most))
    (λ c. omega arith)
    (λ c. omega arith)
    (λ c. few (start c.before))
    (λ c. omega arith)
    (λ c. omega arith)
    (λ c. let m = c.before.before in let s = start m in
    sum_room s.requires.0.valid s.args.frame.now s.requires.2 (from m) (sized m).tape_length-size.ensures.0)
    product-offsets-requires
    copy-at-requires
    (λ c. c.copy_at.auto.dst)
    returns)
