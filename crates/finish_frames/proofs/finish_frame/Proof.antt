-- `finish_frames::finish_frame` meets its contract: two parts of the frame's front are written. Assumes nothing.
use mathlib.Core.Path.{◌≡◌, ◌∙◌}
use Prim.Native.Nat.{ℕ, ◌+◌, ◌-◌, ◌*◌, ◌≤◌, zero-le}
use native.Mathlib.Nat.{le_trans, le-add_right, mul-le-mul_right}
use native.Mathlib.Omega.{arith}
use lib.ListN.{length}
use lib.Dec.{lit<, lit≤}
use borrow.Rule.Slice.PartMut.{put_mid, same_len_mid}
use Rattle.slices.proofs.Counts.{in_byte, in_word, begins, as_long}
use Rattle.slices.proofs.Rows.{row_fits, row_long}
use Rattle.sets.specs.Bounds.{leaves_most}
use Rattle.leaf_seeds.specs.Seeds.{seeds_room}
use Rattle.finish_frames.proofs.Laws.{Ends, siblings_first, within_frame, siblings_long, finished}
use Rattle.finish_frames.proofs.finish_frame.Statement.{statement}
use Rattle.finish_frames.proofs.finish_frame.Tie as tie

-- ---- earlier moments

abbrev sibling-seeds-before-slice-known3 : tie.After-slice_known-3-1 → tie.After-sibling_seeds
sibling-seeds-before-slice-known3 c = c.before.before.before.before.before.before.before

-- what a need looks back to once the leaves' seeds are there
module _ (c : tie.After-leaf_seeds-seeds) where
  abbrev start : tie.Start
  start = c.before.before.before.before

  -- the hidden party's seed
  seed_most : start.args.hidden * 16 + 16 ≤ 2048
  seed_most = le_trans (row_fits 16 start.requires.2) (mul-le-mul_right 16 start.args.set.valid.few)

  seed_fits : start.args.hidden * 16 + 16 ≤ length c.leaf_seeds-seeds.result
  seed_fits =
      let p = start.requires in
      le_trans (row_fits 16 p.2) (seeds_room start.args.set.valid start.args.salt.now start.args.root.now start.args.e p.1 c.leaf_seeds-seeds.ensures)

-- once it is known where the sibling seeds end and where the commitment does
module _ (c : tie.After-offset-k) where
  abbrev leaved : tie.After-leaf_seeds-seeds
  leaved = c.before.before

  abbrev d : ℕ
  d = c.offset-d.result

  abbrev k : ℕ
  k = c.offset-k.result

  ends : Ends (start leaved).args.set.shape d k
  ends = record { siblings = c.offset-d.ensures.0; commitment = c.offset-k.ensures.0 }

  fits : k ≤ length (start leaved).args.frame.now
  fits = within_frame ends (start leaved).args.set.valid (start leaved).requires.3

-- and once the sibling seeds are written
module _ (c : tie.After-sibling_seeds) where
  abbrev known : tie.After-offset-k
  known = c.before.before

  abbrev entry : tie.Start
  entry = start (leaved known)

  same : length (put_mid 0 (d known - 0) entry.args.frame.now c.sibling_seeds.new.out) ≡ length entry.args.frame.now
  same =
      same_len_mid 0 (d known - 0) entry.args.frame.now c.sibling_seeds.new.out
      c.sibling_seeds.auto.out

sibling-seeds-requires : tie.Need-sibling_seeds-requires
sibling-seeds-requires c κs =
    let o = c.before in
    let p = (start (leaved o)).requires in
    (p.0, p.1, siblings_long (ends o) _ (fits o), omega (arith, leaves_most (start (leaved o)).args.set.valid))

hash-requires : tie.Need-hash-requires
hash-requires c κs =
    let l = leaved (known c.before.before.before.before) in
    ((start l).requires.0, row_long (start l).args.hidden 16 l.leaf_seeds-seeds.result (seed_fits l))

-- the frame is as long as it was
same_length : tie.Need-shape_of-frame
same_length c =
    let h = c.hash in
    let q = sibling-seeds-before-slice-known3 c in
    let o = known q in
    same_len_mid (d o) (k o - d o) (put_mid 0 (d o - 0) (entry q).args.frame.now q.sibling_seeds.new.out) h.new.out
    h.auto.out
    ∙ same q

returns : tie.Need-returns
returns c =
    let h = c.hash in
    let q = sibling-seeds-before-slice-known3 c in
    let s = entry q in
    let p = s.requires in
    let a = s.args in
    finished s.args.set.valid a.salt.now a.root.now a.e a.hidden a.frame.now p.1 p.2 p.3 (ends (known q))
    (leaved (known q)).leaf_seeds-seeds.ensures q.sibling_seeds.ensures q.sibling_seeds.auto.out h.ensures

pub finish_frame_spec : {M : Type 1} → statement M
finish_frame_spec =
    tie.close
    (tie.spec (λ c κs. let p = c.requires in (p.0, p.1))
    (λ c κs. lit< tt) (λ c κs. lit< tt)
    (λ c. in_word (begins 16 (seed_most (leaved c))) (lit≤ tt)) (λ c. in_word (seed_most (leaved c)) (lit≤ tt)) (λ c. zero-le)
    (λ c. zero-le) (λ c. le_trans (siblings_first (ends c)) (fits c)) sibling-seeds-requires
    (λ c. let p = (entry c.before.before).requires in in_byte p.2 (le_trans (entry c.before.before).args.set.valid.few (lit≤ tt))) (λ c. le-add_right _ 16)
    (λ c. le-add_right _ 16) (λ c. seed_fits (leaved (known c.before.before)))
    (λ c. siblings_first (ends (known c.before.before.before))) (λ c. siblings_first (ends (known c.before.before.before)))
    (λ c. let q = c.before.before.before in as_long (fits (known q)) (same q)) hash-requires same_length returns)
