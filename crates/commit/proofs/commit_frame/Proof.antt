-- `commit::commit_frame` meets its contract: the witness is added to the front of the sum of the tapes, and absorbed last. Assumes nothing.
use mathlib.Core.Path.{◌≡◌, refl, sym, ap, ◌∙◌}
use mathlib.Core.List.{List}
use Prim.Native.Nat.{ℕ, ◌+◌, ◌-◌, ◌*◌, ◌≤◌}
use native.Mathlib.Omega.{arith}
use lib.Dec.{lit<}
use lib.ListN.{length, take, drop}
use borrow.Rule.Slice.PartMut.{put_mid, same_len_mid}
use Rattle.slices.specs.Lists.{put}
use Rattle.slices.specs.Layout.{total}
use Rattle.slices.proofs.Put.{cut_long}
use Rattle.banquet.specs.Shape.{tape_sizes}
use Rattle.sets.specs.Bounds.{all_sboxes, tape_total}
use Rattle.signing.specs.Steps.{offsets_at, witness_length}
use Rattle.signing.specs.Kept.{sum_room, sum_long}
use Rattle.commit.proofs.Laws.{offsets_made, offsets_are, own_made, part_made}
use Rattle.commit.proofs.commit_frame.Statement.{statement}
use Rattle.commit.proofs.commit_frame.Tie as tie

-- ---- earlier moments

abbrev start-before-draw-parties-arg : tie.After-draw_parties-arg-1 → tie.Start
start-before-draw-parties-arg c = c.before.before.before.before.before.before.before

abbrev sum-rows-before-absorb-shares : tie.After-slice_known-5-1 → tie.After-sum_rows
sum-rows-before-absorb-shares c = c.before.before.before.before.before.before.before

abbrev xor-into-before-slice-known6 : tie.After-slice_known-6-1 → tie.After-xor_into
xor-into-before-slice-known6 c = c.before.before.before.before.before

abbrev draw-parties-before-slice-known6 : tie.After-slice_known-6-1 → tie.After-draw_parties-t
draw-parties-before-slice-known6 c = (sum-rows-before-absorb-shares c.before.before.before).before.before.before.before.before.before

-- ---- the tapes

module _ (d : tie.After-draw_parties-t) where
  abbrev start : tie.Start
  start = d.before.before.before.before.before.before.before.before

  tapes_long : length d.draw_parties-t.new.tapes ≡ start.args.set.shape.parties * total (tape_sizes start.args.set.shape)
  tapes_long = d.draw_parties-t.auto.tapes ∙ start.requires.5

draw-parties-requires : tie.Need-draw_parties-t-requires
draw-parties-requires c κs =
    let p = (start-before-draw-parties-arg c).requires in
    (p.0, p.1, p.5)

-- the length of a tape is known, and where the offsets begin
module _ (m : tie.After-offset-k) where
  abbrev sized : tie.After-tape_length-size
  sized = m.before

  abbrev drawn : tie.After-draw_parties-t
  drawn = sized.before.before.before

  abbrev entry : tie.Start
  entry = start drawn

  abbrev at : ℕ
  at = m.offset-k.result

  abbrev end : ℕ
  end = at + sized.tape_length-size.result

  -- what the code has of the frame is there
  room : end ≤ length entry.args.frame.now
  room = sum_room entry.args.set.valid entry.args.frame.now entry.requires.4 m.offset-k.ensures.0 sized.tape_length-size.ensures.0

  -- the witness is no longer than a tape
  within : length entry.args.witness.now ≤ sized.tape_length-size.result
  within = omega (arith, entry.requires.3, sized.tape_length-size.ensures.0, tape_total entry.args.set.valid, all_sboxes entry.args.set.valid)

sum-rows-requires : tie.Need-sum_rows-requires
sum-rows-requires c κs =
    let m = c.before in
    let s = entry m in (
      s.args.set.valid.some,
      tapes_long (drawn m) ∙ ap (s.args.set.shape.parties *◌)
          (sym (sum_long s.args.set.valid s.args.frame.now s.requires.4 m.offset-k.ensures.0 (sized m).tape_length-size.ensures.0)),
    )

-- ---- their sum in the frame

module _ (y : tie.After-sum_rows) where
  abbrev measured : tie.After-offset-k
  measured = y.before.before

  abbrev first : tie.Start
  first = entry measured

  abbrev o : ℕ
  o = at measured

  abbrev n : ℕ
  n = length first.args.witness.now

  abbrev summed : List ℕ
  summed = put_mid o (end measured - o) first.args.frame.now y.sum_rows.new.out

  summed_long : length summed ≡ length first.args.frame.now
  summed_long = same_len_mid o (end measured - o) first.args.frame.now y.sum_rows.new.out y.sum_rows.auto.out

  summed_room : o + n ≤ length summed
  summed_room = omega (arith, summed_long, room measured, within measured)

  lent_long : length (take (o + n - o) (drop o summed)) ≡ n
  lent_long = cut_long o (o + n) summed refl summed_room

absorb-shares-requires : tie.Need-absorb_shares-requires
absorb-shares-requires c κs =
    let y = sum-rows-before-absorb-shares c in
    let p = (first y).requires in
    (p.2, c.xor_into.auto.dst ∙ lent_long y ∙ p.3, tapes_long (drawn (measured y)))

same_length : tie.Need-shape_of-frame
same_length c =
    let x = xor-into-before-slice-known6 c in
    let y = x.before.before.before.before.before in
    same_len_mid (o y) (o y + n y - o y) (summed y) x.xor_into.new.dst x.xor_into.auto.dst ∙ summed_long y

returns : tie.Need-returns
returns c =
    let x = xor-into-before-slice-known6 c in
    let y = x.before.before.before.before.before in
    let m = measured y in
    let d = drawn m in
    let s = first y in
    let a = s.args in
    let v = s.args.set.valid in
    let z = (sized m).tape_length-size.ensures.0 in
    let from = m.offset-k.ensures.0 in
    let t = d.draw_parties-t.new.tapes in
    let own = own_made v a.witness.now a.salt.now a.root.now a.e s.requires.3 d.draw_parties-t.ensures.0 in (
      offsets_made v a.frame.now s.requires.4 from z t a.witness.now s.requires.3 y.sum_rows.auto.out y.sum_rows.ensures
          x.xor_into.ensures
          ∙ ap (put a.frame.now (offsets_at a.set.shape)) own,
      part_made v a.witness.now a.salt.now a.root.now a.e s.requires.3 d.draw_parties-t.ensures.0 a.front.now a.s
          (offsets_are v a.frame.now s.requires.4 from z t a.witness.now s.requires.3 y.sum_rows.auto.out y.sum_rows.ensures
          x.xor_into.ensures
          ∙ ap (take (witness_length a.set.shape)) own)
          d.draw_parties-t.ensures.1 c.absorb_shares.ensures,
    )

pub commit_frame_spec : {M : Type 1} → statement M
commit_frame_spec =
    tie.close
    (tie.spec
    draw-parties-requires
    (λ c κs. tt)
    (λ c κs. lit< tt)
    (λ m. omega (arith, within m, (sized m).tape_length-size.ensures.1, m.offset-k.ensures.1))
    (λ m. omega (arith, (sized m).tape_length-size.ensures.1, m.offset-k.ensures.1))
    (λ c. omega arith)
    (λ c. omega arith)
    (λ c. room c)
    sum-rows-requires
    (λ c. omega arith)
    (λ c. omega arith)
    (λ c. summed_room c.before.before)
    (λ c κs. lent_long c.before.before.before.before)
    absorb-shares-requires
    same_length
    (λ c. (draw-parties-before-slice-known6 c).draw_parties-t.auto.tapes)
    returns)
