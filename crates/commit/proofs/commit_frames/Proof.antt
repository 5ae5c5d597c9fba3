-- `commit::commit_frames` meets its contract: after e turns e frames have their offsets, and e parts are absorbed. Assumes nothing.
use mathlib.Core.Path.{◌≡◌, refl, sym, ap, ◌∙◌}
use Prim.Native.Nat.{ℕ, ◌+◌, ◌-◌, ◌*◌, ◌<◌, ◌≤◌}
use native.Mathlib.Omega.{arith}
use lib.ListN.{length, take, drop}
use Rattle.slices.specs.Lists.{rows, row, put}
use Rattle.slices.specs.Layout.{total}
use Rattle.slices.proofs.Rows.{row_fits, row_long, row_cut}
use Rattle.absorb_rows.proofs.Laws.{part_more}
use Rattle.stream.specs.Stream.{absorbed}
use Rattle.banquet.specs.Shape.{tape_sizes, frame_sizes}
use Rattle.frames.specs.Frames.{frames_most}
use Rattle.signing.specs.Steps.{offsets_at, own_row, own_part}
use Rattle.signing.specs.Loop.{Reworking, reworking_none, reworking_row, reworking_lent, reworking_all}
use Rattle.commit.proofs.Laws.{frame_turned, part_turned}
use Rattle.commit.proofs.commit_frames.Statement.{statement}
use Rattle.commit.proofs.commit_frames.Tie as tie

abbrev invariant-loop : tie.invariant-loop-e
invariant-loop set salt roots front witness frames₀ tapes₀ len n t₀ e₀ frames tapes t e =
    (e ≤ n) × (length tapes ≡ set.shape.parties * total (tape_sizes set.shape))
    × Reworking (λ e. put (row (total (frame_sizes set.shape)) e frames₀) (offsets_at set.shape) (own_row set.shape witness salt (row 16 e roots) e)) len e (n * len)
    frames₀ frames
    × (t ≡ absorbed t₀ (rows (λ e. own_part set.shape front witness salt (row 16 e roots) e) e))

abbrev decreases-loop : tie.decreases-loop-e
decreases-loop set salt roots front witness frames₀ tapes₀ len n t₀ e₀ frames tapes t e = n - e

-- ---- earlier moments

abbrev turn-before-slice-known4 : tie.After-slice_known-in-loop-e-2-1 invariant-loop decreases-loop → tie.In-loop-e invariant-loop decreases-loop
turn-before-slice-known4 c = c.before.before.before.before.before.before.before.before

module _ (f : tie.After-frame_length-len invariant-loop decreases-loop) where
  abbrev entry : tie.Start invariant-loop decreases-loop
  entry = f.before.before.before.before.before.before.before

  abbrev len : ℕ
  len = f.frame_length-len.result

  frame_size : len ≡ total (frame_sizes entry.args.set.shape)
  frame_size = f.frame_length-len.ensures.0

  whole : length entry.args.frames.now ≡ entry.args.set.shape.executions * len
  whole = entry.requires.4 ∙ ap (entry.args.set.shape.executions *◌) (sym frame_size)

module _ (c : tie.In-loop-e invariant-loop decreases-loop) where
  abbrev k : tie.At-loop-e invariant-loop decreases-loop
  k = c.before

  abbrev f : tie.After-frame_length-len invariant-loop decreases-loop
  f = k.before

  abbrev s : tie.Start invariant-loop decreases-loop
  s = entry f

  few : k.loop-e.e < 256
  few = omega (arith, c.loop-e-test.true, s.args.set.valid.brief)

  -- row e of the roots and of the frames is there
  root_room : k.loop-e.e * 16 + 16 ≤ length s.args.roots.now
  root_room = omega (arith, row_fits 16 c.loop-e-test.true, s.requires.1)

  frame_fits : k.loop-e.e * len f + len f ≤ s.args.set.shape.executions * len f
  frame_fits = row_fits (len f) c.loop-e-test.true

  frame_room : k.loop-e.e * len f + len f ≤ length k.loop-e.frames
  frame_room = omega (arith, frame_fits, k.loop-e.invariant.2.done.long)

  frame_most : k.loop-e.e * len f + len f ≤ 25092
  frame_most = omega (arith, frame_fits, frames_most s.args.set.valid, ap (s.args.set.shape.executions *◌) (frame_size f))

  frame_is : take (k.loop-e.e * len f + len f - k.loop-e.e * len f) (drop (k.loop-e.e * len f) k.loop-e.frames)
      ≡ row (total (frame_sizes s.args.set.shape)) k.loop-e.e s.args.frames.now
  frame_is = reworking_row k.loop-e.invariant.2 ∙ ap (λ n. row n k.loop-e.e s.args.frames.now) (frame_size f)

loop-holds : tie.Need-loop-e-init invariant-loop decreases-loop
unfolding absorbed
loop-holds c =
    (omega arith, (entry c).requires.5, reworking_none _ _ (whole c), refl)

commit-frame-requires : tie.Need-commit_frame-u-requires invariant-loop decreases-loop
commit-frame-requires c κs =
    let i = c.before.before.before in
    let p = (s i).requires in (
      p.0,
      row_long (k i).loop-e.e 16 (s i).args.roots.now (root_room i),
      p.2,
      p.3,
      row_long (k i).loop-e.e (len (f i)) (k i).loop-e.frames (frame_room i) ∙ frame_size (f i),
      (k i).loop-e.invariant.1,
    )

loop-again : tie.Need-loop-e-preserved invariant-loop decreases-loop
loop-again c =
    let x = c in
    let i = x.before.before.before.before.before.before.before.before in
    let l = (k i).loop-e in
    let a = (s i).args in
    let root = row_cut l.e 16 a.roots.now in
    let own = frame_turned a.set.shape a.witness.now a.salt.now l.e root x.commit_frame-u.ensures.0 (frame_is i) in
    let part = part_turned a.set.shape a.witness.now a.salt.now l.e root a.front.now l.t x.commit_frame-u.ensures.1 in (
      omega (arith, i.loop-e-test.true),
      x.commit_frame-u.auto.tapes ∙ l.invariant.1,
      reworking_lent l.invariant.2 (frame_fits i) own x.commit_frame-u.auto.frame,
      part_more (λ e. own_part a.set.shape a.front.now a.witness.now a.salt.now (row 16 e a.roots.now) e) l.e
          a.start l.invariant.3 part,
    )

returns : tie.Need-returns invariant-loop decreases-loop
returns c =
    let k = c in
    let e : k.loop-e.e ≡ (entry k.before.before).args.set.shape.executions = omega arith in
    (reworking_all (rw e at k.loop-e.invariant.2) (omega arith), rw e at k.loop-e.invariant.3)

pub commit_frames_spec : {M : Type 1} → statement M
commit_frames_spec =
    tie.close
    (tie.spec invariant-loop decreases-loop
    (λ c κs. tt)
    loop-holds
    (λ c. omega (arith, few c))
    (λ c. omega (arith, few c))
    (λ c. omega (arith, frame_most c))
    (λ c. omega (arith, frame_most c))
    (λ c. omega (arith, few c))
    (λ c. omega arith)
    (λ c. omega arith)
    root_room
    (λ c. omega arith)
    (λ c. omega arith)
    (λ c. frame_room c.before)
    commit-frame-requires
    (λ c. omega (arith, few (turn-before-slice-known4 c)))
    (λ c. omega (arith, (turn-before-slice-known4 c).loop-e-test.true))
    loop-again
    (λ c. let k = c in k.loop-e.invariant.2.done.long ∙ sym (whole k.before.before))
    (λ c. let k = c in k.loop-e.invariant.1 ∙ sym (entry k.before.before).requires.5) returns)
