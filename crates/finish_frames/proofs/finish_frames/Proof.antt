-- `finish_frames::finish_frames` meets its contract: after e turns the first e frames are finished, and the others are as they were. Assumes nothing.
use mathlib.Core.Path.{◌≡◌, sym, ap, subst, ◌∙◌}
use Prim.Native.Nat.{ℕ, ◌+◌, ◌*◌, ◌-◌, ◌^◌, ◌≤◌, ◌<◌, zero-le}
use native.Mathlib.Nat.{le_refl, le_trans, le-add_right, mul-le-mul_right}
use native.Mathlib.Omega.{arith}
use lib.ListN.{length}
use lib.Dec.{lit≤}
use Rattle.slices.specs.Layout.{total}
use Rattle.slices.proofs.Counts.{in_byte, in_word, begins, as_long, next_most, nearer}
use Rattle.slices.proofs.Rows.{row_fits, row_long}
use Rattle.banquet.specs.Shape.{frame_sizes}
use Rattle.challenges.specs.Challenges.{hidden_lt}
use Rattle.frames.specs.Frames.{frames_most}
use Rattle.signing.specs.Loop.{Reworking, reworking_none, reworking_lent, reworking_all}
use Rattle.finish_frames.proofs.Laws.{finished_row, finished_next}
use Rattle.finish_frames.proofs.finish_frames.Statement.{statement}
use Rattle.finish_frames.proofs.finish_frames.Tie as tie

abbrev invariant-loop : tie.invariant-loop-e
invariant-loop set salt roots thirds frames₀ len n e₀ frames e =
    (e ≤ n) × Reworking (finished_row set.shape salt roots thirds frames₀) len e (n * len) frames₀ frames

abbrev decreases-loop : tie.decreases-loop-e
decreases-loop set salt roots thirds frames₀ len n e₀ frames e = n - e

-- the bytes of a frame, as the code has them
module _ (f : tie.After-frame_length-len invariant-loop decreases-loop) where
  abbrev start : tie.Start invariant-loop decreases-loop
  start = f.before.before.before.before.before

  abbrev len : ℕ
  len = f.frame_length-len.result

  len_is : len ≡ total (frame_sizes start.args.set.shape)
  len_is = f.frame_length-len.ensures.0

  all_long : length start.args.frames.now ≡ start.args.set.shape.executions * len
  all_long = start.requires.3 ∙ ap (λ n. start.args.set.shape.executions * n) (sym len_is)

  all_most : start.args.set.shape.executions * len ≤ 2 ^ 32
  all_most = subst (λ n. start.args.set.shape.executions * n ≤ 2 ^ 32) (sym len_is) (le_trans (frames_most start.args.set.valid) (lit≤ tt))

-- frame e fits, and root e
module _ (c : tie.In-loop-e invariant-loop decreases-loop) where
  abbrev entry : tie.Start invariant-loop decreases-loop
  entry = start c.before.before

  abbrev measured : tie.After-frame_length-len invariant-loop decreases-loop
  measured = c.before.before

  fits : c.before.loop-e.e * len measured + len measured ≤ entry.args.set.shape.executions * len measured
  fits = row_fits (len measured) c.loop-e-test.true

  root_fits : c.before.loop-e.e * 16 + 16 ≤ length entry.args.roots.now
  root_fits = as_long (row_fits 16 c.loop-e-test.true) entry.requires.1

  root_most : c.before.loop-e.e * 16 + 16 ≤ 656
  root_most = le_trans (row_fits 16 c.loop-e-test.true) (mul-le-mul_right 16 entry.args.set.valid.brief)

loop-holds : tie.Need-loop-e-init invariant-loop decreases-loop
loop-holds c =
    (zero-le, reworking_none _ _ (all_long c))

finish-frame-requires : tie.Need-finish_frame-requires invariant-loop decreases-loop
finish-frame-requires c κs =
    let h = c in
    let i = h.before.before.before in
    let k = i in
    let f = k.before.before in
    let s = start f in
    let p = s.requires in
    let party : h.hidden-hidden.result < s.args.set.shape.parties = rw h.hidden-hidden.ensures (hidden_lt s.args.set.valid _) in (
      p.0,
      row_long k.loop-e.e 16 s.args.roots.now (root_fits i),
      party,
      row_long k.loop-e.e (len f) k.loop-e.frames (as_long (fits i) k.loop-e.invariant.1.done.long) ∙ len_is f,
    )

loop-again : tie.Need-loop-e-preserved invariant-loop decreases-loop
loop-again c =
    let x = c in
    let h = x in
    let i = h.before.before.before.before.before.before in
    let k = i in
    let f = k.before.before in
    let s = start f in
    let a = s.args in (
      next_most i.loop-e-test.true,
      reworking_lent k.loop-e.invariant.1 (fits i)
          (finished_next a.set.shape a.salt.now a.roots.now a.thirds.now a.frames.now (len_is f) k.loop-e.invariant.1 h.hidden-hidden.ensures
          x.finish_frame.ensures)
          x.finish_frame.auto.frame,
    )

same_length : tie.Need-shape_of-frames invariant-loop decreases-loop
same_length c = let k = c in k.loop-e.invariant.1.done.long ∙ sym (all_long k.before.before)

returns : tie.Need-returns invariant-loop decreases-loop
returns c =
    let k = c in
    let e : k.loop-e.e ≡ (start k.before.before).args.set.shape.executions = omega arith in
    reworking_all (rw e at k.loop-e.invariant.1) (le_refl _)

pub finish_frames_spec : {M : Type 1} → statement M
finish_frames_spec =
    tie.close
    (tie.spec invariant-loop decreases-loop (λ c κs. tt) loop-holds
    (λ c. in_word (begins 16 (root_most c)) (lit≤ tt)) (λ c. in_word (root_most c) (lit≤ tt))
    (λ c. in_word (begins _ (fits c)) (all_most (measured c))) (λ c. in_word (fits c) (all_most (measured c)))
    (λ c κs. let p = (entry c).requires in as_long (row_fits 4 c.loop-e-test.true) p.2)
    (λ c. in_byte c.loop-e-test.true (le_trans (entry c.before).args.set.valid.brief (lit≤ tt))) (λ c. le-add_right _ 16)
    (λ c. le-add_right _ 16) (λ c. root_fits c.before) (λ c. le-add_right _ _) (λ c. le-add_right _ _)
    (λ c. let i = c.before.before in as_long (fits i) i.loop-e.invariant.1.done.long) finish-frame-requires
    (λ c. let i = c.before.before.before.before.before.before in in_word (next_most i.loop-e-test.true) (le_trans (entry i).args.set.valid.brief (lit≤ tt)))
    (λ c. nearer c.loop-e-test.true) loop-again same_length returns)
