-- `offset_frames::offset_frames` meets its contract: after e turns the first e frames have their product offsets. Assumes nothing.
use mathlib.Core.Path.{◌≡◌, sym, ap, ap₂, subst, ◌∙◌}
use mathlib.Core.List.{List}
use Prim.Native.Nat.{ℕ, ◌+◌, ◌-◌, ◌*◌, ◌≤◌}
use native.Mathlib.Omega.{arith}
use lib.ListN.{length}
use Rattle.slices.specs.Lists.{row}
use Rattle.slices.specs.Layout.{total}
use Rattle.slices.proofs.Rows.{row_fits, row_long, row_cut}
use Rattle.banquet.specs.Shape.{frame_sizes, first_challenge_length}
use Rattle.sets.specs.Bounds.{columns_most}
use Rattle.sets.proofs.Bounds.{firsts_most}
use Rattle.frames.specs.Frames.{frames_most}
use Rattle.signing.specs.Steps.{offset_frame}
use Rattle.signing.specs.Loop.{Reworking, reworking_none, reworking_row, reworking_lent, reworking_all}
use Rattle.offset_frames.proofs.offset_frames.Statement.{statement}
use Rattle.offset_frames.proofs.offset_frames.Tie as tie

abbrev invariant-loop : tie.invariant-loop-e
invariant-loop set us vs lasts firsts frames₀ len m n e₀ frames e =
    (e ≤ n)
    × Reworking (λ e. offset_frame set.shape us vs lasts (row (first_challenge_length set.shape) e firsts) (row (total (frame_sizes set.shape)) e frames₀))
    len e (n * len) frames₀ frames

abbrev decreases-loop : tie.decreases-loop-e
decreases-loop set us vs lasts firsts frames₀ len m n e₀ frames e = n - e

module _ (f : tie.After-frame_length-len invariant-loop decreases-loop) where
  abbrev start : tie.Start invariant-loop decreases-loop
  start = f.before.before.before.before.before.before

  abbrev n : ℕ
  n = start.args.set.shape.executions

  abbrev len : ℕ
  len = f.frame_length-len.result

  size : len ≡ total (frame_sizes start.args.set.shape)
  size = f.frame_length-len.ensures.0

  whole : length start.args.frames.now ≡ n * len
  whole = start.requires.2 ∙ ap (n *◌) (sym size)

  bound : n * len ≤ 25092
  bound = subst (λ k. n * k ≤ 25092) (sym size) (frames_most start.requires.0.valid)

  abbrev m : ℕ
  m = first_challenge_length start.args.set.shape

  firsts_bound : n * m ≤ 2460
  firsts_bound = firsts_most start.requires.0.valid

-- ---- where frame and draws lie

module _ (c : tie.In-loop-e invariant-loop decreases-loop) where
  abbrev f : tie.After-frame_length-len invariant-loop decreases-loop
  f = c.before.before.before

  abbrev e : ℕ
  e = c.loop-e.e

  fits : e * len f + len f ≤ n f * len f
  fits = row_fits (len f) c.loop-e-test.true

  first_fits : e * m f + m f ≤ n f * m f
  first_fits = row_fits (m f) c.loop-e-test.true

offset-frame-requires : tie.Need-offset_frame-requires invariant-loop decreases-loop
offset-frame-requires c κs =
    let i = c.before.before in
    let k = i in
    let g = k.before.before.before in
    let s = start g in (
      s.requires.0,
      row_long k.loop-e.e (m g) s.args.firsts.now (omega (arith, first_fits i, s.requires.1)),
      row_long k.loop-e.e (len g) k.loop-e.frames (omega (arith, fits i, k.loop-e.invariant.1.done.long)) ∙ size g,
    )

loop-again : tie.Need-loop-e-preserved invariant-loop decreases-loop
loop-again c =
    let x = c in
    let i = x.before.before.before.before.before in
    let k = i in
    let g = k in
    let a = (start g.before.before.before).args in
    let e = k.loop-e.e in
    let given = ap₂ (λ (f g : List ℕ). offset_frame a.set.shape a.us.now a.vs.now a.lasts.now f g)
    (row_cut e (m g.before.before.before) a.firsts.now) (reworking_row k.loop-e.invariant.1 ∙ ap (λ z. row z e a.frames.now) (size g.before.before.before)) in
    (omega arith, reworking_lent k.loop-e.invariant.1 (fits i) (x.offset_frame.ensures ∙ given) x.offset_frame.auto.frame)

same_length : tie.Need-shape_of-frames invariant-loop decreases-loop
same_length c = let k = c in k.loop-e.invariant.1.done.long ∙ sym (whole k.before.before.before)

returns : tie.Need-returns invariant-loop decreases-loop
returns c =
    let k = c in
    let e : k.loop-e.e ≡ (start k.before.before.before).args.set.shape.executions = omega arith in
    reworking_all (rw e at k.loop-e.invariant.1) (omega arith)

pub offset_frames_spec : {M : Type 1} → statement M
offset_frames_spec =
    tie.close
    (tie.spec invariant-loop decreases-loop
    (λ c κs. tt)
    (λ c. omega (arith, columns_most (start c.before).requires.0.valid))
    (λ c. (omega arith, reworking_none _ _ (whole c.before)))
    (λ c. omega (arith, first_fits c, firsts_bound (f c)))
    (λ c. omega (arith, first_fits c, firsts_bound (f c)))
    (λ c. omega (arith, fits c, bound (f c)))
    (λ c. omega (arith, fits c, bound (f c)))
    (λ c. omega arith)
    (λ c. omega arith)
    (λ c. omega (arith, first_fits c, (start (f c)).requires.1))
    (λ c. omega arith)
    (λ c. omega arith)
    (λ c. omega (arith, fits c.before, c.loop-e.invariant.1.done.long))
    offset-frame-requires
    (λ c. let i = c.before.before.before.before.before in omega (arith, i.loop-e-test.true, (start (f i)).requires.0.valid.brief))
    (λ c. omega (arith, c.loop-e-test.true))
    loop-again
    same_length
    returns)
