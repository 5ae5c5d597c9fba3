-- `make_signature::offset_pass` meets its contract: the first challenges are those of h1, the rows those of inputs and inverses, and what is absorbed
-- is what h2 binds. Assumes nothing.
use mathlib.Core.Path.{◌≡◌, refl, sym, ap, ◌∙◌}
use mathlib.Core.List.{List, ◌∷◌}
use Prim.Native.Nat.{ℕ, ◌+◌, ◌-◌, ◌*◌}
use native.Mathlib.Omega.{arith}
use lib.Dec.{lit<}
use lib.ListN.{length, take, replicate}
use Rattle.slices.specs.Bytes.{bytes_of}
use Rattle.slices.proofs.Put.{front_long}
use Rattle.shake.specs.Shake128.{shake128}
use Rattle.sets.specs.Valid.{Valid}
use Rattle.sets.specs.Bounds.{all_sboxes}
use Rattle.frames.specs.Frames.{frame_total}
use Rattle.signing.specs.Steps.{offsets_at, witness_length}
use Rattle.make_signature.proofs.Hashes.{offset_right, second_hashed}
use Rattle.make_signature.proofs.offset_pass.Statement.{statement}
use Rattle.make_signature.proofs.offset_pass.Tie as tie

-- ---- earlier moments

abbrev h1-known-before-true-rows : tie.After-true_rows → tie.After-shared_slice_known-3-1
h1-known-before-true-rows c = c.before.before.before.before.before.before.before.before.before.before.before.before.before

abbrev start-before-struct-known : tie.After-struct_known-1 → tie.Start
start-before-struct-known c = c.before.before.before.before.before.before.before.before.before.before

abbrev true-rows-before-lasts3 : tie.After-lasts-3-1 → tie.After-true_rows
true-rows-before-lasts3 c = c.before.before.before.before.before.before

abbrev draw-before-true-rows : tie.After-true_rows → tie.After-draw
draw-before-true-rows c = c.before.before.before.before.before.before.before.before.before

abbrev true-rows-before-slice-known6 : tie.After-slice_known-6-1 → tie.After-true_rows
true-rows-before-slice-known6 c = c.before.before.before.before.before.before.before.before.before.before.before.before

abbrev frame-length-before-h2 : tie.After-h-2-1 → tie.After-frame_length-len
frame-length-before-h2 c = c.before.before.before.before.before.before.before

valid : (s : tie.Start) → Valid s.args.set.shape
valid s = s.requires.0.valid

abbrev start : tie.After-true_rows → tie.Start
start t = t.before.before.before.before.before.before.before.before.before.before.before.before.before.before.before.before

-- the part of an array of rows that is lent
lent : (s : tie.Start) → length {A = ℕ} (take (21 * s.args.set.shape.m1 - 0) (replicate 210 0)) ≡ 21 * s.args.set.shape.m1
lent s = let array : List ℕ = replicate 210 0 in front_long (21 * s.args.set.shape.m1) array (omega (arith, (valid s).columns))

true-rows-requires : tie.Need-true_rows-requires
true-rows-requires c κs =
    let s = start-before-struct-known c.before.before.before.before.before in
    (s.requires.1, s.requires.2, lent s, lent s, refl)

offset-frames-requires : tie.Need-offset_frames-requires
offset-frames-requires c κs =
    let t = true-rows-before-lasts3 c.before in
    let s = start t in
    let p = s.requires in (
      record {
        valid = valid s;
        us_size = t.true_rows.auto.us ∙ lent s;
        vs_size = t.true_rows.auto.vs ∙ lent s;
        lasts_size = t.true_rows.auto.lasts;
      },
      (draw-before-true-rows t).draw.auto.out ∙ p.4,
      p.0.frames_size,
    )

-- ---- the frames with their product offsets

module _ (f : tie.After-frame_length-len) where
  abbrev made : tie.After-offset_frames
  made = f.before.before.before.before.before

  abbrev rows_made : tie.After-true_rows
  rows_made = made.before.before.before.before.before.before.before.before

  abbrev entry : tie.Start
  entry = start rows_made

  frames_size : length made.offset_frames.new.frames ≡ entry.args.set.shape.executions * f.frame_length-len.result
  frames_size = made.offset_frames.auto.frames ∙ entry.requires.0.frames_size
      ∙ ap (entry.args.set.shape.executions *◌) (sym f.frame_length-len.ensures.0)

-- the product offsets stand behind the others
behind : (o : tie.After-offset-p)
    → o.offset-p.result ≡ offsets_at (entry o.before).args.set.shape + witness_length (entry o.before).args.set.shape
behind o = o.offset-p.ensures.0 ∙ omega arith

absorb-column-requires : tie.Need-absorb_column-t-requires
absorb-column-requires c κs =
    let o = c.before.before in
    let f = o.before in
    let v = valid (entry f) in (frames_size f, omega (arith, f.frame_length-len.ensures.0, behind o, frame_total v, all_sboxes v))

returns : tie.Need-returns
returns c =
    let t = c in
    let o = t.before.before.before.before.before.before in
    let f = o.before in
    let x = made f in
    let r = rows_made f in
    let s = entry f in
    let a = s.args in
    let v = valid s in
    let drawn = (draw-before-true-rows r).draw.ensures ∙ ap (shake128 (6 ∷ a.h1.now)) s.requires.4 in
    let rows = r.true_rows.ensures in (
      drawn,
      (
        offset_right v a.h1.now a.inputs.now a.inverses.now a.frames.now rows.0 rows.1.0 rows.1.1 drawn
            x.offset_frames.ensures,
        c.output.ensures
            ∙ second_hashed v (bytes_of (h1-known-before-true-rows r).shared_slice_known-3-1.given)
            (bytes_of f.slice_known-6-1.given)
            t.tagged-s.ensures c.absorb_column-t.ensures (behind o) f.frame_length-len.ensures.0,
      ),
    )

pub offset_pass_spec : {M : Type 1} → statement M
offset_pass_spec =
    tie.close
    (tie.spec
    (λ c κs. tt)
    (λ c. omega (arith, (valid (start-before-struct-known c)).columns))
    (λ c. omega arith)
    (λ c. omega arith)
    (λ c. omega (arith, (valid (start-before-struct-known c)).columns))
    (λ c. omega arith)
    (λ c. omega arith)
    (λ c. omega (arith, (valid (start-before-struct-known c.before)).columns))
    (λ c. refl)
    true-rows-requires
    (λ c. sym (true-rows-before-lasts3 c).true_rows.auto.lasts)
    offset-frames-requires
    (λ c κs. tt)
    (λ f κs. lit< tt)
    (λ o κs. tt)
    (λ c. omega (arith, (valid (entry c.before.before.before)).wide_most))
    absorb-column-requires
    (λ c. refl)
    (λ c κs. tt)
    (λ c. (draw-before-true-rows (rows_made (frame-length-before-h2 c))).draw.auto.out)
    (λ c. (made (frame-length-before-h2 c)).offset_frames.auto.frames)
    returns)
