-- `write_opening::write_transcript` meets its contract: its parts, one after the other. Assumes nothing.
use mathlib.Core.Path.{◌≡◌, refl, sym, ap, ◌∙◌}
use mathlib.Core.List.{List, ◌++◌}
use Prim.Native.Nat.{ℕ, ◌+◌}
use native.Mathlib.Omega.{arith}
use lib.Dec.{lit<}
use lib.ListN.{length, take}
use borrow.Author.Rules.{rules}
use Rattle.slices.specs.Layout.{total}
use Rattle.slices.proofs.Put.{Wrote, wrote_none}
use Rattle.banquet.specs.declared.Shape.{Shape}
use Rattle.banquet.specs.Shape.{transcript_sizes}
use Rattle.fields.specs.Offsets.{sizes_fit, offset_is}
use Rattle.sets.proofs.Bounds.{transcript_most}
use Rattle.write_opening.specs.Written.{head, middle, field_column}
use Rattle.write_opening.proofs.Laws.{wrote_put, wrote_whole, head_long, middle_long, Known, column_asked, wrote_column, laid}
use Rattle.write_opening.proofs.write_transcript.Statement.{statement}
use Rattle.write_opening.proofs.write_transcript.Tie as tie

-- ---- where the sizes are known

abbrev start-before-transcript-sizes : tie.After-transcript_sizes → tie.Start
start-before-transcript-sizes c = c.before.before.before.before.before.before.before.before.before

module _ (z : tie.After-offset-at) where
  abbrev sized : tie.After-transcript_sizes
  sized = z.before.before.before.before

  abbrev parted : tie.After-row_sizes
  parted = z.before.before

  abbrev start : tie.Start
  start = start-before-transcript-sizes sized

  abbrev S : Shape
  S = start.args.set.shape

  abbrev out : List ℕ
  out = start.args.out.now

  -- the parts of a transcript: what stands before the output shares, and between those and the shares of c; the columns
  abbrev before_outputs : List ℕ
  before_outputs = head S start.args.salt.now start.args.e start.args.seeds.now

  abbrev between : List ℕ
  between = middle S.wide start.args.key.now start.args.inverse.now start.args.first.now start.args.product.now start.args.second

  abbrev col : ℕ → List ℕ
  col k = field_column parted.row_sizes.result k S.parties start.args.rows.now

  known : Known S sized.transcript_sizes.result parted.row_sizes.result start.args.rows.now
  known = record {
    valid = start.args.set.valid;
    sizes_are = sized.transcript_sizes.ensures;
    parts_are = parted.row_sizes.ensures;
    rows_long = start.requires.6;
  }

  -- the length of the transcript
  size : length out ≡ total (transcript_sizes S)
  size = start.requires.7

  -- where the middle begins, and where it ends
  at_is : z.offset-at.result ≡ total (take 4 (transcript_sizes S))
  at_is = (offset_is sized.transcript_sizes.ensures (transcript_most start.args.set.valid) 4 z.offset-at.ensures).0

  middle_ends : total (take 9 (transcript_sizes S)) ≡ total (take 4 (transcript_sizes S)) + length between
  middle_ends =
      let p = start.requires in
      omega (
        arith,
        middle_long S.wide start.args.key.now start.args.inverse.now start.args.first.now start.args.product.now
            start.args.second,
        p.2,
        p.3,
        p.4,
        p.5,
      )

-- ---- what is written after each call

module _ (c : tie.After-write_head) where
  abbrev z1 : tie.After-offset-at
  z1 = c.before.before

  abbrev l1 : List ℕ
  l1 = c.write_head.new.out

  w1 : Wrote (out z1) (before_outputs z1) (total (take 3 (transcript_sizes (S z1)))) l1
  w1 =
      let a = (start z1).args in
      wrote_put (before_outputs z1) (wrote_none (out z1)) refl c.write_head.ensures
      (omega (arith, head_long a.set.shape a.salt.now a.e a.seeds.now (start z1).requires.0)) c.write_head.auto.out

module _ (c : tie.After-write_column) where
  abbrev c1 : tie.After-write_head
  c1 = c.before.before.before.before

  abbrev z2 : tie.After-offset-at
  z2 = z1 c1

  abbrev l2 : List ℕ
  l2 = c.write_column.new.out

  w2 : Wrote (out z2) (before_outputs z2 ++ col z2 0) (total (take 4 (transcript_sizes (S z2)))) l2
  w2 = wrote_column (known z2) 3 0 refl (w1 c1) c.write_column.ensures c.write_column.auto.out

module _ (c : tie.After-write_middle) where
  abbrev c2 : tie.After-write_column
  c2 = c.before.before.before.before

  abbrev z3 : tie.After-offset-at
  z3 = z2 c2

  abbrev l3 : List ℕ
  l3 = c.write_middle.new.out

  w3 : Wrote (out z3) ((before_outputs z3 ++ col z3 0) ++ between z3) (total (take 9 (transcript_sizes (S z3)))) l3
  w3 = wrote_put (between z3) (w2 c2) (at_is z3) c.write_middle.ensures (middle_ends z3) c.write_middle.auto.out

module _ (c : tie.After-write_column-2) where
  abbrev c3 : tie.After-write_middle
  c3 = c.before.before.before.before

  abbrev z4 : tie.After-offset-at
  z4 = z3 c3

  abbrev l4 : List ℕ
  l4 = c.write_column-2.new.out

  w4 : Wrote (out z4) (((before_outputs z4 ++ col z4 0) ++ between z4) ++ col z4 1) (total (take 10 (transcript_sizes (S z4)))) l4
  w4 = wrote_column (known z4) 9 1 refl (w3 c3) c.write_column-2.ensures c.write_column-2.auto.out

module _ (c : tie.After-write_column-3) where
  abbrev c4 : tie.After-write_column-2
  c4 = c.before.before.before.before

  abbrev z5 : tie.After-offset-at
  z5 = z4 c4

  abbrev l5 : List ℕ
  l5 = c.write_column-3.new.out

  w5 : Wrote (out z5) ((((before_outputs z5 ++ col z5 0) ++ between z5) ++ col z5 1) ++ col z5 2) (total (take 11 (transcript_sizes (S z5)))) l5
  w5 = wrote_column (known z5) 10 2 refl (w4 c4) c.write_column-3.ensures c.write_column-3.auto.out

module _ (c : tie.After-write_column-4) where
  abbrev c5 : tie.After-write_column-3
  c5 = c.before.before.before.before

  abbrev z6 : tie.After-offset-at
  z6 = z5 c5

  abbrev l6 : List ℕ
  l6 = c.write_column-4.new.out

  w6 : Wrote (out z6) (((((before_outputs z6 ++ col z6 0) ++ between z6) ++ col z6 1) ++ col z6 2) ++ col z6 3) (total (take 12 (transcript_sizes (S z6)))) l6
  w6 = wrote_column (known z6) 11 3 refl (w5 c5) c.write_column-4.ensures c.write_column-4.auto.out

-- ---- what each call asks

offset-requires : tie.Need-offset-at-requires
offset-requires c κs =
    let t = c.before.before.before in
    let e = t.transcript_sizes.ensures in
    let s = start-before-transcript-sizes t in
    (rw e (omega arith), sizes_fit e (transcript_most s.args.set.valid) (lit< tt))

write-head-requires : tie.Need-write_head-requires
write-head-requires c κs =
    let z = c.before in
    let p = (start z).requires in
    (p.0, p.1, omega (arith, size z))

asked0 : tie.Need-write_column-requires
asked0 c κs =
    let w = c.before.before.before in
    column_asked (known (z1 w)) 3 0 refl (l1 w) (omega arith) (omega arith) (omega (arith, (w1 w).long, size (z1 w)))

write-middle-requires : tie.Need-write_middle-requires
write-middle-requires c κs =
    let w = c.before.before.before in
    let z = z2 w in
    (omega (arith, (start z).args.set.valid.wide_most), omega (arith, at_is z, middle_ends z, (w2 w).long, size z))

asked1 : tie.Need-write_column-requires-2
asked1 c κs =
    let w = c.before.before.before in
    column_asked (known (z3 w)) 9 1 refl (l3 w) (omega arith) (omega arith) (omega (arith, (w3 w).long, size (z3 w)))

asked2 : tie.Need-write_column-requires-3
asked2 c κs =
    let w = c.before.before.before in
    column_asked (known (z4 w)) 10 2 refl (l4 w) (omega arith) (omega arith) (omega (arith, (w4 w).long, size (z4 w)))

asked3 : tie.Need-write_column-requires-4
asked3 c κs =
    let w = c.before.before.before in
    column_asked (known (z5 w)) 11 3 refl (l5 w) (omega arith) (omega arith) (omega (arith, (w5 w).long, size (z5 w)))

returns : tie.Need-returns
returns c =
    let k = c.before.before in
    let z = z6 k in
    let a = (start z).args in
    wrote_whole (w6 k) (omega (arith, size z))
    ∙ laid a.set.shape a.salt.now a.e a.seeds.now a.key.now a.inverse.now a.first.now a.product.now a.second a.rows.now
    (parted z).row_sizes.ensures

pub write_transcript_spec : {M : Type 1} → statement M
write_transcript_spec =
    tie.close
    (tie.spec (λ c κs. search rules) (λ c. sym (ap length c.transcript_sizes.ensures)) (λ c κs. search rules)
    (λ c. sym (ap length c.row_sizes.ensures)) offset-requires write-head-requires asked0 write-middle-requires asked1 asked2 asked3
    (λ c. (w6 c.before.before).long) returns)
