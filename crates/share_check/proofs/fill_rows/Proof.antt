-- `share_check::fill_rows` meets its contract: the two halves are written one after the other. Assumes nothing.
use mathlib.Core.Path.{◌≡◌, sym, ap, ◌∙◌}
use mathlib.Core.List.{List}
use Prim.Native.Nat.{ℕ, ◌*◌, ◌/◌, ◌-◌, ◌^◌, ◌<◌, ◌≤◌, zero-le}
use native.Mathlib.Omega.{arith}
use lib.ListN.{length, get_or}
use borrow.Rule.Slice.PartMut.{put_mid, same_len_mid}
use Rattle.slices.specs.Layout.{total, field}
use Rattle.banquet.specs.Shape.{transcript_sizes}
use Rattle.sets.specs.Bounds.{row_sizes}
use Rattle.sets.specs.PublicKey.{front_long}
use Rattle.stated.proofs.Laws.{transcript_fits, field_size}
use Rattle.slices.proofs.Counts.{half_most}
use Rattle.share_check.proofs.Halves.{first_lent, second_lent, halves_put}
use Rattle.share_check.proofs.Rows.{second_fits, stated_length, made_right}
use Rattle.share_check.proofs.fill_rows.Statement.{statement}
use Rattle.share_check.proofs.fill_rows.Tie as tie

-- ---- earlier moments

abbrev rows-before-field5 : tie.After-field-5 → tie.After-rows
rows-before-field5 c = c.before.before.before.before.before.before.before.before.before

abbrev field-before-share-rows : tie.After-share_rows → tie.After-field
field-before-share-rows c = c.before.before.before.before.before.before.before.before

abbrev start-before-field : tie.After-field → tie.Start
start-before-field c = c.before.before.before.before.before.before.before.before.before.before.before

abbrev transcript-sizes-before-front : tie.After-front → tie.After-transcript_sizes
transcript-sizes-before-front c = c.before.before.before.before.before.before.before.before

-- ---- where the sizes are known

module _ (z : tie.After-transcript_sizes) where
  abbrev start : tie.Start
  start = z.before.before.before.before.before

  abbrev sizes : List ℕ
  sizes = z.transcript_sizes.result

  -- how long each half is
  abbrev n : ℕ
  n = start.args.set.shape.parties * total (row_sizes start.args.set.shape)

  -- field k can be taken, and has its size
  asked : (k : ℕ) → k < 12 → (k < length sizes) × (total sizes ≤ length start.args.transcript.now) × (total sizes < 2 ^ 63)
  asked = transcript_fits start.requires.0.valid start.args.transcript.now z.transcript_sizes.ensures start.requires.0.stated.size

  size : (k : ℕ) {f : List ℕ} → f ≡ field sizes k start.args.transcript.now → length f ≡ get_or (transcript_sizes start.args.set.shape) k 0
  size k = field_size start.args.set.shape start.args.transcript.now k z.transcript_sizes.ensures start.requires.0.stated.size

rows-requires : tie.Need-rows-requires
rows-requires c κs =
    let z = c.before.before in
    let p = (start z).requires in
    (p.0.stated.size, first_lent (start z).args.rows.now (n z) p.2)

-- ---- where the stated rows are written

module _ (r : tie.After-rows) where
  abbrev z1 : tie.After-transcript_sizes
  z1 = r.before.before.before

  abbrev w : List ℕ
  w = (start z1).args.rows.now

  abbrev written : List ℕ
  written = put_mid 0 (length w / 2 - 0) w r.rows.new.out

  written_long : length written ≡ length w
  written_long = same_len_mid 0 (length w / 2 - 0) w r.rows.new.out r.rows.auto.out

share-rows-requires : tie.Need-share_rows-requires
share-rows-requires c κs =
    let r = (rows-before-field5 c.before) in
    let z = z1 r in
    let p = (start z).requires in (
      size z 0 c.field.ensures,
      p.1,
      front_long (start z).args.set.shape (start z).args.public.now p.0.key.size c.front.ensures,
      size z 4 c.field-2.ensures,
      size z 5 c.field-3.ensures,
      size z 6 c.field-4.ensures,
      size z 7 c.field-5.ensures,
      second_fits p.0,
      second_lent (w r) (n z) p.2 (written r) (written_long r),
    )

same_length : tie.Need-shape_of-rows
same_length c =
    let x = c in
    let r = (rows-before-field5 x.before.before.before.before) in
    same_len_mid (length (w r) / 2) (length (w r) - length (w r) / 2) (written r) x.share_rows.new.out
    x.share_rows.auto.out ∙ written_long r

returns : tie.Need-returns
returns c =
    let x = c.before.before in
    let r = (rows-before-field5 x.before.before) in
    let z = z1 r in
    let s = start z in
    halves_put (w r) (n z) s.requires.2 r.rows.ensures (stated_length s.requires.0 s.args.seeds.now)
    (made_right s.requires.0 s.args.seeds.now z.transcript_sizes.ensures (field-before-share-rows x).field.ensures
    x.front.ensures
    x.field-2.ensures
    x.field-3.ensures x.field-4.ensures x.field-5.ensures
    x.share_rows.ensures)

pub fill_rows_spec : {M : Type 1} → statement M
fill_rows_spec =
    tie.close
    (tie.spec (λ c κs. tt) (λ c. sym (ap length c.transcript_sizes.ensures))
    (λ c. zero-le) (λ c. zero-le) (λ c. half_most _)
    rows-requires (λ c κs. asked c.before.before.before.before.before 0 (omega arith))
    (λ c κs. (start-before-field c.before).requires.0.key.size)
    (λ c κs. asked (transcript-sizes-before-front c) 4 (omega arith))
    (λ c κs. asked (transcript-sizes-before-front c.before) 5 (omega arith))
    (λ c κs. asked (transcript-sizes-before-front c.before.before) 6 (omega arith))
    (λ c κs. asked (transcript-sizes-before-front c.before.before.before) 7 (omega arith))
    (λ c. half_most _) (λ c. half_most _) (λ c. omega (arith, written_long (rows-before-field5 c))) share-rows-requires same_length returns)
