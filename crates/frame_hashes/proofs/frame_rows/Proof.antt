-- `frame_hashes::frame_rows` meets its contract: seeds, commitments, the shown parties' rows, and from these the hidden one's. Assumes nothing.
use mathlib.Core.Path.{◌≡◌, sym, ◌∙◌}
use mathlib.Core.List.{List}
use Prim.Native.Nat.{ℕ, ◌-◌, ◌*◌, ◌^◌, ◌≤◌, zero-le}
use native.Mathlib.Omega.{arith}
use lib.Dec.{lit<}
use lib.ListN.{length, get_or, take, replicate}
use borrow.Rule.Slice.PartMut.{put_mid, same_len_mid}
use Rattle.slices.proofs.Put.{front_long as front_part}
use Rattle.slices.proofs.Rows.{row_fits}
use Rattle.slices.specs.Layout.{total}
use Rattle.banquet.specs.Shape.{frame_sizes}
use Rattle.banquet.specs.Sets.{scheme_of}
use Rattle.banquet.specs.Signature.{frame_part}
use Rattle.sets.specs.Valid.{Valid}
use Rattle.sets.specs.Bounds.{leaves_most}
use Rattle.sets.specs.PublicKey.{front_long}
use Rattle.frames.specs.Frames.{part_long}
use Rattle.frame_hashes.proofs.Bound.{commitments_shown, rows_shown}
use Rattle.frame_hashes.proofs.Laws.{rows_completed}
use Rattle.frame_hashes.proofs.frame_rows.Statement.{statement}
use Rattle.frame_hashes.proofs.frame_rows.Tie as tie

-- ---- room for the seeds

abbrev zeros : List ℕ
zeros = replicate 2048 0

module _ (l : tie.After-leaf_bytes-end) where
  abbrev start : tie.Start
  start = l.before.before.before.before.before.before.before

  -- what `frames::part` asks
  asked : Valid start.args.set.shape × (length start.args.frame.now ≡ total (frame_sizes start.args.set.shape))
  asked = (start.requires.0.valid, start.requires.0.frame_sized.size)

  size : (k : ℕ) {f : List ℕ} → f ≡ frame_part (scheme_of start.args.set.shape) start.args.frame.now k
      → length f ≡ get_or (frame_sizes start.args.set.shape) k 0
  size k = part_long start.args.set.shape start.args.frame.now k start.requires.0.frame_sized.size

  lent_long : length (take (l.leaf_bytes-end.result - 0) zeros) ≡ 16 * 2 ^ start.args.set.shape.depth
  lent_long =
      let room : l.leaf_bytes-end.result ≤ length zeros = omega (arith, l.leaf_bytes-end.ensures.1) in
      front_part l.leaf_bytes-end.result zeros room ∙ l.leaf_bytes-end.ensures.0

expand-shown-requires : tie.Need-expand_shown-requires
expand-shown-requires c κs =
    let l = c.before.before in
    let p = (start l).requires.0 in
    (p.salt_size, size l 0 c.part.ensures, lent_long l, omega (arith, leaves_most p.valid))

-- ---- the seeds are there

module _ (x : tie.After-expand_shown) where
  abbrev begun : tie.After-leaf_bytes-end
  begun = x.before.before.before

  abbrev s : tie.Start
  s = start begun

  abbrev leaves : List ℕ
  leaves = x.expand_shown.new.out

  abbrev seeds : List ℕ
  seeds = put_mid 0 (begun.leaf_bytes-end.result - 0) zeros leaves

  seeds_long : length seeds ≡ 2048
  seeds_long = same_len_mid 0 (begun.leaf_bytes-end.result - 0) zeros leaves x.expand_shown.auto.out

  leaves_long : length leaves ≡ 16 * 2 ^ s.args.set.shape.depth
  leaves_long = x.expand_shown.auto.out ∙ lent_long begun

  room : s.args.set.shape.parties * 16 ≤ length seeds
  room = omega (arith, seeds_long, s.requires.0.valid.few)

hash-rows-requires : tie.Need-hash_rows-requires
hash-rows-requires c κs =
    let x = c.before.before.before in
    let p = (s x).requires in
    (p.0.salt_size, omega (arith, p.0.valid.few), room x, p.1)

-- ---- the moments after that: the commitments are hashed, the hidden one is copied among them, the rows are worked out

abbrev expanded : tie.After-hash_rows → tie.After-expand_shown
expanded h = h.before.before.before.before

abbrev hashed : tie.After-copy_at → tie.After-hash_rows
hashed y = y.before.before.before.before.before

abbrev copied : tie.After-share_rows → tie.After-copy_at
copied r = r.before.before.before.before.before.before.before.before.before

-- what was there at the beginning
abbrev entry : tie.After-copy_at → tie.Start
entry y = s (expanded (hashed y))

copy-at-requires : tie.Need-copy_at-requires
copy-at-requires c κs =
    let h = c.before.before.before.before in
    let x = expanded h in
    let p = (s x).requires in
    omega (arith, size (begun x) 1 c.part-2.ensures, h.hash_rows.auto.out, p.1, row_fits 32 p.0.hidden_below)

-- where the parts of the frame are known
abbrev given : tie.After-part-5 → tie.After-copy_at
given f = f.before.before.before.before.before.before.before

share-rows-requires : tie.Need-share_rows-requires
share-rows-requires c κs =
    let f = c.before in
    let x = expanded (hashed (given f)) in
    let g = (s x).requires.0 in (
      g.salt_size,
      room x,
      front_long (s x).args.set.shape (s x).args.public.now g.public_sized.size f.front.ensures,
      size (begun x) 2 f.part-3.ensures,
      size (begun x) 3 f.part-4.ensures,
      g.first_sized.size,
      size (begun x) 4 f.part-5.ensures,
      g.second_wide,
      (s x).requires.2,
    )

rows_kept : (r : tie.After-share_rows)
    → length r.share_rows.new.out ≡ length (entry (copied r)).args.rows.now
rows_kept r = r.share_rows.auto.out

complete-rows-requires : tie.Need-complete_rows-requires
complete-rows-requires c κs =
    let r = c.before.before.before in
    let p = (entry (copied r)).requires in
    let g = p.0 in (g.public_sized.size, g.hidden_below, g.frame_sized.size, rows_kept r ∙ p.2)

-- the rows before they are completed
abbrev shared : tie.After-complete_rows → tie.After-share_rows
shared w = w.before.before.before.before

returns : tie.Need-returns
returns c =
    let w = c.before.before in
    let r = shared w in
    let f = r in
    let y = copied r in
    let x = expanded (hashed y) in
    let a = (s x).args in
    let g = (s x).requires.0 in
    let siblings = x.part.ensures in
    let hidden = y.part-2.ensures in (
      commitments_shown g a.e (begun x).leaf_bytes-end.result zeros siblings (size (begun x) 0 siblings) x.expand_shown.ensures (leaves_long x)
          hidden (size (begun x) 1 hidden) (hashed y).hash_rows.ensures y.copy_at.ensures,
      rows_shown g a.e (begun x).leaf_bytes-end.result zeros siblings (size (begun x) 0 siblings) x.expand_shown.ensures (leaves_long x)
          (rows_completed g a.e (seeds x) f.front.ensures f.part-3.ensures
          f.part-4.ensures f.part-5.ensures
          r.share_rows.ensures w.complete_rows.ensures),
    )

pub frame_rows_spec : {M : Type 1} → statement M
frame_rows_spec =
    tie.close
    (tie.spec (λ c κs. tt) (λ l κs. (lit< tt, (asked l).1)) (λ c. zero-le)
    (λ c. zero-le) (λ c. c.leaf_bytes-end.ensures.1) expand-shown-requires (λ c. sym (seeds_long c.before.before)) hash-rows-requires
    (λ c. let g = (s (expanded c.before.before.before)).requires.0 in omega (arith, g.hidden_below, g.valid.few))
    (λ c κs. let l = begun (expanded c.before.before.before) in (lit< tt, (asked l).1)) copy-at-requires
    (λ c κs. (entry c.before.before.before).requires.0.public_sized.size)
    (λ c κs. let l = begun (expanded (hashed c.before.before.before.before)) in (lit< tt, (asked l).1))
    (λ c κs. let l = begun (expanded (hashed c.before.before.before.before.before)) in (lit< tt, (asked l).1))
    (λ c κs. let l = begun (expanded (hashed c.before.before.before.before.before.before)) in (lit< tt, (asked l).1)) share-rows-requires
    complete-rows-requires
    (λ c. let y = copied (shared c.before.before) in y.copy_at.auto.dst ∙ (hashed y).hash_rows.auto.out)
    (λ c. c.complete_rows.auto.rows ∙ rows_kept (shared c.before.before)) returns)
