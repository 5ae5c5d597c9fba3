-- `frame_hashes::complete_rows` meets its contract: the sum of all rows is written, and the hidden row is what the others leave of it. Assumes nothing.
use mathlib.Core.Path.{◌≡◌, refl, sym, ap, ap₂, ◌∙◌}
use mathlib.Core.List.{List, [], ◌++◌}
use Prim.Native.Nat.{ℕ, ◌+◌, ◌-◌, ◌*◌, ◌≤◌, zero-le}
use native.Mathlib.Nat.{le_refl}
use native.Mathlib.Omega.{arith}
use lib.ListN.{length, take, drop, replicate}
use Rattle.slices.specs.Lists.{rows, row, put}
use Rattle.slices.specs.Layout.{total}
use Rattle.slices.proofs.Put.{Wrote, wrote_none, wrote_more, front_long}
use Rattle.complete.specs.Complete.{completed_row}
use Rattle.banquet.specs.Sets.{scheme_of}
use Rattle.banquet.specs.Key.{ciphertext_of}
use Rattle.sets.specs.Bounds.{row_sizes}
use Rattle.sets.proofs.Bounds.{row_most}
use Rattle.sets.specs.PublicKey.{ciphertext_long}
use Rattle.frame_hashes.proofs.Laws.{sums_long, whole_written}
use Rattle.frame_hashes.proofs.complete_rows.Statement.{statement}
use Rattle.frame_hashes.proofs.complete_rows.Tie as tie

-- ---- earlier moments

abbrev copy-at2-before-slice-known2 : tie.After-slice_known-2-1 → tie.After-copy_at-2
copy-at2-before-slice-known2 c = c.before.before.before.before.before.before.before.before

rest_le : (a b : ℕ) → a - b ≤ a
rest_le a b = omega arith

module _ (z : tie.After-row_length-len) where
  abbrev start : tie.Start
  start = z.before.before.before.before

  abbrev len : ℕ
  len = z.row_length-len.result

  -- where c, a and b begin
  abbrev at : ℕ
  at = length start.args.frame.now - (len - 16)

  abbrev cipher : List ℕ
  cipher = ciphertext_of (scheme_of start.args.set.shape) start.args.public.now

  abbrev last : List ℕ
  last = take (length start.args.frame.now - at) (drop at start.args.frame.now)

  abbrev zeros : List ℕ
  zeros = replicate 142 0

  least : 16 ≤ len
  least = omega (arith, z.row_length-len.ensures.0)

  most : len ≤ 142
  most = omega (arith, row_most start.args.set.valid, z.row_length-len.ensures.0)

  within : len - 16 ≤ length start.args.frame.now
  within = omega (arith, start.requires.2, z.row_length-len.ensures.0)

  cipher_long : {c : List ℕ} → c ≡ cipher → length c ≡ 16
  cipher_long = ciphertext_long start.args.set.shape start.args.public.now start.requires.0

  last_long : length last ≡ len - 16
  last_long = sums_long start.args.set.shape start.args.frame.now start.requires.2 z.row_length-len.ensures.0

-- ---- what is written after each call

module _ (x : tie.After-copy_at) where
  abbrev begun : tie.After-row_length-len
  begun = x.before.before.before.before

  wrote1 : Wrote (zeros begun) ([] ++ cipher begun) (0 + 16) x.copy_at.new.dst
  wrote1 =
      wrote_more (cipher begun) (wrote_none (zeros begun)) (cipher_long begun refl)
      (x.copy_at.ensures ∙ ap (put (zeros begun) 0) x.ciphertext.ensures) x.copy_at.auto.dst

module _ (y : tie.After-copy_at-2) where
  abbrev first : tie.After-copy_at
  first = y.before.before.before.before

  abbrev z : tie.After-row_length-len
  z = begun first

  abbrev s : tie.Start
  s = start z

  wrote2 : Wrote (zeros z) (([] ++ cipher z) ++ last z) (0 + 16 + (len z - 16)) y.copy_at-2.new.dst
  wrote2 = wrote_more (last z) (wrote1 first) (last_long z) y.copy_at-2.ensures y.copy_at-2.auto.dst

  room : len z ≤ length y.copy_at-2.new.dst
  room = omega (arith, most z, wrote2.long)

  whole_long : length (take (len z - 0) y.copy_at-2.new.dst) ≡ total (row_sizes s.args.set.shape)
  whole_long = front_long (len z) y.copy_at-2.new.dst room ∙ z.row_length-len.ensures.0

copy-at-requires-2 : tie.Need-copy_at-requires-2
copy-at-requires-2 c κs =
    let x = c.before.before.before in
    let z = begun x in
    omega (arith, last_long z, (wrote1 x).long, most z, least z)

complete-requires : tie.Need-complete-requires
complete-requires c κs =
    let y = c.before.before.before.before in
    let p = (s y).requires in
    let room : len (z y) ≤ length (zeros (z y)) = omega (arith, most (z y)) in (
      p.1,
      p.3 ∙ ap (λ (n : ℕ). (s y).args.set.shape.parties * n) (sym (whole_long y)),
      front_long (len (z y)) (zeros (z y)) room ∙ (z y).row_length-len.ensures.0 ∙ sym (whole_long y),
    )

returns : tie.Need-returns
returns c =
    let y = copy-at2-before-slice-known2 c in
    let a = (s y).args in
    let p = (s y).requires in
    c.complete.ensures.0
    ∙ ap₂ (λ (w : List ℕ) (n : ℕ). rows (completed_row a.set.shape.parties a.hidden w (λ i. row n i a.rows.now)) a.set.shape.parties)
    (whole_written a.set.shape a.frame.now p.2 (z y).row_length-len.ensures.0 a.public.now (wrote2 y)) (whole_long y)

pub complete_rows_spec : {M : Type 1} → statement M
complete_rows_spec =
    tie.close
    (tie.spec (λ c κs. tt) least (λ c. refl) (λ c κs. (start c.before.before).requires.0)
    (λ c κs. omega (arith, cipher_long c.before.before.before c.ciphertext.ensures)) (λ c. sym c.copy_at.auto.dst)
    (λ c. within c.before.before.before.before.before.before) (λ c. rest_le _ _) (λ c. rest_le _ _) (λ c. le_refl _) copy-at-requires-2
    (λ c. zero-le) (λ c. zero-le) (λ c. room c.before) (λ c. zero-le) (λ c. zero-le) (λ c. omega (arith, most (z c.before.before)))
    complete-requires (λ c. c.complete.auto.rows) returns)
