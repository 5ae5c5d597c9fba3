-- `make_opening::make_shares` meets its contract. Assumes nothing.
use mathlib.Core.Path.{◌≡◌, refl, sym, ap, ◌∙◌}
use Prim.Native.Nat.{ℕ, ◌-◌, ◌*◌, ◌≤◌, zero-le}
use lib.ListN.{length, take, replicate}
use Rattle.banquet.specs.Shape.{sboxes}
use Rattle.party_shares.proofs.Laws.{front_long as part_long}
use Rattle.sets.specs.Bounds.{party_byte}
use Rattle.sets.specs.PublicKey.{front_long}
use Rattle.make_opening.proofs.Laws.{seeds_long, inverses_long, inverses_room, points_long}
use Rattle.make_opening.proofs.Made.{opening_made}
use Rattle.make_opening.proofs.make_shares.Statement.{statement}
use Rattle.make_opening.proofs.make_shares.Tie as tie

-- ---- earlier moments

abbrev start-before-slice-known3 : tie.After-slice_known-3-1 → tie.Start
start-before-slice-known3 c = c.before.before.before.before.before.before.before.before.before.before.before.before.before

abbrev offsets-before-front : tie.After-key_bytes-3-1 → tie.After-offsets
offsets-before-front c = c.before.before.before.before.before.before

-- the moments that a need looks back to: the start, and after each call
abbrev start : tie.After-offsets → tie.Start
start c = c.before.before.before.before.before.before.before.before.before.before.before.before.before.before.before.before.before.before

abbrev offset : tie.After-share_rows-arg-1 → tie.After-offsets
offset c = c.before.before.before.before.before.before.before.before.before

abbrev shared : tie.After-write-arg-1 → tie.After-share_rows
shared c = c.before.before.before

-- the seeds of all parties are there
long : (s : tie.Start) → s.args.set.shape.parties * 16 ≤ length s.args.seeds.now
long s = seeds_long s.requires.0.valid s.args.salt.now s.args.root.now s.args.e s.requires.0.root_size s.requires.3

-- the inverses are as many as the S-boxes, and so long is the part that is lent for their offsets
inverses : (s : tie.Start) → length s.args.inverses.now ≡ sboxes s.args.set.shape
inverses s = inverses_long s.requires.0.valid s.args.key.now s.args.public.now s.requires.2.inverses_is

lent : (s : tie.Start) → length {A = ℕ} (take (length s.args.inverses.now - 0) (replicate 200 0)) ≡ sboxes s.args.set.shape
lent s = part_long (replicate 200 0) (inverses s) (inverses_room s.requires.0.valid (inverses s))

offsets-requires : tie.Need-offsets-requires
offsets-requires c κs =
    let s = start-before-slice-known3 c.before.before.before.before in
    let p = s.requires in
    let v = p.0.valid in (
      record { valid = v; us_size = points_long v _ p.2.us_is; vs_size = points_long v _ p.2.vs_is; lasts_size = ap length p.2.lasts_is },
      p.0.salt_size,
      long s,
      p.0.key_size,
      inverses s,
      p.0.first_size,
      refl,
      lent s,
      p.4,
    )

share-rows-requires : tie.Need-share_rows-requires
share-rows-requires c κs =
    let s = start (offset c) in
    let p = s.requires in
    let k = (offset c).offsets.auto in (
      p.0.salt_size,
      long s,
      front_long s.args.set.shape s.args.public.now p.0.public_size c.front.ensures,
      k.offset,
      k.inverse ∙ lent s,
      p.0.first_size,
      k.product ∙ p.4,
      p.1.second_wide,
      p.5,
    )

write-requires : tie.Need-write-requires
write-requires c κs =
    let at_offsets = offset (shared c).before in
    let s = start at_offsets in
    let p = s.requires in
    let v = p.0.valid in
    let k = at_offsets.offsets.auto in (
      p.0.salt_size,
      p.0.root_size,
      party_byte v p.1.hidden_shown,
      long s,
      k.offset,
      k.inverse ∙ lent s,
      p.0.first_size,
      k.product ∙ p.4,
      (shared c).share_rows.auto.out ∙ p.5,
      p.6,
    )

returns : tie.Need-returns
returns c =
    let at_write = c.before.before.before.before in
    let at_share_rows = shared at_write in
    let at_offsets = offset at_share_rows.before in
    let s = start at_offsets in
    let a = s.args in
    let p = s.requires in
    let o = at_offsets.offsets.ensures in
    opening_made p.0.valid a.key.now a.public.now a.salt.now a.root.now a.first.now a.seeds.now a.e a.second a.hidden
    p.0.root_size p.3 p.2 o.0 o.1.0 o.1.1 at_share_rows.front.ensures
    at_share_rows.share_rows.ensures c.write.ensures

pub make_shares_spec : {M : Type 1} → statement M
make_shares_spec =
    tie.close
    (tie.spec (λ c. zero-le) (λ c. zero-le) (λ c. let s = start-before-slice-known3 c in inverses_room s.requires.0.valid (inverses s))
    (λ c. refl) offsets-requires (λ c. sym c.offsets.auto.offset)
    (λ c κs. (start (offsets-before-front c.before)).requires.0.public_size) share-rows-requires write-requires
    (λ c. (offset (shared c.before.before.before.before).before).offsets.auto.product)
    (λ c. (shared c.before.before.before.before).share_rows.auto.out)
    (λ c. c.write.auto.out) returns)
