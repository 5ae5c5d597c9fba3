-- `write_opening::write_head` meets its contract: salt, e and the commitments are written one after the other. Assumes nothing.
use mathlib.Core.Path.{◌≡◌, refl, sym, ap, ◌∙◌}
use mathlib.Core.List.{List, [], ◌∷◌, ◌++◌, append_assoc}
use Prim.Native.Nat.{ℕ, ◌+◌, ◌-◌, ◌*◌, ◌≤◌}
use native.Mathlib.Omega.{arith}
use lib.Dec.{lit<}
use lib.ListN.{length, set}
use borrow.Author.Rules.{rules}
use borrow.Rule.Slice.PartMut.{put_mid}
use Rattle.slices.specs.Lists.{rows, row}
use Rattle.slices.proofs.Put.{Wrote, wrote_none, wrote_one, lent_long, wrote_lent}
use Rattle.banquet.specs.Sets.{scheme_of}
use Rattle.banquet.specs.Hash.{commitment}
use Rattle.party.specs.Party.{party_hash}
use Rattle.fields.specs.Offsets.{sizes_fit, offset_is}
use Rattle.sets.proofs.Bounds.{transcript_most}
use Rattle.write_opening.proofs.Laws.{placed, wrote_to, wrote_put}
use Rattle.write_opening.proofs.write_head.Statement.{statement}
use Rattle.write_opening.proofs.write_head.Tie as tie

-- the parts and where they begin
module _ (c : tie.After-offset-b) where
  abbrev start : tie.Start
  start = c.before.before.before.before.before.before.before

  abbrev n : ℕ
  n = start.args.set.shape.parties

  abbrev salt : List ℕ
  salt = start.args.salt.now

  abbrev e : ℕ
  e = start.args.e

  abbrev out : List ℕ
  out = start.args.out.now

  abbrev a : ℕ
  a = c.offset-a.result

  abbrev b : ℕ
  b = c.offset-b.result

  abbrev commits : List ℕ
  commits = rows (λ i. commitment (scheme_of start.args.set.shape) salt e i (row 16 i start.args.seeds.now)) n

  a_is : a ≡ 33
  a_is = omega (arith, (offset_is c.transcript_sizes.ensures (transcript_most start.args.set.valid) 2 c.offset-a.ensures).0)

  b_is : b ≡ 33 + n * 32
  b_is = omega (arith, (offset_is c.transcript_sizes.ensures (transcript_most start.args.set.valid) 3 c.offset-b.ensures).0)

  room : b ≤ length out
  room = omega (arith, b_is, start.requires.2)

-- what is written
module _ (c : tie.After-copy_at) where
  abbrev z1 : tie.After-offset-b
  z1 = c.before.before

  salted : Wrote (out z1) (salt z1) (length (salt z1)) c.copy_at.new.dst
  salted = wrote_put (salt z1) (wrote_none (out z1)) refl c.copy_at.ensures (omega arith) c.copy_at.auto.dst

  w1 : Wrote (out z1) (salt z1 ++ (e z1 ∷ [])) (a z1) (set c.copy_at.new.dst (length (salt z1)) (e z1))
  w1 = wrote_to (omega (arith, a_is z1, (start z1).requires.0)) refl (wrote_one (e z1) salted (omega (arith, room z1, b_is z1, (start z1).requires.0)))

module _ (c : tie.After-hash_rows) where
  abbrev c1 : tie.After-copy_at
  c1 = c.before.before.before.before

  abbrev z2 : tie.After-offset-b
  z2 = z1 c1

  w2 : Wrote (out z2) ((salt z2 ++ (e z2 ∷ [])) ++ commits z2) (b z2)
      (put_mid (a z2) (b z2 - a z2) (set c1.copy_at.new.dst (length (salt z2)) (e z2)) c.hash_rows.new.out)
  unfolding commitment party_hash
  w2 =
      wrote_lent (commits z2) (b z2) (w1 c1) (omega (arith, a_is z2, b_is z2)) (room z2) c.hash_rows.ensures
      c.hash_rows.auto.out

offset-requires : tie.Need-offset-a-requires
offset-requires c κs =
    let e = c.transcript_sizes.ensures in
    (rw e (omega arith), sizes_fit e (transcript_most c.args.set.valid) (lit< tt))

offset-requires-2 : tie.Need-offset-b-requires
offset-requires-2 c κs =
    let e = c.transcript_sizes.ensures in
    (rw e (omega arith), sizes_fit e (transcript_most c.args.set.valid) (lit< tt))

hash-rows-requires : tie.Need-hash_rows-requires
hash-rows-requires c κs =
    let k = c.before.before.before in
    let z = z1 k in
    let p = (start z).requires in
    (p.0, omega (arith, (start z).args.set.valid.few), p.1, lent_long (b z) (w1 k) (room z) ∙ omega (arith, a_is z, b_is z))

returns : tie.Need-returns
returns c =
    let k = c.before.before in
    let z = z2 k in
    placed {at = 0} (omega arith) (salt z ++ e z ∷ commits z) (wrote_to refl (append_assoc (salt z) (e z ∷ []) (commits z)) (w2 k))

pub write_head_spec : {M : Type 1} → statement M
write_head_spec =
    tie.close
    (tie.spec (λ c κs. search rules) (λ c. sym (ap length c.transcript_sizes.ensures)) offset-requires offset-requires-2
    (λ c κs. let z = c.before in omega (arith, room z, b_is z, (start z).requires.0))
    (λ c. let k = c.before.before in let z = z1 k in omega (arith, room z, b_is z, (start z).requires.0, (salted k).long))
    (λ c. let z = z1 c.before.before in omega (arith, a_is z, b_is z))
    (λ c. let z = z1 c.before.before in omega (arith, a_is z, b_is z))
    (λ c. let k = c.before.before in omega (arith, room (z1 k), (w1 k).long))
    hash-rows-requires (λ c. (w2 c.before.before).long) returns)
