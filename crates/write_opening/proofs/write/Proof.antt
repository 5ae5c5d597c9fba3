-- `write_opening::write` meets its contract: the transcript, the hidden party and the sibling seeds, one after the other. Assumes nothing.
use mathlib.Core.Path.{◌≡◌, ◌∙◌}
use mathlib.Core.List.{List, [], ◌∷◌, ◌++◌, append_assoc}
use Prim.Native.Nat.{ℕ, ◌+◌, ◌-◌, ◌*◌, ◌^◌, ◌≤◌}
use native.Mathlib.Nat.{le_refl}
use native.Mathlib.Omega.{arith}
use lib.ListN.{length, set}
use lib.Pow.{pow_mono}
use borrow.Author.Rules.{rules}
use borrow.Rule.Slice.PartMut.{put_mid}
use Rattle.slices.proofs.Put.{Wrote, wrote_none, wrote_one, lent_long, wrote_lent}
use Rattle.shake.specs.Shake128.{shake128}
use Rattle.banquet.specs.declared.Shape.{Shape}
use Rattle.banquet.specs.Tree.{sibling_seeds}
use Rattle.write_opening.specs.Written.{written_transcript}
use Rattle.write_opening.proofs.Laws.{wrote_whole}
use Rattle.write_opening.proofs.write.Statement.{statement}
use Rattle.write_opening.proofs.write.Tie as tie

module _ (z : tie.After-transcript_length-d) where
  abbrev start : tie.Start
  start = z.before.before.before.before.before.before.before.before.before.before

  abbrev S : Shape
  S = start.args.set.shape

  abbrev out : List ℕ
  out = start.args.out.now

  abbrev transcript : List ℕ
  transcript =
      written_transcript S start.args.salt.now start.args.e start.args.seeds.now start.args.key.now start.args.inverse.now
      start.args.first.now start.args.product.now start.args.second start.args.rows.now

  abbrev siblings : List ℕ
  siblings = sibling_seeds shake128 start.args.salt.now start.args.e S.depth 0 start.args.root.now start.args.hidden

  -- where the transcript ends
  abbrev d : ℕ
  d = z.transcript_length-d.result

  room : length out ≡ d + 1 + S.depth * 16
  room = omega (arith, start.requires.9, z.transcript_length-d.ensures.0)

-- ---- what is written after each call

module _ (c : tie.After-write_transcript) where
  abbrev z1 : tie.After-transcript_length-d
  z1 = c.before.before

  abbrev l1 : List ℕ
  l1 = put_mid 0 (d z1 - 0) (out z1) c.write_transcript.new.out

  w1 : Wrote (out z1) (transcript z1) (d z1) l1
  w1 =
      wrote_lent (transcript z1) (d z1) (wrote_none (out z1)) (omega arith) (omega (arith, room z1)) c.write_transcript.ensures
      c.write_transcript.auto.out

  -- the hidden party
  w2 : Wrote (out z1) (transcript z1 ++ ((start z1).args.hidden ∷ [])) (d z1 + 1) (set l1 (d z1) (start z1).args.hidden)
  w2 = wrote_one (start z1).args.hidden w1 (omega (arith, room z1))

module _ (c : tie.After-sibling_seeds) where
  abbrev c1 : tie.After-write_transcript
  c1 = c.before.before.before.before

  abbrev z3 : tie.After-transcript_length-d
  z3 = z1 c1

  w3 : Wrote (out z3) ((transcript z3 ++ ((start z3).args.hidden ∷ [])) ++ siblings z3) (length (out z3))
      (put_mid (d z3 + 1) (length (out z3) - (d z3 + 1)) (set (l1 c1) (d z3) (start z3).args.hidden) c.sibling_seeds.new.out)
  w3 =
      wrote_lent (siblings z3) (length (out z3)) (w2 c1) (omega (arith, room z3)) (le_refl _) c.sibling_seeds.ensures
      c.sibling_seeds.auto.out

-- ---- what each call asks

write-transcript-requires : tie.Need-write_transcript-requires
write-transcript-requires c κs =
    let z = c.before in
    let p = (start z).requires in (
      p.0,
      p.3,
      p.4,
      p.5,
      p.6,
      p.7,
      p.8,
      lent_long (d z) (wrote_none (out z)) (omega (arith, room z))
          ∙ omega (arith, z.transcript_length-d.ensures.0),
    )

sibling-seeds-requires : tie.Need-sibling_seeds-requires
sibling-seeds-requires c κs =
    let w = c.before.before.before in
    let z = z1 w in
    let s = start z in
    let few : 2 ^ (S z).depth ≤ 2 ^ 7 = pow_mono {i = (S z).depth} s.args.set.valid.shallow in
    (s.requires.0, s.requires.1, lent_long (length (out z)) (w2 w) (le_refl _) ∙ omega (arith, room z), omega (arith, few))

returns : tie.Need-returns
returns c =
    let k = c.before.before in
    let z = z3 k in
    wrote_whole (w3 k) (le_refl _) ∙ append_assoc (transcript z) ((start z).args.hidden ∷ []) (siblings z)

pub write_spec : {M : Type 1} → statement M
write_spec =
    tie.close
    (tie.spec (λ c κs. search rules) (λ c. omega (arith, c.transcript_length-d.ensures.1)) (λ c. search rules) (λ c. search rules)
    (λ c. omega (arith, room c)) write-transcript-requires
    (λ c. omega (arith, (start (z1 c.before.before)).requires.2))
    (λ c. let w = c.before.before in omega (arith, room (z1 w), (w1 w).long))
    (λ c. omega (arith, room (z1 c.before.before)))
    (λ c. omega (arith, room (z1 c.before.before)))
    (λ c. let w = c.before.before in omega (arith, (w2 w).long))
    sibling-seeds-requires (λ c. (w3 c.before.before).long) returns)
