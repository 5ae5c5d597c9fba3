-- `commit::draw_parties` meets its contract: the rows of seeds are the parties' seeds. Assumes nothing.
use mathlib.Core.Path.{sym, ap, ◌∙◌}
use mathlib.Core.List.{List}
use Prim.Native.Nat.{ℕ, ◌*◌, ◌≤◌}
use native.Mathlib.Omega.{arith}
use lib.ListN.{length, replicate}
use borrow.Author.Rules.{rules}
use Rattle.slices.proofs.Put.{front_long}
use Rattle.stream.specs.Stream.{absorbed}
use Rattle.leaf_seeds.specs.Seeds.{seeds_room}
use Rattle.commit.proofs.Laws.{commitments_drawn, tapes_drawn}
use Rattle.commit.proofs.draw_parties.Statement.{statement}
use Rattle.commit.proofs.draw_parties.Tie as tie

-- ---- earlier moments

abbrev tape-length-before-hash-rows-arg2 : tie.After-hash_rows-arg-2-1 → tie.After-tape_length-size
tape-length-before-hash-rows-arg2 c = c.before.before.before.before.before.before.before.before

module _ (g : tie.After-leaf_seeds-seeds) where
  abbrev start : tie.Start
  start = g.before.before.before.before

  few : start.args.set.shape.parties ≤ 128
  few = start.args.set.valid.few

  seeded : start.args.set.shape.parties * 16 ≤ length g.leaf_seeds-seeds.result
  seeded =
      seeds_room start.args.set.valid start.args.salt.now start.args.root.now start.args.e start.requires.1 g.leaf_seeds-seeds.ensures

hash-rows-requires : tie.Need-hash_rows-requires
hash-rows-requires c κs =
    let g = c.before.before.before.before.before in
    let z : List ℕ = replicate 4096 0 in
    ((start g).requires.0, omega (arith, few g), seeded g, front_long ((start g).args.set.shape.parties * 32) z (omega (arith, few g)))

hash-rows-requires-2 : tie.Need-hash_rows-requires-2
hash-rows-requires-2 c κs =
    let z = tape-length-before-hash-rows-arg2 c in
    let g = z.before.before in
    let p = (start g).requires in
    (p.0, omega (arith, few g), seeded g, p.2 ∙ ap ((start g).args.set.shape.parties *◌) (sym z.tape_length-size.ensures.0))

returns : tie.Need-returns
returns c =
    let t = c in
    let h = t in
    let z = h in
    let g = z.before.before.before.before.before.before.before.before.before.before.before.before.before.before.before in
    let s = start g in
    let a = s.args in
    let w = g.leaf_seeds-seeds.ensures in (
      tapes_drawn s.args.set.valid a.salt.now a.root.now a.e s.requires.1 w z.tape_length-size.ensures.0 t.hash_rows-2.ensures,
      c.absorb.ensures
          ∙ ap (absorbed a.s) (commitments_drawn s.args.set.valid a.salt.now a.root.now a.e s.requires.1 w h.hash_rows.ensures),
    )

pub draw_parties_spec : {M : Type 1} → statement M
draw_parties_spec =
    tie.close
    (tie.spec (λ c κs. search rules) (λ c. omega (arith, few c.before)) (λ c κs. search rules) (λ c. search rules) (λ c. search rules)
    (λ c. omega (arith, few c.before.before)) (λ c. search rules) hash-rows-requires (λ c. search rules) hash-rows-requires-2
    (λ c κs. search rules) (λ c. c.hash_rows-2.auto.out) returns)
