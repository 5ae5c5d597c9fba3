-- `output_shares::output_shares` meets its contract: after i turns the shares of the first i parties are written. Assumes nothing.
use mathlib.Core.Path.{◌≡◌, refl, sym, ap, ◌∙◌}
use Prim.Native.Nat.{ℕ, ◌≤◌, ◌+◌, ◌-◌, ◌*◌}
use native.Mathlib.Omega.{arith}
use lib.ListN.{length, take, drop, replicate}
use borrow.Author.Rules.{rules}
use Rattle.slices.specs.Lists.{row}
use Rattle.slices.specs.Layout.{total}
use Rattle.slices.proofs.Rows.{Stacking, stacking_none, stacking_more, stacking_all, row_fits, row_long, row_cut}
use Rattle.banquet.specs.Shape.{sboxes, tape_sizes}
use Rattle.banquet.specs.Sets.{scheme_of}
use Rattle.banquet.specs.Execution.{output_share}
use Rattle.sets.specs.Bounds.{all_sboxes, tapes_most}
use Rattle.sets.proofs.Bounds.{tape_most}
use Rattle.sets.specs.Room.{sboxes_lent}
use Rattle.forms.specs.Party.{committed}
use Rattle.output_shares.proofs.output_shares.Statement.{statement}
use Rattle.output_shares.proofs.output_shares.Tie as tie

abbrev invariant-loop : tie.invariant-loop-i
invariant-loop set front key inverse tapes out₀ size sboxes' inverses₀ inputs₀ n i₀ out inverses inputs i =
    (i ≤ n) × (length inverses ≡ sboxes set.shape) × (length inputs ≡ sboxes set.shape)
    × Stacking (λ i. output_share (scheme_of set.shape) (committed front key inverse) i (row (total (tape_sizes set.shape)) i tapes)) 16 i (n * 16) out

abbrev decreases-loop : tie.decreases-loop-i
decreases-loop set front key inverse tapes out₀ size sboxes' inverses₀ inputs₀ n i₀ out inverses inputs i = n - i

module _ (c : tie.In-loop-i invariant-loop decreases-loop) where
  abbrev k : tie.At-loop-i invariant-loop decreases-loop
  k = c.before

  abbrev s : tie.At-loop-i invariant-loop decreases-loop
  s = c.before

  abbrev size : ℕ
  size = k.tape_length-size.result

  tape_size : size ≡ total (tape_sizes s.args.set.shape)
  tape_size = k.tape_length-size.ensures.0

  -- row i of the tapes is there
  read : k.loop-i.i * size + size ≤ length s.args.tapes.now
  read = omega (arith, row_fits size c.loop-i-test.true, s.requires.3, ap (s.args.set.shape.parties *◌) tape_size)

  most : length s.args.tapes.now ≤ 59136
  most = omega (arith, s.requires.3, tapes_most s.args.set.valid (tape_most s.args.set.valid))

  tape_is : take (k.loop-i.i * size + size - k.loop-i.i * size) (drop (k.loop-i.i * size) s.args.tapes.now)
      ≡ row (total (tape_sizes s.args.set.shape)) k.loop-i.i s.args.tapes.now
  tape_is = row_cut k.loop-i.i size s.args.tapes.now ∙ ap (λ n. row n k.loop-i.i s.args.tapes.now) tape_size

loop-holds : tie.Need-loop-i-init invariant-loop decreases-loop
loop-holds c =
    let lent = sboxes_lent c.args.set.valid (replicate 200 0) refl in (search rules, lent, lent, stacking_none _ _ c.requires.4)

walk-requires : tie.Need-walk-share-requires invariant-loop decreases-loop
walk-requires c κs =
    let t = c.before.before.before in
    let p = (s t).requires in
    let long = row_long (k t).loop-i.i (size t) (s t).args.tapes.now (read t) ∙ tape_size t in
    (p.0, p.1, p.2, long, (k t).loop-i.invariant.1, (k t).loop-i.invariant.2)

copy-at-requires : tie.Need-copy_at-requires invariant-loop decreases-loop
copy-at-requires c κs =
    let t = c.before.before.before.before.before.before.before.before.before.before in
    let long : length c.walk-share.result ≡ 16 = search rules in
    omega (arith, long, (k t).loop-i.invariant.3.long, row_fits 16 t.loop-i-test.true)

loop-again : tie.Need-loop-i-preserved invariant-loop decreases-loop
loop-again c =
    let t = c.before.before.before.before.before.before.before.before.before.before.before.before.before in
    let a = (s t).args in
    let long : length c.walk-share.result ≡ 16 = search rules in
    let same = ap (output_share (scheme_of a.set.shape) (committed a.front.now a.key.now a.inverse.now) (k t).loop-i.i) (tape_is t) in (
      omega arith,
      c.walk-share.auto.inverses ∙ (k t).loop-i.invariant.1,
      c.walk-share.auto.inputs ∙ (k t).loop-i.invariant.2,
      stacking_more (k t).loop-i.invariant.3 long (c.walk-share.ensures.0 ∙ same) (row_fits 16 t.loop-i-test.true) c.copy_at.ensures,
    )

same_length : tie.Need-shape_of-out invariant-loop decreases-loop
same_length c = c.loop-i.invariant.3.long ∙ sym c.requires.4

returns : tie.Need-returns invariant-loop decreases-loop
returns c =
    let e : c.loop-i.i ≡ c.args.set.shape.parties = omega arith in
    stacking_all (rw e at c.loop-i.invariant.3) (omega arith)

pub output_shares_spec : {M : Type 1} → statement M
output_shares_spec =
    tie.close
    (tie.spec invariant-loop decreases-loop (λ c κs. search rules) (λ c. let v = c.args.set.valid in omega (arith, all_sboxes v, v.columns))
    (λ c. search rules)
    (λ c. search rules) (λ c. let v = c.args.set.valid in omega (arith, all_sboxes v, v.columns)) (λ c. search rules) (λ c. search rules)
    (λ c. let v = c.args.set.valid in omega (arith, all_sboxes v, v.columns)) loop-holds
    (λ c. omega (arith, read c, most c)) (λ c. omega (arith, read c, most c)) (λ c. search rules) (λ c. search rules) (λ c. read c) walk-requires
    (λ c. search rules) (λ c. search rules) copy-at-requires (λ c. search rules) (λ c. search rules) loop-again same_length returns)
