-- `stated::stated_row` meets its contract: the four parts are written one after the other. Assumes nothing.
use mathlib.Core.Path.{◌≡◌, refl, sym, ap, ◌∙◌}
use mathlib.Core.List.{List, [], ◌++◌}
use Prim.Native.Nat.{ℕ, suc, ◌*◌}
use native.Mathlib.Omega.{arith}
use lib.ListN.{length, get_or, take}
use borrow.Author.Rules.{rules}
use Rattle.slices.specs.Lists.{put}
use Rattle.slices.specs.Layout.{total}
use Rattle.slices.proofs.Put.{Wrote, wrote_none}
use Rattle.fields.proofs.Wrote.{wrote_field}
use Rattle.banquet.specs.Shape.{transcript_sizes}
use Rattle.sets.specs.Bounds.{row_sizes}
use Rattle.stated.proofs.Laws.{share, asked, share_long, stated_laid}
use Rattle.stated.proofs.stated_row.Statement.{statement}
use Rattle.stated.proofs.stated_row.Tie as tie

-- ---- where the sizes are known

module _ (z : tie.After-row_sizes) where
  abbrev start : tie.Start
  start = z.before.before.before.before.before

  abbrev sized : tie.After-transcript_sizes
  sized = z.before.before

  abbrev lent : List ℕ
  lent = start.args.out.now

  -- part p, which field k states
  abbrev own : ℕ → ℕ → List ℕ
  own k p = share sized.transcript_sizes.result z.row_sizes.result start.args.transcript.now start.args.i k p

  module _ (k p : ℕ) (g : get_or (transcript_sizes start.args.set.shape) k 0 ≡ start.args.set.shape.parties * get_or (row_sizes start.args.set.shape) p 0) where
    next : {q l r : List ℕ} → Wrote lent q (total (take p (row_sizes start.args.set.shape))) l
        → r ≡ put l (total (take p z.row_sizes.result)) (own k p) → length r ≡ length l
        → Wrote lent (q ++ own k p) (total (take (suc p) (row_sizes start.args.set.shape))) r
    next w e kept =
        wrote_field z.row_sizes.ensures p (own k p) w
        (share_long start.args.set.valid sized.transcript_sizes.ensures z.row_sizes.ensures start.args.transcript.now start.requires.0
        start.requires.1 k p g)
        e kept

-- ---- what is written after each call

module _ (c : tie.After-copy_share) where
  abbrev z1 : tie.After-row_sizes
  z1 = c.before.before.before

  wrote1 : Wrote (lent z1) ([] ++ own z1 3 0) (total (take 1 (row_sizes (start z1).args.set.shape))) c.copy_share.new.out
  wrote1 = next z1 3 0 refl (wrote_none (lent z1)) c.copy_share.ensures c.copy_share.auto.out

module _ (c : tie.After-copy_share-2) where
  abbrev z2 : tie.After-row_sizes
  z2 = z1 c.before.before.before.before

  wrote2 : Wrote (lent z2) (([] ++ own z2 3 0) ++ own z2 9 1) (total (take 2 (row_sizes (start z2).args.set.shape))) c.copy_share-2.new.out
  wrote2 = next z2 9 1 refl (wrote1 c.before.before.before.before) c.copy_share-2.ensures c.copy_share-2.auto.out

module _ (c : tie.After-copy_share-3) where
  abbrev z3 : tie.After-row_sizes
  z3 = z2 c.before.before.before.before

  wrote3 : Wrote (lent z3) ((([] ++ own z3 3 0) ++ own z3 9 1) ++ own z3 10 2) (total (take 3 (row_sizes (start z3).args.set.shape)))
      c.copy_share-3.new.out
  wrote3 = next z3 10 2 refl (wrote2 c.before.before.before.before) c.copy_share-3.ensures c.copy_share-3.auto.out

module _ (c : tie.After-copy_share-4) where
  abbrev z4 : tie.After-row_sizes
  z4 = z3 c.before.before.before.before

  wrote4 : Wrote (lent z4) (((([] ++ own z4 3 0) ++ own z4 9 1) ++ own z4 10 2) ++ own z4 11 3) (total (row_sizes (start z4).args.set.shape))
      c.copy_share-4.new.out
  wrote4 = next z4 11 3 refl (wrote3 c.before.before.before.before) c.copy_share-4.ensures c.copy_share-4.auto.out

returns : tie.Need-returns
returns c =
    let d = c.before.before in
    let z = z4 d in
    stated_laid (start z).args.set.shape (start z).args.transcript.now (start z).args.i (sized z).transcript_sizes.ensures z.row_sizes.ensures
    (start z).requires.2 (wrote4 d)

-- ---- what each call asks

asked1 : tie.Need-copy_share-requires
asked1 c κs =
    let z = c.before.before in
    let s = start z in
    asked s.args.set.valid (sized z).transcript_sizes.ensures z.row_sizes.ensures s.args.transcript.now s.requires.0 s.requires.1 3 0 refl
    (lent z) (omega arith) (omega arith) s.requires.2

asked2 : tie.Need-copy_share-requires-2
asked2 c κs =
    let d = c.before.before.before in
    let z = z1 d in
    let s = start z in
    asked s.args.set.valid (sized z).transcript_sizes.ensures z.row_sizes.ensures s.args.transcript.now s.requires.0 s.requires.1 9 1 refl
    d.copy_share.new.out (omega arith) (omega arith) ((wrote1 d).long ∙ s.requires.2)

asked3 : tie.Need-copy_share-requires-3
asked3 c κs =
    let d = c.before.before.before in
    let z = z2 d in
    let s = start z in
    asked s.args.set.valid (sized z).transcript_sizes.ensures z.row_sizes.ensures s.args.transcript.now s.requires.0 s.requires.1 10 2 refl
    d.copy_share-2.new.out (omega arith) (omega arith) ((wrote2 d).long ∙ s.requires.2)

asked4 : tie.Need-copy_share-requires-4
asked4 c κs =
    let d = c.before.before.before in
    let z = z3 d in
    let s = start z in
    asked s.args.set.valid (sized z).transcript_sizes.ensures z.row_sizes.ensures s.args.transcript.now s.requires.0 s.requires.1 11 3 refl
    d.copy_share-3.new.out (omega arith) (omega arith) ((wrote3 d).long ∙ s.requires.2)

pub stated_row_spec : {M : Type 1} → statement M
stated_row_spec =
    tie.close
    (tie.spec (λ c κs. search rules) (λ c. sym (ap length c.transcript_sizes.ensures)) (λ c κs. search rules)
    (λ c. sym (ap length c.row_sizes.ensures)) asked1 asked2 asked3 asked4 (λ c. (wrote4 c.before.before).long) returns)
