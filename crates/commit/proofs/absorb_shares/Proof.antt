-- `commit::absorb_shares` meets its contract: one piece, and one more. Assumes nothing.
use mathlib.Core.Path.{◌≡◌, sym, ap, ◌∙◌}
use mathlib.Core.List.{List}
use Prim.Native.Nat.{ℕ, ◌-◌, ◌*◌, ◌≤◌}
use native.Mathlib.Omega.{arith}
use lib.ListN.{length, take, replicate}
use Rattle.slices.specs.Lists.{rows, row, part}
use Rattle.slices.specs.Layout.{total}
use Rattle.slices.proofs.Put.{front_long, cut_long}
use Rattle.banquet.specs.Shape.{sboxes, tape_sizes}
use Rattle.banquet.specs.Sets.{scheme_of}
use Rattle.banquet.specs.Execution.{output_share}
use Rattle.forms.specs.Party.{committed}
use Rattle.commit.proofs.Laws.{two_pieces}
use Rattle.commit.proofs.absorb_shares.Statement.{statement}
use Rattle.commit.proofs.absorb_shares.Tie as tie

module _ (c : tie.After-struct_known-1) where
  abbrev start : tie.Start
  start = c.before.before.before.before

  few : start.args.set.shape.parties ≤ 128
  few = start.args.set.valid.few

output-shares-requires : tie.Need-output_shares-requires
output-shares-requires c κs =
    let k = c.before.before.before.before in
    let p = (start k).requires in
    let l = (start k).args.offsets.now in
    let z : List ℕ = replicate 2048 0 in (
      p.0,
      front_long 16 l (omega (arith, p.1)),
      cut_long 16 (length l) {n = sboxes (start k).args.set.shape} l (sym p.1) (omega arith),
      p.2,
      front_long ((start k).args.set.shape.parties * 16) z (omega (arith, few k)),
    )

returns : tie.Need-returns
returns c =
    let a = c in
    let o = c.before.before.before.before.before.before.before.before.before.before in
    let b = start o in
    let s = b.args in
    let size : length s.offsets.now - 16 ≡ sboxes s.set.shape = omega (arith, b.requires.1) in
    let made = a.output_shares.ensures ∙ ap (λ n. rows (λ i. output_share (scheme_of s.set.shape)
    (committed s.front.now (take 16 s.offsets.now) (part 16 n s.offsets.now)) i (row (total (tape_sizes s.set.shape)) i s.tapes.now))
    s.set.shape.parties) size in
    two_pieces s.s s.offsets.now made a.absorb-b.ensures c.absorb.ensures

pub absorb_shares_spec : {M : Type 1} → statement M
absorb_shares_spec =
    tie.close
    (tie.spec
    (λ c. omega (arith, few c))
    (λ c. omega arith)
    (λ c. omega arith)
    (λ c. omega (arith, few c))
    (λ c. omega arith)
    (λ c. omega arith)
    (λ c. omega (arith, (start c.before).requires.1))
    (λ c. omega arith)
    (λ c. omega arith)
    (λ c. omega (arith, (start c.before.before).requires.1))
    output-shares-requires
    (λ c κs. tt)
    (λ c κs. tt)
    returns)
