-- `frame_hashes::absorb_third` meets its contract: the two pieces are absorbed one after the other. Assumes nothing.
use mathlib.Core.Path.{sym, ap, ◌∙◌}
use Prim.Native.Nat.{ℕ, ◌-◌, ◌*◌, ◌≤◌}
use native.Mathlib.Nat.{le_refl}
use native.Mathlib.Omega.{arith}
use lib.ListN.{length}
use Rattle.absorb_rows.proofs.Laws.{more}
use Rattle.stream.specs.Stream.{absorbed}
use Rattle.columns.specs.Column.{column_of}
use Rattle.frame_hashes.proofs.Laws.{sums_last}
use Rattle.frame_hashes.proofs.absorb_third.Statement.{statement}
use Rattle.frame_hashes.proofs.absorb_third.Tie as tie

rest_le : (a b : ℕ) → a - b ≤ a
rest_le a b = omega arith

module _ (r : tie.After-row_length-len) where
  abbrev start : tie.Start
  start = r.before.before.before

  least : 16 ≤ r.row_length-len.result
  least = omega (arith, r.row_length-len.ensures.0)

  within : r.row_length-len.result - 16 ≤ length start.args.frame.now
  within = omega (arith, start.requires.0, r.row_length-len.ensures.0)

absorb-column-requires : tie.Need-absorb_column-requires
absorb-column-requires c κs =
    let r = c.before.before in
    ((start r).requires.1 ∙ ap (λ (m : ℕ). (start r).args.set.shape.parties * m) (sym r.row_length-len.ensures.0), omega (arith, least r))

returns : tie.Need-returns
returns c =
    let r = c.before.before.before in
    let a = (start r).args in
    let sums = sums_last a.set.shape a.frame.now (start r).requires.0 r.row_length-len.ensures.0 in
    let column = ap (λ (m : ℕ). column_of a.set.shape.parties m 16 (m - 16) a.rows.now) r.row_length-len.ensures.0 in
    more a.s _ _ (c.absorb-a.ensures ∙ ap (absorbed a.s) sums) (c.absorb_column.ensures ∙ ap (absorbed c.absorb-a.result) column)

pub absorb_third_spec : {M : Type 1} → statement M
absorb_third_spec =
    tie.close
    (tie.spec (λ c κs. tt) least within (λ c. rest_le _ _) (λ c. rest_le _ _) (λ c. le_refl _) (λ c κs. tt)
    absorb-column-requires returns)
