-- `frame_hashes::absorb_first` meets its contract: the four pieces are absorbed one after the other. Assumes nothing.
use mathlib.Core.Path.{sym, ap, ◌∙◌}
use Prim.Native.Nat.{ℕ, ◌*◌}
use native.Mathlib.Omega.{arith}
use lib.Dec.{lit<}
use Rattle.absorb_rows.proofs.Laws.{more}
use Rattle.stream.specs.Stream.{absorbed}
use Rattle.columns.specs.Column.{column_of}
use Rattle.frame_hashes.proofs.absorb_first.Statement.{statement}
use Rattle.frame_hashes.proofs.absorb_first.Tie as tie

abbrev start : tie.After-row_length-len → tie.Start
start r = r.before.before.before.before

-- where commitments and output shares are absorbed
abbrev sized : tie.After-absorb_column-b → tie.After-row_length-len
sized c = c.before.before

absorb-column-requires : tie.Need-absorb_column-b-requires
absorb-column-requires c κs =
    let r = c.before in
    let s = start r in
    (s.requires.1 ∙ ap (λ (m : ℕ). s.args.set.shape.parties * m) (sym r.row_length-len.ensures.0), omega (arith, r.row_length-len.ensures.0))

returns : tie.Need-returns
returns c =
    let x = c.before.before.before.before in
    let r = sized x in
    let a = (start r).args in
    let column = ap (λ m. column_of a.set.shape.parties m 0 16 a.rows.now) r.row_length-len.ensures.0 in
    let first = more a.s a.commitments.now _ x.absorb-a.ensures
    (x.absorb_column-b.ensures ∙ ap (absorbed x.absorb-a.result) column) in
    let second = more a.s _ _ first (c.absorb-c.ensures
    ∙ ap (absorbed x.absorb_column-b.result) c.part.ensures) in
    more a.s _ _ second (c.absorb.ensures ∙ ap (absorbed c.absorb-c.result) c.part-2.ensures)

pub absorb_first_spec : {M : Type 1} → statement M
absorb_first_spec =
    tie.close
    (tie.spec (λ c κs. tt) (λ c κs. tt) absorb-column-requires
    (λ c κs. let p = (start (sized c)).requires in (lit< tt, p.0)) (λ c κs. tt)
    (λ c κs. let p = (start (sized c.before.before)).requires in (lit< tt, p.0)) (λ c κs. tt) returns)
