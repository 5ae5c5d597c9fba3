-- `write_opening::write_column` meets its contract: a column of the rows, lent the field's part. Assumes nothing.
use mathlib.Core.Path.{◌≡◌, sym, ap, ap₂, ◌∙◌}
use mathlib.Core.List.{List}
use Prim.Native.Nat.{ℕ, ◌+◌, ◌-◌, ◌*◌, ◌≤◌}
use native.Mathlib.Nat.{le_refl}
use native.Mathlib.Omega.{arith}
use lib.ListN.{length, get_or}
use borrow.Author.Rules.{rules}
use borrow.Rule.Slice.PartMut.{same_len_mid}
use Rattle.slices.specs.Lists.{row, put}
use Rattle.slices.specs.Tab.{rows_cong}
use Rattle.slices.specs.Layout.{total}
use Rattle.slices.proofs.Put.{put_mid_lem, cut_long}
use Rattle.columns.specs.Column.{column_of}
use Rattle.fields.specs.Offsets.{total_take_all, total_take_fits, field_part, field_end, field_order, field_fits}
use Rattle.write_opening.specs.Written.{field_column}
use Rattle.write_opening.proofs.Laws.{column_long}
use Rattle.write_opening.proofs.write_column.Statement.{statement}
use Rattle.write_opening.proofs.write_column.Tie as tie

abbrev start-before-offset3 : tie.After-offset-a → tie.Start
start-before-offset3 c = c.before.before.before.before.before.before.before

module _ (c : tie.After-offset-b) where
  abbrev start : tie.Start
  start = start-before-offset3 c.before

  abbrev sizes : List ℕ
  sizes = start.args.sizes.now

  abbrev parts : List ℕ
  parts = start.args.parts.now

  abbrev f : ℕ
  f = start.args.f

  abbrev k : ℕ
  k = start.args.k

  abbrev n : ℕ
  n = start.args.n

  abbrev out : List ℕ
  out = start.args.out.now

  -- a row's length, where its part k begins, where the field begins and ends
  abbrev stride : ℕ
  stride = c.offset-stride.result

  abbrev at : ℕ
  at = c.offset-at.result

  abbrev a : ℕ
  a = c.offset-a.result

  abbrev b : ℕ
  b = c.offset-b.result

  stride_is : stride ≡ total parts
  stride_is = c.offset-stride.ensures ∙ total_take_all parts (length parts) (le_refl _)

  part_fits : at + get_or parts k 0 ≤ stride
  part_fits = omega (arith, stride_is, c.offset-at.ensures, total_take_fits parts k)

  order : a ≤ b
  order = field_order sizes f c.offset-a.ensures c.offset-b.ensures

  fits : b ≤ length out
  fits = omega (arith, field_fits sizes f c.offset-a.ensures c.offset-b.ensures, start.requires.1)

  ends : a + n * get_or parts k 0 ≡ b
  ends = omega (arith, field_end sizes f c.offset-a.ensures c.offset-b.ensures, start.requires.6)

  column_is : column_of n stride at (get_or parts k 0) start.args.rows.now ≡ field_column parts k n start.args.rows.now
  column_is =
      ap₂ (λ l i. column_of n l i (get_or parts k 0) start.args.rows.now) stride_is c.offset-at.ensures
      ∙ rows_cong n (λ i l. sym (field_part parts k (row (total parts) i start.args.rows.now)))

column-requires : tie.Need-column-requires
column-requires c κs =
    let o = c.before.before in
    ((start o).requires.5 ∙ ap (n o *◌) (sym (stride_is o)), part_fits o, cut_long (a o) (b o) (out o) (ends o) (fits o))

returns : tie.Need-returns
returns c =
    let w = c in
    let o = w.before.before.before.before.before in
    let s = field_column (parts o) (k o) (n o) (start o).args.rows.now in
    put_mid_lem (a o) (b o - a o) (out o) w.column.new.out s (w.column.ensures ∙ column_is o)
    (omega (arith, ends o, column_long (parts o) (k o) (n o) (start o).args.rows.now (start o).requires.5))
    ∙ ap (λ i. put (out o) i s) o.offset-a.ensures

same_length : tie.Need-shape_of-out
same_length c =
    let w = c in
    let o = w.before.before.before.before.before in
    same_len_mid (a o) (b o - a o) (out o) w.column.new.out w.column.auto.out

pub write_column_spec : {M : Type 1} → statement M
write_column_spec =
    tie.close
    (tie.spec (λ c κs. (le_refl _, c.requires.4))
    (λ c κs. let p = c.requires in (omega (arith, p.3), p.4))
    (λ c κs. let p = c.requires in (omega (arith, p.0), p.2))
    (λ c. search rules)
    (λ c κs. let p = (start-before-offset3 c).requires in (omega (arith, p.0), p.2))
    (λ c. search rules) (λ c. search rules)
    (λ c. order c.before) (λ c. order c.before) (λ c. fits c.before)
    column-requires same_length returns)
