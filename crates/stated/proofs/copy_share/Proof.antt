-- `stated::copy_share` meets its contract. Assumes nothing.
use mathlib.Core.Path.{ap, ap₂, ◌∙◌}
use Prim.Native.Nat.{ℕ, ◌+◌, ◌*◌, ◌≤◌}
use native.Mathlib.Nat.{le-add_right}
use native.Mathlib.Omega.{arith}
use lib.ListN.{length, get_or}
use borrow.Author.Rules.{rules}
use Rattle.slices.proofs.Rows.{row_long, row_cut}
use Rattle.slices.specs.Lists.{row, put}
use Rattle.fields.specs.Offsets.{total_take_fits, length_field_fits}
use Rattle.stated.proofs.copy_share.Statement.{statement}
use Rattle.stated.proofs.copy_share.Tie as tie

abbrev start : tie.After-field-rows → tie.Start
start c = c.before.before.before.before.before.before.before

-- the size of a share
abbrev size : tie.After-field-rows → ℕ
size c = get_or (start c).args.parts.now (start c).args.p 0

-- the row lies in the field
fits : (c : tie.After-field-rows) → (start c).args.i * size c + size c ≤ length c.field-rows.result.now
fits c =
    let s = start c in
    omega (arith, s.requires.6, ap length c.field-rows.ensures, length_field_fits s.args.sizes.now s.args.k s.args.s.now s.requires.1)

copy-at-requires : tie.Need-copy_at-requires
copy-at-requires c κs =
    let f = c.before.before in
    let s = start f in
    omega (
      arith,
      row_long s.args.i (size f) f.field-rows.result.now (fits f),
      f.offset-at.ensures,
      total_take_fits s.args.parts.now s.args.p,
      s.requires.4,
    )

returns : tie.Need-returns
returns c =
    let w = c in
    let f = w.before.before.before.before.before in
    let a = (start f).args in
    w.copy_at.ensures
    ∙ ap₂ (put a.out.now) f.offset-at.ensures
    (row_cut a.i (size f) f.field-rows.result.now ∙ ap (row (size f) a.i) f.field-rows.ensures)

pub copy_share_spec : {M : Type 1} → statement M
copy_share_spec =
    tie.close
    (tie.spec (λ c. search rules) (λ c. search rules) (λ c κs. let p = c.requires in (omega (arith, p.3), p.5))
    (λ c κs. let p = c.requires in (p.0, p.1, p.2)) (λ c. omega (arith, fits c))
    (λ c. omega (arith, fits c)) (λ c. le-add_right _ _) (λ c. le-add_right _ _) (λ c. fits c.before) copy-at-requires
    (λ c. c.copy_at.auto.dst) returns)
