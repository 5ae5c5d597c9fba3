-- `fields::field` meets its contract: the part from its offset to the next. Assumes nothing.
use Rattle.std.proofs.Common.{◌≤◌, arith, length, rules}
use Rattle.fields.specs.Offsets.{field_order, field_fits, field_between}
use Rattle.fields.proofs.field.Statement.{statement}
use Rattle.fields.proofs.field.Tie as tie

module _ (c : tie.After-offset-e) where
  abbrev start : tie.Start
  start = c.before.before.before.before

  order : c.before.offset-a.result ≤ c.offset-e.result
  order = field_order start.args.sizes.now start.args.k c.before.offset-a.ensures c.offset-e.ensures

  fits : c.offset-e.result ≤ length start.args.s.now
  fits =
      omega (arith, field_fits start.args.sizes.now start.args.k c.before.offset-a.ensures c.offset-e.ensures, start.requires.1)

returns : tie.Need-returns
returns c =
    let p = c.before in
    let s = start p in
    field_between s.args.sizes.now s.args.k p.before.offset-a.ensures p.offset-e.ensures s.args.s.now

pub field_spec : {M : Type 1} → statement M
field_spec =
    tie.close
    (tie.spec (λ c κs. search rules) (λ c. search rules) (λ c κs. search rules) order (λ c. omega (arith, order c))
    (λ c. omega (arith, fits c)) returns)
