-- The tables are those of the values at the points 0 to 19.
use Rattle.std.proofs.Common.{◌∙◌, rules}
use Rattle.points.proofs.Laws.{tables_right}
use Rattle.points.proofs.tables.Goals as goal

pub returns-clause-out_after : goal.returns-clause-out_after
returns-clause-out_after c =
    let f = c.field_of-field.ensures in
    tables_right c.args.set.valid c.args.x {values = c.values.new.out} (c.bits.ensures ∙ f.bits) (c.low.ensures ∙ f.low) (search rules) (c.powers-p.ensures ∙ f.powers) c.tables.ensures
