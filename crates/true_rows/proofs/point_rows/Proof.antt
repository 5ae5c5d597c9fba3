-- `true_rows::point_rows` meets its contract: the tables give the rows. Assumes nothing.
use mathlib.Core.Path.{refl, sym}
use Rattle.slices.specs.Bytes.{bytes_of}
use Rattle.true_rows.proofs.Laws.{rows_right}
use Rattle.true_rows.proofs.point_rows.Statement.{statement}
use Rattle.true_rows.proofs.point_rows.Tie as tie

returns : tie.Need-returns
returns c = (
  c.tables-last.ensures.0,
  (
    rows_right c.args.set.valid c.args.x c.args.set.shape.m1 (bytes_of c.shared_slice_known-1.given) c.tables-last.ensures.1
        c.rows.ensures,
    rows_right c.args.set.valid c.args.x c.args.set.shape.m1 (bytes_of c.shared_slice_known-2-1.given) c.tables-last.ensures.1
        c.rows-2.ensures,
  ),
)

rows-requires : tie.Need-rows-requires
rows-requires c κs =
    let p = c.requires in (p.1, c.tables-last.auto.out, p.3)

rows-requires-2 : tie.Need-rows-requires-2
rows-requires-2 c κs =
    let p = c.requires in (p.2, c.tables-last.auto.out, p.4)

pub point_rows_spec : {M : Type 1} → statement M
point_rows_spec =
    tie.close
    (tie.spec (λ c. refl) (λ c κs. let p = c.requires in (p.0, refl))
    (λ c. sym c.tables-last.auto.out) rows-requires
    (λ c. sym c.tables-last.auto.out) rows-requires-2
    (λ c. c.rows.auto.out) (λ c. c.rows-2.auto.out) returns)
