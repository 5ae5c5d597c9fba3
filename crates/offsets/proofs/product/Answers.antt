-- The dot product of S_j and T_j.
use Rattle.std.proofs.Common.{refl, arith, replicate}
use Rattle.sets.specs.Room.{columns_lent}
use Rattle.sets.specs.Laws.{wide_field}
use Rattle.forms.specs.Point.{product_value}
use Rattle.offsets.proofs.Laws.{dot_right}
use Rattle.offsets.proofs.product.Goals as goal

pub values_s-requires : goal.values_s-requires
values_s-requires c = let p = c.requires in (p.0, p.2, p.1, columns_lent c.args.set.valid (replicate 10 0) refl)

pub values_t-requires : goal.values_t-requires
values_t-requires c = let p = c.requires in (p.3, p.1, columns_lent c.args.set.valid (replicate 10 0) refl)

pub dot-requires : goal.dot-requires
dot-requires c = ((wide_field c.args.set.valid).fits, omega (arith, c.values_s.auto.out, c.values_t.auto.out))

pub returns : goal.returns
unfolding product_value
returns c = dot_right _ _ c.args.set.shape.m1 _ _ c.values_s.ensures c.values_t.ensures c.dot.ensures
