-- A turn takes the product of the factors after a point times that of those before it, and times its weight.
use Rattle.std.proofs.Common.{length, ap, ◌∙◌, arith, rules}
use Rattle.slices.specs.Tab.{length_tab}
use Rattle.lagrange.specs.Values.{upto}
use Rattle.lagrange.proofs.Products.{down_none, down_more, down_all}
use Rattle.lagrange.proofs.values.Goals as goal

pub loop-k-init : goal.loop-k-init
loop-k-init c =
    let a = c.args in
    let e = c.prefixes.ensures in
    let size = ap length e ∙ length_tab (upto a.bits a.low a.x) (length a.out.now) ∙ c.requires.2 in
    (size, down_none _ _ _ e c.requires.2 size)

pub loop-k-preserved : goal.loop-k-preserved
loop-k-preserved c =
    let l = c.loop-k in (
      search rules,
      down_more _ _ _ c.requires.3 c.requires.1 l.invariant.1 (omega arith) (omega arith) l.invariant.0
          c.mul-numerator.ensures c.mul.ensures c.mul-product.ensures,
    )

pub returns : goal.returns
returns c = let l = c.loop-k in down_all _ _ _ l.invariant.1 (omega arith) l.invariant.0
