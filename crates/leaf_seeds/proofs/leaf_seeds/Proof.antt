-- `leaf_seeds::leaf_seeds` meets its contract: the leaves' seeds are written over zeros. Assumes nothing.
use native.Mathlib.Omega.{arith}
use borrow.Author.Rules.{rules}
use Rattle.sets.specs.Bounds.{leaves_most}
use Rattle.leaf_seeds.proofs.Laws.{front_long, zeros_behind}
use Rattle.leaf_seeds.proofs.leaf_seeds.Statement.{statement}
use Rattle.leaf_seeds.proofs.leaf_seeds.Tie as tie

part-seeds-end : tie.Need-slice_bounds-seeds-end
part-seeds-end c = omega (arith, c.leaf_bytes-end.ensures.0, leaves_most c.args.set.valid)

expand-requires : tie.Need-expand-requires
expand-requires c κs =
    let at_size = c in
    let p = at_size.requires in
    (p.0, p.1, front_long _ at_size.leaf_bytes-end.ensures.0 (leaves_most at_size.args.set.valid), omega (arith, leaves_most at_size.args.set.valid))

returns : tie.Need-returns
returns c = zeros_behind 2048 c.leaf_bytes-end.ensures.0 c.expand.ensures

pub leaf_seeds_spec : {M : Type 1} → statement M
leaf_seeds_spec =
    tie.close
    (tie.spec (λ c κs. search rules) (λ c. search rules) (λ c. search rules) part-seeds-end expand-requires returns)
