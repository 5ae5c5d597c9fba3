use Rattle.std.proofs.Common.{◌≡◌, ◌∙◌, arith, ℕ, List, [], ◌∷◌, ◌+◌, take}
use Rattle.std.specs.List.{sum, fold}
use Rattle.std.proofs.lemmas.Iterator.{YieldsList-from_slice}
use Rattle.std.proofs.lemmas.Iterator.Consumers.{sum_from_yields_List, fits_from_yields_list}
use Rattle.slices.specs.Layout.{total}
use Rattle.fields.specs.Offsets.{total_take_le}
use Rattle.fields.proofs.offset.Goals as goal

fold_total : (s : List ℕ) (n : ℕ) → fold ◌+◌ n s ≡ n + total s
fold_total [] n = omega arith
fold_total (x ∷ s) n = fold_total s (n + x) ∙ omega arith

sum_total : (s : List ℕ) → sum s ≡ total s
sum_total s = fold_total s 0 ∙ omega arith

pub sum-requires-clause-fits : goal.sum-requires-clause-fits
sum-requires-clause-fits c =
    let first = take c.args.k c.args.sizes.now in
    fits_from_yields_list c.iter.result _ (YieldsList-from_slice first cc)
    (omega (arith, sum_total first, total_take_le c.args.sizes.now c.args.k, c.requires.1))

pub returns : goal.returns
returns c =
    let first = take c.args.k c.args.sizes.now in
    let is = sum_from_yields_List c.iter.result _ c.sum.ensures.ran (YieldsList-from_slice first cc) in
    omega (arith, is, sum_total first)
