-- `frame_products::first_product` meets its contract: what `find` tells of each execution. Assumes nothing.
use Rattle.std.proofs.Common.{arith, ◌≡◌, ℕ, true, false}
use Rattle.std.proofs.lemmas.Iterator.{first_from_Range}
use Rattle.compare.specs.Lowest.{found_lowest}
use Rattle.banquet.specs.Sets.{scheme_of}
use Rattle.banquet.specs.Signature.{frame_of, frame_holds}
use Rattle.frame_products.proofs.first_product.Goals as goal

pub returns : goal.returns
returns c =
    let a = c.args in
    let test = λ (e : ℕ). frame_holds (scheme_of a.set.shape) (frame_of (scheme_of a.set.shape) a.s.now e) in
    found_lowest test a.set.shape.executions _
    (first_from_Range _ _ _ _ (λ e. test e ≡ false) (λ e. test e ≡ true) c.find.ensures.ran
    (λ e q k. grind arith)
    (λ e q k. grind arith))
