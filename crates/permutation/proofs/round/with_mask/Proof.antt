-- `permutation::round::with_mask` meets its contract: the planes that are added are those of the mask. Assumes nothing.
use Rattle.slices.specs.Lists.{zip_xor}
use Rattle.permutation.specs.State.{plane, state, masked}
use Rattle.permutation.proofs.Steps.{joined_cong}
use Rattle.permutation.proofs.round.with_mask.Statement.{statement}
use Rattle.permutation.proofs.round.with_mask.Tie as tie

returns : tie.Need-returns
unfolding plane state masked zip_xor
returns c =
    let p4 = c in
    let p3 = p4 in
    let p2 = p3 in
    let p1 = p2 in
    let p0 = p1 in
    joined_cong p0.add.ensures p1.add-2.ensures p2.add-3.ensures p3.add-4.ensures p4.add-5.ensures

pub with_mask_spec : {M : Type 1} → statement M
with_mask_spec = tie.close (tie.spec (λ c κs. tt) (λ c κs. tt) (λ c κs. tt) (λ c κs. tt) (λ c κs. tt) returns)
