-- It refuses by length, in the call's order, and else checks the opening.
use Rattle.std.proofs.Common.{◌≡◌, ◌+◌, ◌≤◌, ℕ, List, true, refl, arith, length}
use borrow.Author.Tests.{eqb-true, leb-true}
use Rattle.slices.specs.Layout.{total}
use Rattle.banquet.specs.declared.Shape.{Shape}
use Rattle.banquet.specs.Shape.{opening_length, transcript_sizes}
use Rattle.banquet.specs.Answer.{Answer, accepted, in_order}
use Rattle.banquet.proofs.Refusals.{test_at}
use Rattle.verdict.specs.Tests.{passes}
use Rattle.check_opening.proofs.Call.{tests, refused, parts_long, opening_checked_lem}
use Rattle.check_opening.proofs.check.Goals as goal

-- the lengths are right
module _ (S : Shape) (key o work : List ℕ) {a : Answer} (is : a ≡ in_order (tests S key o work) accepted) (passed : a ≡ accepted) where
  right : (k : ℕ) → test_at (tests S key o work) k ≡ true
  right = passes (tests S key o work) refl is passed

  -- where the transcript ends
  within : {end : ℕ} → end ≡ total (transcript_sizes S) → end + 1 ≤ length o
  within e = let file : length o ≡ opening_length S = eqb-true _ _ (right 1) in omega arith

pub returns-in_err-verify_opening : goal.returns-in_err-verify_opening
returns-in_err-verify_opening c =
    let a = c.args in
    refused a.set.shape a.public.now a.opening.now a.work.now c.verify_opening.ensures c.in_err-verify_opening.was c.from_residual.ensures.1

pub bounds-opening-end : goal.bounds-opening-end
bounds-opening-end c =
    let a = c.args in
    omega
    (arith, within a.set.shape a.public.now a.opening.now a.work.now c.verify_opening.ensures c.in_ok-verify_opening.was c.transcript_length-end.ensures.0)

pub slice_bounds-check_ranges-end : goal.slice_bounds-check_ranges-end
slice_bounds-check_ranges-end c =
    let a = c.args in
    omega
    (arith, within a.set.shape a.public.now a.opening.now a.work.now c.verify_opening.ensures c.in_ok-verify_opening.was c.transcript_length-end.ensures.0)

pub slice_bounds-check_ranges-count-2 : goal.slice_bounds-check_ranges-count-2
slice_bounds-check_ranges-count-2 c =
    let a = c.args in
    within a.set.shape a.public.now a.opening.now a.work.now c.verify_opening.ensures c.in_ok-verify_opening.was c.transcript_length-end.ensures.0

pub slice_bounds-check_ranges-start-2 : goal.slice_bounds-check_ranges-start-2
slice_bounds-check_ranges-start-2 c =
    let a = c.args in
    within a.set.shape a.public.now a.opening.now a.work.now c.verify_opening.ensures c.in_ok-verify_opening.was c.transcript_length-end.ensures.0

pub check_ranges-requires : goal.check_ranges-requires
check_ranges-requires c =
    let a = c.args in
    let pass = right a.set.shape a.public.now a.opening.now a.work.now c.verify_opening.ensures c.in_ok-verify_opening.was in
    let long = parts_long a.set.shape a.public.now a.opening.now a.work.now pass c.transcript_length-end.ensures.0 in
    (eqb-true _ _ (pass 0), long.0, long.1, leb-true _ _ (pass 2))

pub returns : goal.returns
returns c =
    let a = c.args in
    let pass = right a.set.shape a.public.now a.opening.now a.work.now c.verify_opening.ensures c.in_ok-verify_opening.was in
    opening_checked_lem a.set.shape a.public.now a.opening.now a.work.now pass c.transcript_length-end.ensures.0 c.check_ranges.ensures
