-- The numbers are tested in order, then the key, and else the opening is made.
use Rattle.std.proofs.Common.{◌≡◌, ◌<◌, ◌≤◌, ◌*◌, ◌^◌, ◌∙◌, List, ℕ, true, refl, sym, ap, arith}
use borrow.Author.Tests.{ltb-true, leb-true}
use Rattle.banquet.specs.declared.Shape.{Shape}
use Rattle.banquet.specs.Sets.{scheme_of}
use Rattle.banquet.specs.Answer.{Answer, accepted, in_order}
use Rattle.banquet.specs.Key.{check_key}
use Rattle.banquet.specs.Opening.{range_tests, opening}
use Rattle.banquet.specs.Calls.{made_after}
use Rattle.banquet.proofs.Refusals.{test_at, passed_at}
use Rattle.verdict.specs.Tests.{made_refused, passes}
use Rattle.sets.specs.Valid.{Valid}
use Rattle.scratch.specs.Scratch.{cleared_scratch}
use Rattle.check_key.specs.Answers.{key_refused, key_accepted}
use Rattle.make_opening.specs.Steps.{Ranges}
use Rattle.open_execution.proofs.open_key.Goals as goal

-- the numbers are right
module _ (S : Shape) (e hidden second : ℕ) {a : Answer} (is : a ≡ in_order (range_tests S e hidden second) accepted) (passed : a ≡ accepted) where
  right : (k : ℕ) → test_at (range_tests S e hidden second) k ≡ true
  right = passes (range_tests S e hidden second) refl is passed

  ranges : Valid S → second < 2 ^ (8 * S.wide) → Ranges S e second hidden
  ranges v wide =
      let least : S.m2 ≤ second = leb-true _ _ (right 2) in
      record { execution = ltb-true _ _ (right 0); hidden_shown = ltb-true _ _ (right 1); second_least = omega (arith, least, v.twenty); second_wide = wide }

  -- the key's answer is the call's
  whole : (keyed : Answer) (file out work : List ℕ)
      → made_after keyed file out work ≡ made_after (in_order (range_tests S e hidden second) keyed) file out work
  whole keyed file out work = ap (λ (x : Answer). made_after x file out work) (sym (passed_at (range_tests S e hidden second) keyed right))

pub returns-in_err-ranges : goal.returns-in_err-ranges
returns-in_err-ranges c =
    let a = c.args in
    made_refused (range_tests a.set.shape a.e a.hidden a.second) refl c.ranges-2.ensures c.in_err-ranges.was c.from_residual.ensures.1
    (check_key (scheme_of a.set.shape) a.public.now a.key.now accepted)
    (opening (scheme_of a.set.shape) a.key.now a.public.now a.salt.now a.root.now a.first.now a.e a.second a.hidden) a.out.now a.work.now

pub returns-in_err-check_key : goal.returns-in_err-check_key
returns-in_err-check_key c =
    let a = c.args in
    let file = opening (scheme_of a.set.shape) a.key.now a.public.now a.salt.now a.root.now a.first.now a.e a.second a.hidden in
    key_refused (scheme_of a.set.shape) a.public.now a.key.now c.check_key.ensures.value file a.out.now a.work.now
    c.in_err-check_key.was c.from_residual-in_err-check_key.ensures.1
    ∙ whole a.set.shape a.e a.hidden a.second c.ranges-2.ensures c.in_ok-ranges.was _ file a.out.now a.work.now

pub overflow_cast-e : goal.overflow_cast-e
overflow_cast-e c =
    let a = c.args in
    let fits = ranges a.set.shape a.e a.hidden a.second c.ranges-2.ensures c.in_ok-ranges.was c.requires.0.valid c.requires.1 in
    omega (arith, fits.execution, c.requires.0.valid.brief)

pub make-requires : goal.make-requires
make-requires c =
    let a = c.args in
    let p = c.requires in (
      p.0,
      ranges a.set.shape a.e a.hidden a.second c.ranges-2.ensures c.in_ok-ranges.was p.0.valid p.1,
      record { inputs_is = c.check_key.ensures.inputs_after; inverses_is = c.check_key.ensures.inverses_after },
      p.2,
      p.3,
    )

pub returns : goal.returns
returns c =
    let a = c.args in
    let file = opening (scheme_of a.set.shape) a.key.now a.public.now a.salt.now a.root.now a.first.now a.e a.second a.hidden in
    key_accepted (scheme_of a.set.shape) a.public.now a.key.now c.check_key.ensures.value file a.out.now a.work.now c.in_ok-check_key.was
    c.make.ensures.out_after (c.clear.ensures ∙ cleared_scratch c.make.ensures.scratch)
    ∙ whole a.set.shape a.e a.hidden a.second c.ranges-2.ensures c.in_ok-ranges.was _ file a.out.now a.work.now
