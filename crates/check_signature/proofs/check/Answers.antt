-- `check_signature::check` refuses by length, in the call's order, and else checks the signature. Assumes nothing.
use Rattle.std.proofs.Common.{◌≤◌, refl, arith, length}
use borrow.Author.Tests.{eqb-true, leb-true}
use Rattle.slices.specs.Bytes.{bytes_of}
use Rattle.banquet.specs.Shape.{work_length}
use Rattle.verdict.specs.Tests.{passes}
use Rattle.check_signature.proofs.Answers.{tests, refused, answered}
use Rattle.check_signature.proofs.check.Goals as goal

pub returns-in_err-verify : goal.returns-in_err-verify
returns-in_err-verify c =
    let a = c.args in
    refused a.set.shape a.public.now a.message.now a.s.now a.work.now c.verify.ensures c.in_err-verify.was c.from_residual.ensures.1

pub check_products-answer-requires : goal.check_products-answer-requires
check_products-answer-requires c =
    let a = c.args in
    let right = passes (tests a.set.shape a.public.now a.message.now a.s.now a.work.now) refl c.verify.ensures c.in_ok-verify.was in (
      record {
        valid = c.args.set.valid;
        public_sized = record { size = eqb-true _ _ (right 0); bytes = bytes_of c.type_inv.public };
        file_sized = record { size = eqb-true _ _ (right 2); bytes = bytes_of c.type_inv.s };
      },
      leb-true _ _ (right 3),
    )

pub clear-requires : goal.clear-requires
clear-requires c =
    let a = c.args in
    let right = passes (tests a.set.shape a.public.now a.message.now a.s.now a.work.now) refl c.verify.ensures c.in_ok-verify.was in
    let room : work_length ≤ length a.work.now = leb-true _ _ (right 3) in
    omega (arith, room, c.check_products-answer.ensures.scratch.long)

pub returns : goal.returns
returns c =
    let a = c.args in
    let right = passes (tests a.set.shape a.public.now a.message.now a.s.now a.work.now) refl c.verify.ensures c.in_ok-verify.was in
    answered a.set.shape a.public.now a.message.now a.s.now a.work.now right c.check_products-answer.ensures.value
    c.check_products-answer.ensures.scratch c.clear.ensures
