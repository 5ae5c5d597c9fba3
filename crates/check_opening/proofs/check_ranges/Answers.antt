-- The ranges in the call's order, then the parties, and the front is zero.
use Rattle.std.proofs.Common.{◌≡◌, arith, get_or}
use Rattle.slices.specs.Bytes.{bytes_of}
use Rattle.banquet.specs.Sets.{scheme_of}
use Rattle.banquet.specs.Opening.{execution_of}
use Rattle.check_opening.proofs.Ranges.{execution_is, ranges_refused, parties_checked}
use Rattle.check_opening.proofs.check_ranges.Goals as goal

pub returns-in_err-ranges : goal.returns-in_err-ranges
returns-in_err-ranges c =
    let a = c.args in
    -- the execution is a byte
    let numbered : get_or a.transcript.now 32 0 ≡ execution_of (scheme_of a.set.shape) a.transcript.now =
    execution_is a.set.shape a.transcript.now (omega (arith, c.requires.1)) in
    ranges_refused a.set.shape a.public.now a.transcript.now a.hidden a.siblings.now a.work.now numbered c.second_of-second.ensures
    c.ranges-2.ensures c.in_err-ranges.was c.from_residual.ensures.1

pub check_parties-answer-requires : goal.check_parties-answer-requires
check_parties-answer-requires c =
    let a = c.args in (
      record {
        valid = c.args.set.valid;
        key = record { size = c.requires.0; bytes = bytes_of c.type_inv.public };
        stated = record { size = c.requires.1; bytes = bytes_of c.type_inv.transcript };
        e_is = execution_is a.set.shape a.transcript.now (omega (arith, c.requires.1));
        second_is = c.second_of-second.ensures;
      },
      c.requires.2,
      c.requires.3,
    )

pub returns : goal.returns
returns c =
    let a = c.args in
    let numbered : get_or a.transcript.now 32 0 ≡ execution_of (scheme_of a.set.shape) a.transcript.now =
    execution_is a.set.shape a.transcript.now (omega (arith, c.requires.1)) in
    parties_checked a.set.shape a.public.now a.transcript.now a.hidden a.siblings.now a.work.now numbered c.second_of-second.ensures
    c.ranges-2.ensures c.in_ok-ranges.was c.check_parties-answer.ensures.value c.check_parties-answer.ensures.scratch c.clear.ensures
