-- `capi::banquet_verify_opening` meets its contract: the answer of `openings::verify_opening`, as one number. Assumes nothing.
use Rattle.capi.proofs.Laws.{checked_told}
use Rattle.capi.proofs.banquet_verify_opening.Goals as goal

pub returns : goal.returns
returns c = checked_told c.code.ensures c.verify_opening.ensures
