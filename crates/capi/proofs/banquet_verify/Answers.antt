-- `capi::banquet_verify` meets its contract: the answer of `signatures::verify`, as one number. Assumes nothing.
use Rattle.capi.proofs.Laws.{checked_told}
use Rattle.capi.proofs.banquet_verify.Goals as goal

pub returns : goal.returns
returns c = checked_told c.code.ensures c.verify.ensures
