-- `capi::banquet_open` meets its contract: the answer of `openings::open`, as one number. Assumes nothing.
use Rattle.capi.proofs.Laws.{made_told}
use Rattle.capi.proofs.banquet_open.Goals as goal

pub returns : goal.returns
returns c = made_told c.code.ensures c.open.ensures
