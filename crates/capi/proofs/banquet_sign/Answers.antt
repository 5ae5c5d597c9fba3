-- `capi::banquet_sign` meets its contract: the answer of `signatures::sign`, as one number. Assumes nothing.
use Rattle.capi.proofs.Laws.{made_told}
use Rattle.capi.proofs.banquet_sign.Goals as goal

pub returns : goal.returns
returns c = made_told c.code.ensures c.sign.ensures
