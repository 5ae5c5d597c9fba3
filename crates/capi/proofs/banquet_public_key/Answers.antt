-- `capi::banquet_public_key` meets its contract: the answer of `public_key::make_public_key`, as one number. Assumes nothing.
use Rattle.capi.proofs.Laws.{written_told}
use Rattle.capi.proofs.banquet_public_key.Goals as goal

pub returns : goal.returns
returns c = written_told c.code.ensures c.make_public_key.ensures
