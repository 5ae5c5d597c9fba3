-- `capi::banquet_verify_card` meets its contract: the answer of `card_text::verify_card`, as one number. Assumes nothing.
use Rattle.capi.proofs.Laws.{checked_told}
use Rattle.capi.proofs.banquet_verify_card.Goals as goal

pub returns : goal.returns
returns c = checked_told c.code.ensures c.verify_card.ensures
