-- `hex_digits::value` meets its contract: the value of a digit is below 16. Assumes nothing.
use Rattle.std.specs.Prelude.{refl}
use Rattle.banquet.specs.Card.{value_of}
use Rattle.hex_digits.proofs.Laws.{value_is}
use Rattle.hex_digits.proofs.value.Goals as goal

pub returns-in-Value : goal.returns-in-Value
unfolding value_of
returns-in-Value c = value_is _ c.in-Value.ensures refl refl
