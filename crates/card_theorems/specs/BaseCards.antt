-- The longest card of document 01's set, in figures. Assumes nothing.
use Rattle.std.specs.Prelude.{◌≡◌, refl, ◌*◌}
use Rattle.banquet.specs.Shape.{message_limit}
use Rattle.banquet.specs.Sets.{base}
use Rattle.card_theorems.specs.Cards.{card_length}

-- the longest card: public key, 32,768 bytes of message and 19,776 of signature by two digits each, and 44 line ends
pub longest_card : card_length base message_limit ≡ 105196
longest_card = refl

-- "at most 65,536 digits"
pub longest_line : 2 * message_limit ≡ 65536
longest_line = refl
