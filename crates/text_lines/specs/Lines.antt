-- Where a line of digits ends. Assumes nothing.
use Rattle.std.specs.Prelude.{◌&&◌, List, ℕ, length}
use Rattle.slices.specs.Lists.{choose}
use Rattle.banquet.specs.Card.{all_digits, line_of, is_ended}

-- how long the first line of a text is, if it is of digits and is ended; else how long the text is
unfoldable pub line_end : List ℕ → ℕ
line_end text = choose (is_ended text && all_digits (line_of text)) (length (line_of text)) (length text)
