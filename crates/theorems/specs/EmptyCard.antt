-- "Empty input prints the whole output `refused 18 1`", with a line end: of any scheme. Assumes nothing.
use Rattle.std.specs.Prelude.{◌≡◌, refl, [], ◌∷◌, ◌++◌}
use Rattle.banquet.specs.Scheme.{Scheme}
use Rattle.banquet.specs.Answer.{require}
use Rattle.banquet.specs.Card.{line_of, is_line, check_lines, verify_card_answer, decimal_in, refused_word, refusal_line, printed, card_output}

pub empty_card : (𝓢 : Scheme) → card_output 𝓢 [] ≡ refused_word ++ (0x20 ∷ 0x31 ∷ 0x38 ∷ 0x20 ∷ 0x31 ∷ 0x0a ∷ [])
unfolding card_output verify_card_answer check_lines is_line line_of require printed refusal_line decimal_in
empty_card 𝓢 = refl
