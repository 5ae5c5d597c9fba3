-- What the card program prints, of document 01's set with its figures. Assumes nothing.
use Rattle.banquet.specs.Sets.{base_scheme, base_figures, base_figures_lem}
use Rattle.theorems.specs.Sets.{base_laws}
use Rattle.card_theorems.specs.CardOutput as outputs
use Rattle.card_theorems.proofs.CardOutput as proved

pub second_line_refused : outputs.SecondLineRefused base_scheme base_figures
second_line_refused = outputs.second_line_refused base_scheme base_figures_lem

pub output_cut : outputs.OutputCut base_scheme
output_cut = outputs.output_cut base_scheme

pub card_accepted : outputs.CardAccepted base_scheme base_figures
card_accepted = outputs.card_accepted base_scheme base_figures_lem

pub signed_card_accepted : outputs.SignedCardAccepted base_scheme
signed_card_accepted = proved.signed_card_accepted base_scheme base_laws
