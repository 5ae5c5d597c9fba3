-- What is printed of a card's text. Assumes nothing.
use mathlib.Core.Path.{◌≡◌, ap, ◌∙◌}
use mathlib.Core.List.{List, ◌++◌}
use Prim.Native.Nat.{ℕ}
use lib.ListN.{length, drop, replicate}
use Rattle.banquet.specs.declared.Verdict.{Verdict}
use Rattle.banquet.specs.Shape.{work_length}
use Rattle.banquet.specs.Answer.{Answer, verdict_of}
use Rattle.banquet.specs.Calls.{Checked, checked}
use Rattle.banquet.specs.Card.{verify_card, printed, card_output}
use Rattle.banquet.specs.Sets.{base_scheme}
use Rattle.print_card.specs.declared.Line.{Line}
use Rattle.print_card.specs.Line.{as_line}

abbrev line : List ℕ → ℕ → Line
line bytes length = record { bytes = bytes; length = length }

pub card_printed : (text : List ℕ) {a : Answer} {work bytes : List ℕ} {v : Verdict} {n : ℕ}
    → checked a work ≡ verify_card base_scheme text (replicate work_length 0) → v ≡ verdict_of a
    → (n ≡ length (printed v)) × (bytes ≡ printed v ++ drop n (replicate 30 0))
    → line bytes n ≡ as_line (card_output base_scheme text)
unfolding card_output as_line
card_printed text {a} {work} {bytes} {v} {n} e f told =
    let same : printed v ≡ card_output base_scheme text = ap printed (f ∙ ap (λ (c : Checked). verdict_of c.answer) e) in
    let shown : line bytes n ≡ as_line (printed v) = rw (told.1, told.0) in
    shown ∙ ap as_line same
