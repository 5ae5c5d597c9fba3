-- What the card program prints, of any scheme with its figures. Assumes nothing.
use Rattle.std.specs.Prelude.{◌≡◌, ◌⊎◌, true, false, List, [], ◌∷◌, ◌++◌, ℕ, suc, ◌*◌, ◌%◌, ◌<◌, ◌≤◌, length, take, replicate}
use Rattle.std.proofs.Math.Path.{ap, subst}
use Rattle.std.proofs.Common.{◌∙◌, arith}
use Rattle.slices.specs.Bytes.{Bytes, Sized}
use Rattle.banquet.specs.Shape.{message_limit, work_length}
use Rattle.banquet.specs.Scheme.{Scheme}
use Rattle.banquet.specs.Answer.{Answer, accepted, verdict_of}
use Rattle.banquet.specs.Signature.{signature}
use Rattle.banquet.specs.Calls.{sign, verify}
use Rattle.banquet.specs.Card.{line_of, after_line, is_line, card_text, accepted_word, refusal_line, printed, card_output}
use Rattle.banquet.specs.Figures.{Figures, figures_of}
use Rattle.card_theorems.specs.Cards.{card_length, card_read, second_line, card_cut}

-- the work slice that the program lends
abbrev room : List ℕ
room = replicate work_length 0

-- ---- the statements

-- What stands one byte behind the longest card, or further, has no part in what is printed.
abbrev pub OutputCut : Scheme → Type 0
OutputCut 𝓢 = (text : List ℕ) → card_output 𝓢 (take (suc (card_length 𝓢.shape message_limit)) text) ≡ card_output 𝓢 text

-- "at most 65,536 digits": behind a first line in form, a second one with more digits, or with an odd count of them, is
-- refused as 18 with place 2, whatever its bytes are and whatever stands behind it.
abbrev pub SecondLineRefused : Scheme → Figures → Type 0
SecondLineRefused 𝓢 F =
    (text : List ℕ) → is_line false F.public_key text ≡ true
    → (2 * message_limit < length (line_of (after_line text))) ⊎ (length (line_of (after_line text)) % 2 ≡ 1)
    → card_output 𝓢 text ≡ refusal_line 18 2

-- Of a card whose signature `verify` accepts the program prints `accepted`.
abbrev pub CardAccepted : Scheme → Figures → Type 0
CardAccepted 𝓢 F =
    (public_key message s : List ℕ) → Sized F.public_key public_key → Bytes message → length message ≤ message_limit → Sized F.signature s
    → (verify 𝓢 public_key message s room).answer ≡ accepted
    → card_output 𝓢 (card_text 𝓢 public_key message s) ≡ accepted_word ++ (0x0a ∷ [])

-- "every seal made with a good key is accepted": of the card of a message that `sign` signed the program prints `accepted`.
abbrev pub SignedCardAccepted : Scheme → Type 0
SignedCardAccepted 𝓢 =
    (key public_key message salt seeds output work : List ℕ) → Bytes key → Bytes public_key → Bytes message → Bytes salt
    → (sign 𝓢 key public_key message salt seeds output work).answer ≡ accepted
    → card_output 𝓢 (card_text 𝓢 public_key message (signature 𝓢 key public_key message salt seeds)) ≡ accepted_word ++ (0x0a ∷ [])

-- ---- they hold (the last: proofs/CardOutput)

module _ (𝓢 : Scheme) where
  pub output_cut : OutputCut 𝓢
  unfolding card_output
  output_cut text =
      ap (λ (a : Answer). printed (verdict_of a)) (card_cut 𝓢 (suc (card_length 𝓢.shape message_limit)) text room (omega arith))

  pub second_line_refused : {F : Figures} → figures_of 𝓢.shape ≡ F → SecondLineRefused 𝓢 F
  unfolding card_output printed
  second_line_refused are =
      subst (SecondLineRefused 𝓢) are
      (λ text first wrong. ap (λ (a : Answer). printed (verdict_of a)) (second_line 𝓢 text room first wrong))

  pub card_accepted : {F : Figures} → figures_of 𝓢.shape ≡ F → CardAccepted 𝓢 F
  unfolding card_output printed
  card_accepted are =
      subst (CardAccepted 𝓢) are
      (λ public_key message s p m short h acc.
      ap (λ (a : Answer). printed (verdict_of a)) (card_read 𝓢 public_key message s p m short h room ∙ acc))
