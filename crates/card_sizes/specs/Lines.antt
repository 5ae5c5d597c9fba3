-- The lines of a card of any parameter set: how many there are, the bytes that they stand for, and the length of the text. Assumes nothing.
use Rattle.std.specs.Prelude.{◌≡◌, List, ℕ, ◌+◌, ◌-◌, ◌*◌, length, take}
use Rattle.std.proofs.Common.{ap, ◌∙◌, arith}
use Rattle.std.proofs.Math.Nat.{sub-zero}
use Rattle.std.proofs.lemmas.List.{length-replicate}
use Rattle.slices.specs.Layout.{total}
use Rattle.text_lines.specs.Parts.{total_replicate}
use Rattle.banquet.specs.declared.Shape.{Shape}
use Rattle.banquet.specs.Shape.{public_key_length, frame_sizes, signature_length}
use Rattle.banquet.specs.Card.{card_sizes}
use Rattle.card_theorems.specs.Cards.{card_length}

module _ (S : Shape) where
  -- a line each for public key, message and head, and for every frame
  abbrev pub lines_of : ℕ
  lines_of = 3 + S.executions

  -- the bytes of public key, message and signature, with m bytes of message
  abbrev pub card_bytes : ℕ → ℕ
  card_bytes m = public_key_length S + m + signature_length S

  pub sizes_many : (m : ℕ) → length (card_sizes S m) ≡ lines_of
  sizes_many m = omega (arith, length-replicate {A = ℕ} S.executions (total (frame_sizes S)))

  pub sizes_total : (m : ℕ) → total (card_sizes S m) ≡ card_bytes m
  sizes_total m = omega (arith, total_replicate S.executions (total (frame_sizes S)))

  -- two digits a byte, and an end for each line
  pub length_is : (m : ℕ) → card_length S m ≡ 2 * card_bytes m + lines_of
  length_is m = omega (arith, sizes_total m, sizes_many m)

  -- those that a card has, as `sizes[0..lines]` lends them
  pub sizes_lent : (m : ℕ) {lines : ℕ} (sizes : List ℕ) → lines ≡ lines_of → take lines_of sizes ≡ card_sizes S m
      → take (lines - 0) sizes ≡ card_sizes S m
  sizes_lent m {lines} sizes l e = ap (λ (n : ℕ). take n sizes) (sub-zero lines ∙ l) ∙ e
