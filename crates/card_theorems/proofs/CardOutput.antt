-- Of the card of a message that `sign` signed the program prints `accepted`, of any scheme. Assumes nothing.
use Rattle.std.specs.Prelude.{refl, List, ℕ, ◌≤◌, length, replicate}
use Rattle.std.proofs.Common.{arith}
use Rattle.std.proofs.lemmas.List.{length-replicate}
use Rattle.slices.specs.Bytes.{Sized}
use Rattle.banquet.specs.Shape.{work_length, signature_length}
use Rattle.banquet.specs.Scheme.{Scheme}
use Rattle.banquet.specs.Signature.{signature}
use Rattle.theorems.specs.Laws.{Laws}
use Rattle.theorems.specs.Inputs as inputs
use Rattle.theorems.specs.SignatureComplete as signs
use Rattle.card_theorems.specs.CardOutput.{SignedCardAccepted, card_accepted}

-- the work slice that the program lends
abbrev room : List ℕ
room = replicate work_length 0

module _ (𝓢 : Scheme) where
  pub signed_card_accepted : Laws 𝓢 → SignedCardAccepted 𝓢
  signed_card_accepted L key public_key message salt seeds output work kb pb mb sb acc =
      let i = inputs.sign_split 𝓢 L key public_key message salt seeds output work kb pb acc in
      let s : Sized (signature_length 𝓢.shape) (signature 𝓢 key public_key message salt seeds) = record {
        size = signs.signature_size 𝓢 L key public_key message salt seeds i;
        bytes = signs.signature_bytes 𝓢 L key public_key message salt seeds i sb;
      }
      in
      let enough : work_length ≤ length room = omega (arith, length-replicate {A = ℕ} work_length 0) in
      card_accepted 𝓢 refl public_key message (signature 𝓢 key public_key message salt seeds) i.public_sized mb i.message_size s
      (signs.signature_accepted 𝓢 L key public_key message salt seeds i room enough)
