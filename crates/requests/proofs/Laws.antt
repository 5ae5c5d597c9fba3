-- What is written for a request that is refused, and for one that is signed. Assumes nothing.
use Rattle.std.specs.Prelude.{Err}
use mathlib.Core.Path.{◌≡◌, refl, sym, ap, ◌∙◌}
use mathlib.Core.Bool.{Bool, false}
use mathlib.Core.List.{List, [], ◌++◌, append-nil}
use Prim.Native.Nat.{ℕ}
use native.Mathlib.Omega.{arith}
use lib.Dec.{eqb}
use lib.ListN.{length, drop, replicate, drop_of_length-le, length-replicate}
use Rattle.slices.specs.Lists.{choose}
use Rattle.banquet.specs.declared.Shape.{Shape}
use Rattle.banquet.specs.declared.Verdict.{Verdict}
use Rattle.banquet.specs.declared.Refusal.{Refusal}
use Rattle.banquet.specs.declared.Refusal.TheVariants.{
  KeyLength,
  PublicKeyLength,
  MessageLength,
  SaltLength,
  SeedLength,
  FileLength,
  WorkLength,
  ExecutionRange,
  HiddenPartyRange,
  SecondChallengeRange,
  ZeroInput,
  WrongKey,
  CommitmentDiffers,
  ShareDiffers,
  ProductDiffers,
  FirstHashDiffers,
  ThirdHashDiffers,
  TextForm,
}
use Rattle.banquet.specs.Shape.{work_length, signature_length}
use Rattle.banquet.specs.Scheme.{Scheme}
use Rattle.banquet.specs.Answer.{Answer, accepted, verdict_of_refusal, verdict_of, output_after}
use Rattle.banquet.specs.Signature.{signature}
use Rattle.banquet.specs.Calls.{Made, made, sign}
use Rattle.banquet.specs.Card.{decoded_line, card_text, printed}
use Rattle.banquet.specs.Sets.{scheme_of}
use Rattle.theorems.specs.Inputs.{sign_split}
use Rattle.theorems.specs.SignatureComplete.{signature_size}
use Rattle.sets.specs.Valid.{Valid}
use Rattle.sets.specs.Laws.{laws}
use Rattle.requests.specs.Requests.{request_answer, request_output}
use Rattle.requests.specs.Reading.{form, form_answer}
use Rattle.requests.specs.Read.{Parts}
use Rattle.requests.specs.Accepted.{line_bytes}

-- no refusal has number 0
refusal_number : (refusal : Refusal) → eqb (verdict_of_refusal refusal).number 0 ≡ false
refusal_number KeyLength = refl
refusal_number PublicKeyLength = refl
refusal_number MessageLength = refl
refusal_number SaltLength = refl
refusal_number SeedLength = refl
refusal_number FileLength = refl
refusal_number WorkLength = refl
refusal_number ExecutionRange = refl
refusal_number HiddenPartyRange = refl
refusal_number SecondChallengeRange = refl
refusal_number (ZeroInput l) = refl
refusal_number WrongKey = refl
refusal_number (CommitmentDiffers i) = refl
refusal_number (ShareDiffers i) = refl
refusal_number (ProductDiffers e) = refl
refusal_number FirstHashDiffers = refl
refusal_number ThirdHashDiffers = refl
refusal_number (TextForm n) = refl

-- a line is n bytes at the front of an output that held d
abbrev Printed : List ℕ → List ℕ → ℕ → List ℕ → Type 0
Printed line d n out = (n ≡ length line) × (out ≡ line ++ drop n d)

module _ (𝓢 : Scheme) (text : List ℕ) where
  abbrev file : List ℕ
  file = signature 𝓢 (decoded_line 1 text) (decoded_line 2 text) (decoded_line 3 text) (decoded_line 4 text) (decoded_line 5 text)

  abbrev card : List ℕ
  card = card_text 𝓢 (decoded_line 2 text) (decoded_line 3 text) file

  output_of : {a : Answer} → a ≡ request_answer 𝓢 text
      → request_output 𝓢 text ≡ choose (eqb (verdict_of a).number 0) card (printed (verdict_of a))
  unfolding request_output
  output_of e = ap (λ (a : Answer). choose (eqb (verdict_of a).number 0) card (printed (verdict_of a))) (sym e)

  pub refused_written : {a : Answer} {v : Verdict} → a ≡ request_answer 𝓢 text → {refusal : Refusal} → a ≡ Err refusal → v ≡ verdict_of a → (d : List ℕ)
      {n : ℕ} {out : List ℕ} → Printed (printed v) d n out → Printed (request_output 𝓢 text) d n out
  refused_written {a} {v} e {refusal} h ev d {n} {out} told =
      let other = ap (λ (a : Answer). eqb (verdict_of a).number 0) h ∙ refusal_number refusal in
      let line : printed v ≡ request_output 𝓢 text =
      ap printed ev ∙ sym (output_of e ∙ ap (λ (b : Bool). choose b card (printed (verdict_of a))) other) in
      (told.0 ∙ ap length line, told.1 ∙ ap (◌++ drop n d) line)

module _ {S : Shape} (v : Valid S) (text : List ℕ) where
  abbrev room : List ℕ
  room = replicate (signature_length S) 0

  file_long : request_answer (scheme_of S) text ≡ accepted → form (scheme_of S) text ≡ accepted → length (file (scheme_of S) text) ≡ signature_length S
  file_long acc h =
      signature_size (scheme_of S) (laws v) (decoded_line 1 text) (decoded_line 2 text) (decoded_line 3 text) (decoded_line 4 text) (decoded_line 5 text)
      (sign_split (scheme_of S) (laws v) (decoded_line 1 text) (decoded_line 2 text) (decoded_line 3 text) (decoded_line 4 text) (decoded_line 5 text)
      room (replicate work_length 0) (line_bytes 1 text) (line_bytes 2 text) (sym (form_answer (scheme_of S) text h) ∙ acc))

  -- accepted, a signature fills what it was lent
  filled : (f : List ℕ) → length f ≡ signature_length S → output_after accepted f room ≡ f
  unfolding output_after
  filled f long =
      let none : drop (length f) room ≡ [] =
      drop_of_length-le room {i = length f} (omega (arith, long, length-replicate {A = ℕ} (signature_length S) 0)) in
      ap (f ++◌) none ∙ append-nil f

  module _ {key public_key message salt seeds : List ℕ} (h : form (scheme_of S) text ≡ accepted) (p : Parts text key public_key message salt seeds)
      {a : Answer} (s lent : List ℕ) {work : List ℕ} (zero : lent ≡ room)
      (told : made a s work ≡ sign (scheme_of S) key public_key message salt seeds lent (replicate work_length 0)) where
    told_lines : made a s work
        ≡ sign (scheme_of S) (decoded_line 1 text) (decoded_line 2 text) (decoded_line 3 text) (decoded_line 4 text) (decoded_line 5 text) room
        (replicate work_length 0)
    told_lines = rw (p.key_is, p.public_is, p.message_is, p.salt_is, p.seeds_is, zero) at told

    pub signed_answer : a ≡ request_answer (scheme_of S) text
    signed_answer = ap (λ (m : Made). m.answer) told_lines ∙ sym (form_answer (scheme_of S) text h)

    pub card_written : a ≡ accepted → (d : List ℕ) {n : ℕ} {out : List ℕ} → Printed (card_text (scheme_of S) public_key message s) d n out
        → Printed (request_output (scheme_of S) text) d n out
    card_written acc d {n} {out} shown =
        let made_file : s ≡ file (scheme_of S) text =
        ap (λ (m : Made). m.output) told_lines
        ∙ ap (λ (x : Answer). output_after x (file (scheme_of S) text) room) (sym (ap (λ (m : Made). m.answer) told_lines) ∙ acc)
        ∙ filled (file (scheme_of S) text) (file_long (sym signed_answer ∙ acc) h) in
        let line : card_text (scheme_of S) public_key message s ≡ request_output (scheme_of S) text =
        rw (p.public_is, p.message_is, made_file) (sym (output_of (scheme_of S) text (sym acc ∙ signed_answer))) in
        (shown.0 ∙ ap length line, shown.1 ∙ ap (◌++ drop n d) line)
