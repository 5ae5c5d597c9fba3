-- The rows hold: the definitions give what vectors/toy.py gives, each list of rows by one computation.
use Rattle.std.specs.Prelude.{◌≡◌, refl, List, [], ◌∷◌, ◌++◌, ℕ, replicate}
use Rattle.std.proofs.Common.{ap, ◌∙◌}
use Rattle.banquet.specs.Answer.{output_after}
use Rattle.banquet.specs.Signature.{signature}
use Rattle.banquet.specs.Calls.{sign_answer, sign}
use Rattle.toy.specs.Toy.{toy, computed, expected}
use Rattle.toy.specs.Shared.{shared, signature_shared}
use Rattle.toy.specs.Unfolding.{everything}
use Rattle.toy.specs.Rows.{
  key,
  public_key,
  message,
  salt,
  seeds,
  signature_file,
  calls,
  slices,
  openings,
  signatures,
  cards,
  texts,
  others,
}

-- a work slice that is long enough
abbrev work : List ℕ
work = replicate 65536 7

pub calls_hold : computed (calls work) ≡ expected (calls work)
unfolding everything
calls_hold = refl

pub slices_hold : computed (slices work) ≡ expected (slices work)
unfolding everything
slices_hold = refl

pub openings_hold : computed openings ≡ expected openings
unfolding everything
openings_hold = refl

pub signatures_hold : computed signatures ≡ expected signatures
unfolding everything
signatures_hold = refl

pub cards_hold : computed cards ≡ expected cards
unfolding everything
cards_hold = refl

pub texts_hold : computed texts ≡ expected texts
unfolding everything
texts_hold = refl

pub others_hold : computed others ≡ expected others
unfolding everything
others_hold = refl

-- ---- a signature, and what signing writes on an output that is three bytes longer

shared_holds : shared key public_key message salt seeds ≡ signature_file
unfolding everything
shared_holds = refl

pub signature_holds : signature toy key public_key message salt seeds ≡ signature_file
signature_holds = signature_shared key public_key message salt seeds ∙ shared_holds

abbrev output : List ℕ
output = replicate 271 7

written : output_after (sign_answer toy key public_key message salt seeds output work) signature_file output ≡ signature_file ++ (7 ∷ 7 ∷ 7 ∷ [])
unfolding everything
written = refl

pub sign_holds : (sign toy key public_key message salt seeds output work).output ≡ signature_file ++ (7 ∷ 7 ∷ 7 ∷ [])
sign_holds = ap (λ (s : List ℕ). output_after (sign_answer toy key public_key message salt seeds output work) s output) signature_holds ∙ written
