-- The answers of the call: number 15 by the lowest execution whose product fails, and what the call leaves. Assumes nothing.
use Rattle.std.specs.Prelude.{Option, Some, None, Err, IsErrAnd}
use mathlib.Core.Path.{◌≡◌, refl, sym, ap, ◌∙◌}
use mathlib.Core.Bool.{true}
use mathlib.Core.List.{List}
use Prim.Native.Nat.{ℕ}
use lib.ListN.{length}
use Rattle.slices.specs.Lists.{found}
use Rattle.compare.specs.Lowest.{lowest}
use Rattle.banquet.specs.declared.Shape.{Shape}
use Rattle.banquet.specs.declared.Refusal.{Refusal}
use Rattle.banquet.specs.declared.Refusal.TheVariants.{ProductDiffers}
use Rattle.banquet.specs.Sets.{scheme_of}
use Rattle.banquet.specs.Answer.{Answer, accepted, Test, in_order, cleared}
use Rattle.banquet.specs.Signature.{frame_of, frame_holds, check_signature}
use Rattle.banquet.specs.Calls.{verify_tests, checked, checked_after, verify_answer, verify}
use Rattle.banquet.proofs.Refusals.{test_at, passed_at}
use Rattle.verdict.specs.Tests.{checked_refused}
use Rattle.scratch.specs.Scratch.{Scratch}
use Rattle.scratch.specs.Each.{each_some, each_no}
use Rattle.scratch.specs.Clears.{Clears, require_clears, each_clears, checked_cleared}
use Rattle.check_signature.specs.Steps.{hashes_answer, signature_answer}

module _ (S : Shape) (public_key message s : List ℕ) where
  open S use {executions}

  -- the lowest execution whose product fails
  abbrev failing : Option ℕ
  failing = found executions (lowest executions 0 (λ e. frame_holds (scheme_of S) (frame_of (scheme_of S) s e)))

  pub product_refused : {e : ℕ} → Some e ≡ failing → Err (ProductDiffers e) ≡ signature_answer S public_key message s
  unfolding check_signature
  product_refused f = sym (each_some _ ProductDiffers _ executions f)

  pub products_hold : None ≡ failing → signature_answer S public_key message s ≡ hashes_answer S public_key message s
  unfolding check_signature
  products_hold f = each_no _ ProductDiffers _ executions f

  -- acceptance and 15 to 17 leave the work slice's front zero
  signature_clears : Clears (signature_answer S public_key message s)
  unfolding check_signature
  signature_clears =
      each_clears executions 0 _ (λ j. record { is = refl })
      (require_clears _ (record { is = refl }) (require_clears _ (record { is = refl }) (record { is = refl })))

  -- ---- the call

  module _ (work : List ℕ) where
    abbrev pub tests : List Test
    tests = verify_tests S (length public_key) (length message) (length s) (length work)

    pub refused : {a : Answer} → a ≡ in_order tests accepted → {refusal : Refusal} → a ≡ Err refusal → {r : Answer} → IsErrAnd r (λ e. e ≡ refusal)
        → checked r work ≡ verify (scheme_of S) public_key message s work
    unfolding verify_answer
    refused is h up = checked_refused tests refl is h up (signature_answer S public_key message s) work

    pub answered : ((k : ℕ) → test_at tests k ≡ true) → {r : Answer} {u w : List ℕ} → r ≡ signature_answer S public_key message s → Scratch work u
        → w ≡ cleared u → checked r w ≡ verify (scheme_of S) public_key message s work
    unfolding verify_answer
    answered p {r} q t e =
        checked_cleared work (rw q signature_clears) t e
        ∙ ap (λ (a : Answer). checked_after a work) (q ∙ sym (passed_at tests (signature_answer S public_key message s) p))
