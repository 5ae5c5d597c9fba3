-- A signature is accepted exactly where every check holds, and what is too long is refused, as specs/SignatureChecks states it. Assumes nothing.
use Rattle.std.specs.Prelude.{◌≡◌, Err, false, ℕ, eqb, leb, length}
use Rattle.std.proofs.Math.Path.{refl, ap, subst}
use Rattle.std.proofs.Common.{sym, ◌∙◌}
use mathlib.Core.List.{List, [], ◌∷◌, ◌++◌}
use borrow.Author.Tests.{eqb-true, leb-true, eq-eqb, ne_eqb, le-leb, lt-leb}
use Rattle.slices.specs.Compare.{same_eq, same_refl}
use Rattle.banquet.specs.declared.Refusal.TheVariants.{PublicKeyLength, MessageLength, FileLength, WorkLength}
use Rattle.banquet.specs.Shape.{message_limit, work_length, public_key_length, signature_length}
use Rattle.banquet.specs.Scheme.{Scheme}
use Rattle.banquet.specs.Answer.{Answer, accepted, verdict_of_refusal, Test, require, in_order, clears}
use Rattle.banquet.specs.Signature.{signature_salt, signature_h1, signature_h3, frame_of, frame_holds, signature, check_signature}
use Rattle.banquet.specs.Calls.{verify_tests, checked, checked_after, sign_answer, verify_answer, verify}
use Rattle.banquet.specs.Figures.{Figures, figures_of}
use Rattle.banquet.specs.Logic.{◌and◌}
use Rattle.banquet.proofs.Lent.{checked_untouched, made_untouched}
use Rattle.banquet.proofs.Refusals.{Pass, passed, refused_at, all_pass, require_split, require_join, each_split, each_join}
use Rattle.poly.specs.Poly.{All}
use Rattle.banquet.specs.SignatureChecks.{FramesHold, SignatureHolds, SignatureChecked, MessageRefused, MessageNotSigned, LengthRefused}

module _ (𝓢 : Scheme) (public_key message salt h1 h3 : List ℕ) (frames : ℕ → List ℕ) where
  abbrev Holds : Type 0
  Holds = FramesHold 𝓢 (figures_of 𝓢.shape) public_key message salt h1 h3 frames

  frames_split : check_signature 𝓢 public_key message salt h1 h3 frames ≡ accepted → Holds
  unfolding check_signature frame_holds
  frames_split acc =
      let a = each_split 𝓢.shape.executions _ _ _ acc in
      let b = require_split _ _ _ a.1 in
      let c = require_split _ _ _ b.1 in
      record { product = λ e l. eqb-true _ _ (a.0 e l); first = same_eq _ _ b.0; third = same_eq _ _ c.0 }

  frames_join : Holds → check_signature 𝓢 public_key message salt h1 h3 frames ≡ accepted
  unfolding check_signature frame_holds
  frames_join h =
      each_join 𝓢.shape.executions _ _ _ (λ e l. eq-eqb _ _ (h.product e l))
      (require_join _ _ _ (same_refl _ _ h.first) (require_join _ _ _ (same_refl _ _ h.third) refl))

module _ (𝓢 : Scheme) (public_key message s work : List ℕ) where
  abbrev tests : List Test
  tests = verify_tests 𝓢.shape (length public_key) (length message) (length s) (length work)

  pub signature_holds : verify_answer 𝓢 public_key message s work ≡ accepted
      → SignatureHolds 𝓢 (figures_of 𝓢.shape) public_key message s work
  unfolding verify_answer
  signature_holds acc =
      let lengths = all_pass tests _ acc in
      record {
        key_size = eqb-true _ _ (lengths.0 0);
        message_size = leb-true _ _ (lengths.0 1);
        size = eqb-true _ _ (lengths.0 2);
        work_size = leb-true _ _ (lengths.0 3);
        frames_hold = frames_split 𝓢 public_key message _ _ _ _ lengths.1;
      }

  pub holds_signature : SignatureHolds 𝓢 (figures_of 𝓢.shape) public_key message s work → verify_answer 𝓢 public_key message s work ≡ accepted
  unfolding verify_answer
  holds_signature h =
      passed tests _
      (eq-eqb _ _ h.key_size and le-leb _ _ h.message_size and eq-eqb _ _ h.size and le-leb _ _ h.work_size and tt)
      ∙ frames_join 𝓢 public_key message _ _ _ _ h.frames_hold

  -- those before a test pass, and it fails
  refused : (before : List Test) (t : Test) (behind : List Test) → before ++ t ∷ behind ≡ tests → All Pass before → t.0 ≡ false
      → clears (verdict_of_refusal t.1) ≡ false → verify 𝓢 public_key message s work ≡ checked (Err t.1) work
  unfolding verify_answer
  refused before t behind is p f l =
      let rest = check_signature 𝓢 public_key message (signature_salt s) (signature_h1 s) (signature_h3 s) (frame_of 𝓢 s) in
      ap (λ (a : Answer). checked_after a work) (ap (λ (ts : List Test). in_order ts rest) (sym is) ∙ refused_at before t behind rest p f)
      ∙ checked_untouched (Err t.1) l work

module _ (𝓢 : Scheme) {F : Figures} (are : figures_of 𝓢.shape ≡ F) where
  pub signature_checked_lem : SignatureChecked 𝓢 F
  signature_checked_lem =
      subst (SignatureChecked 𝓢) are
      (λ public_key message s work. (signature_holds 𝓢 public_key message s work, holds_signature 𝓢 public_key message s work))

  abbrev key_test : List ℕ → Test
  key_test public_key = (eqb (length public_key) (public_key_length 𝓢.shape), PublicKeyLength)

  abbrev message_test : List ℕ → Test
  message_test message = (leb (length message) message_limit, MessageLength)

  abbrev file_test : List ℕ → Test
  file_test s = (eqb (length s) (signature_length 𝓢.shape), FileLength)

  abbrev work_test : List ℕ → Test
  work_test work = (leb work_length (length work), WorkLength)

  pub message_refused : MessageRefused 𝓢 F
  message_refused =
      subst (MessageRefused 𝓢) are
      (λ public_key message s work p m.
      refused 𝓢 public_key message s work (key_test public_key ∷ []) (message_test message) (file_test s ∷ work_test work ∷ []) refl
      (eq-eqb _ _ p and tt) (lt-leb _ _ m) refl)

  pub message_not_signed : MessageNotSigned 𝓢 F
  unfolding sign_answer require
  message_not_signed =
      subst (MessageNotSigned 𝓢) are
      (λ key public_key message salt seeds output work k p m.
      rw (eq-eqb (length key) 16 k, eq-eqb (length public_key) (public_key_length 𝓢.shape) p, lt-leb (length message) message_limit m)
      (made_untouched (Err MessageLength) refl (signature 𝓢 key public_key message salt seeds) output work))

  pub length_refused : LengthRefused 𝓢 F
  length_refused =
      subst (LengthRefused 𝓢) are
      (λ public_key message s work p m n.
      refused 𝓢 public_key message s work (key_test public_key ∷ message_test message ∷ []) (file_test s) (work_test work ∷ []) refl
      (eq-eqb _ _ p and le-leb _ _ m and tt) (ne_eqb _ _ n) refl)
