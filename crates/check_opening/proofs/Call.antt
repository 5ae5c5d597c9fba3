-- The call, which refuses by lengths first, and the parts of an opening as the code has them. Assumes nothing.
use Rattle.std.specs.Prelude.{Err, IsErrAnd}
use mathlib.Core.Path.{◌≡◌, refl, sym, ap, ◌∙◌}
use mathlib.Core.Bool.{true}
use mathlib.Core.List.{List}
use Prim.Native.Nat.{ℕ, suc, ◌+◌, ◌-◌, ◌*◌}
use native.Mathlib.Nat.{sub-zero}
use native.Mathlib.Omega.{arith}
use lib.ListN.{length, get_or, take, drop, length-take, length-drop}
use lib.Seq.{take_all, length-take-le}
use borrow.Author.Tests.{eqb-true}
use Rattle.slices.specs.Layout.{total}
use Rattle.banquet.specs.declared.Shape.{Shape}
use Rattle.banquet.specs.Shape.{transcript_sizes, opening_length}
use Rattle.banquet.specs.Sets.{scheme_of}
use Rattle.banquet.specs.declared.Refusal.{Refusal}
use Rattle.banquet.specs.Answer.{Answer, accepted, Test, in_order}
use Rattle.banquet.specs.Opening.{transcript_of, hidden_of, siblings_of, check_opening}
use Rattle.banquet.specs.Calls.{verify_opening_tests, checked, checked_after, verify_opening_answer, verify_opening, Checked}
use Rattle.banquet.proofs.Refusals.{test_at, passed_at}
use Rattle.verdict.specs.Tests.{checked_refused}

module _ (S : Shape) (public_key o work : List ℕ) where
  open S use {depth}

  abbrev pub tests : List Test
  tests = verify_opening_tests S (length public_key) (length o) (length work)

  abbrev inner : Answer
  inner = check_opening (scheme_of S) public_key (transcript_of (scheme_of S) o) (hidden_of (scheme_of S) o) (siblings_of (scheme_of S) o)

  pub refused : {a : Answer} → a ≡ in_order tests accepted → {refusal : Refusal} → a ≡ Err refusal → {r : Answer} → IsErrAnd r (λ e. e ≡ refusal)
      → checked r work ≡ verify_opening (scheme_of S) public_key o work
  unfolding verify_opening_answer
  refused is h up = checked_refused tests refl is h up inner work

  module _ (right : (k : ℕ) → test_at tests k ≡ true) {end : ℕ} (is : end ≡ total (transcript_sizes S)) where
    file : length o ≡ opening_length S
    file = eqb-true _ _ (right 1)

    abbrev transcript : List ℕ
    transcript = take (end - 0) o

    abbrev siblings : List ℕ
    siblings = take (length o - (end + 1)) (drop (end + 1) o)

    transcript_is : transcript ≡ transcript_of (scheme_of S) o
    transcript_is = rw sub-zero (ap (λ n. take n o) is)

    siblings_are : siblings ≡ siblings_of (scheme_of S) o
    siblings_are =
        let n : end + 1 ≡ suc (total (transcript_sizes S)) = omega (arith, is) in
        take_all (length o - (end + 1)) (drop (end + 1) o) (omega (arith, length-drop (end + 1) o)) ∙ ap (λ n. drop n o) n

    pub parts_long : (length transcript ≡ total (transcript_sizes S)) × (length siblings ≡ depth * 16)
    parts_long = (
      rw sub-zero (length-take-le end o (omega (arith, file)) ∙ is),
      simp (length-take, length-drop) (omega (arith, file)),
    )

    pub opening_checked_lem : {c : Checked} → c ≡ checked_after (check_opening (scheme_of S) public_key transcript (get_or o end 0) siblings) work
        → c ≡ verify_opening (scheme_of S) public_key o work
    unfolding verify_opening_answer
    opening_checked_lem e =
        let same : check_opening (scheme_of S) public_key transcript (get_or o end 0) siblings ≡ inner = rw (transcript_is, siblings_are, is) refl in
        e ∙ ap (λ (a : Answer). checked_after a work) (same ∙ sym (passed_at tests inner right))
