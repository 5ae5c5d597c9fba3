-- A call that begins with a list of tests, as code goes through it: it asks for their answer, returns it with `?` where it refuses, and else goes on.
-- Assumes nothing.
use Rattle.std.specs.Prelude.{◌≡◌, ◌≢◌, refl, Ok, Err, IsErrAnd, true, false, List, ℕ}
use Rattle.std.proofs.Common.{sym, ap, ◌∙◌}
use Rattle.banquet.specs.declared.Refusal.{Refusal}
use Rattle.banquet.specs.Answer.{Answer, accepted, verdict_of, Test, in_order, clears}
use Rattle.banquet.specs.Calls.{written, checked, made, written_after, checked_after, made_after}
use Rattle.banquet.proofs.Refusals.{refused, test_at, leave, refused_by, refusals_leave, all_pass}
use Rattle.banquet.proofs.Lent.{written_untouched, checked_untouched, made_untouched}

-- what `?` returns of a refusal: the refusal itself
pub returned : {refusal : Refusal} (r : Answer) → IsErrAnd r (λ e. e ≡ refusal) → r ≡ Err refusal
returned (Ok _) h = absurd h
returned (Err e) h = ap Err h

-- a refusal is no acceptance
pub refuses : {a : Answer} {refusal : Refusal} → a ≡ Err refusal → a ≢ accepted
refuses {refusal = refusal} h e = refused refusal (sym h ∙ e)

pub accepted_is_none : {refusal : Refusal} → accepted ≢ Err refusal
accepted_is_none h = refuses h refl

module _ (tests : List Test) (quiet : leave tests ≡ true) {a : Answer} (is : a ≡ in_order tests accepted) where
  -- ---- the tests refuse: the call's answer is theirs, and every slice is untouched

  module _ {refusal : Refusal} (h : a ≡ Err refusal) where
    not_accepted : in_order tests accepted ≢ accepted
    not_accepted e = refuses h (is ∙ e)

    answer_is : (rest : Answer) → Err refusal ≡ in_order tests rest
    answer_is rest = sym h ∙ is ∙ sym (refused_by tests rest not_accepted)

    leaves : clears (verdict_of (Err refusal)) ≡ false
    leaves = ap (λ (a : Answer). clears (verdict_of a)) (sym h ∙ is) ∙ refusals_leave tests quiet not_accepted

    module _ {r : Answer} (up : IsErrAnd r (λ e. e ≡ refusal)) (rest : Answer) where
      pub written_refused : (file output : List ℕ) → written r output ≡ written_after (in_order tests rest) file output
      written_refused file output =
          ap (λ (a : Answer). written a output) (returned r up) ∙ sym (written_untouched (Err refusal) leaves file output)
          ∙ ap (λ (a : Answer). written_after a file output) (answer_is rest)

      pub checked_refused : (work : List ℕ) → checked r work ≡ checked_after (in_order tests rest) work
      checked_refused work =
          ap (λ (a : Answer). checked a work) (returned r up) ∙ sym (checked_untouched (Err refusal) leaves work)
          ∙ ap (λ (a : Answer). checked_after a work) (answer_is rest)

      pub made_refused : (file output work : List ℕ) → made r output work ≡ made_after (in_order tests rest) file output work
      made_refused file output work =
          ap (λ (a : Answer). made a output work) (returned r up) ∙ sym (made_untouched (Err refusal) leaves file output work)
          ∙ ap (λ (a : Answer). made_after a file output work) (answer_is rest)

  -- ---- they pass

  pub passes : a ≡ accepted → (k : ℕ) → test_at tests k ≡ true
  passes h = (all_pass tests accepted (sym is ∙ h)).0
