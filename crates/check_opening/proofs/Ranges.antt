-- Numbers 8, 9 and 10 of the check of an opening, and what follows them. Assumes nothing.
use Rattle.std.specs.Prelude.{Err, IsErrAnd}
use mathlib.Core.Path.{◌≡◌, refl, sym, ap, ap₂, ◌∙◌}
use mathlib.Core.List.{List}
use Prim.Native.Nat.{ℕ, ◌<◌}
use native.Mathlib.Omega.{arith}
use lib.ListN.{length, get_or}
use lib.Seq.{drop-cons}
use Rattle.slices.specs.Numbers.{number}
use Rattle.slices.specs.Layout.{field}
use Rattle.banquet.specs.declared.Shape.{Shape}
use Rattle.banquet.specs.Sets.{scheme_of}
use Rattle.banquet.specs.declared.Refusal.{Refusal}
use Rattle.banquet.specs.Answer.{Answer, accepted, Test, in_order, cleared}
use Rattle.banquet.specs.Opening.{range_tests, execution_of, second_of, shown_seed, check_parties, check_opening}
use Rattle.banquet.specs.Calls.{checked, checked_after}
use Rattle.banquet.proofs.Refusals.{passed_at}
use Rattle.verdict.specs.Tests.{checked_refused, passes}
use Rattle.scratch.specs.Scratch.{Scratch}
use Rattle.scratch.specs.Clears.{checked_cleared}
use Rattle.check_opening.proofs.Clears.{parties_clear}

-- the execution is a byte
pub execution_is : (S : Shape) (t : List ℕ) → 32 < length t → get_or t 32 0 ≡ execution_of (scheme_of S) t
unfolding field number
execution_is S t h = rw (drop-cons t 32 0 h) (omega arith)

module _ (S : Shape) (public_key t : List ℕ) (hidden : ℕ) (siblings work : List ℕ) where
  abbrev parties : Answer
  parties = check_parties (scheme_of S) public_key t hidden (shown_seed (scheme_of S) t hidden siblings)

  -- the numbers as the code has them
  module _ {e second : ℕ} (e_is : e ≡ execution_of (scheme_of S) t) (second_is : second ≡ second_of (scheme_of S) t) where
    abbrev tests : List Test
    tests = range_tests S e hidden second

    stated : tests ≡ range_tests S (execution_of (scheme_of S) t) hidden (second_of (scheme_of S) t)
    stated = ap₂ (λ e R. range_tests S e hidden R) e_is second_is

    answer_is : in_order tests parties ≡ check_opening (scheme_of S) public_key t hidden siblings
    unfolding check_opening
    answer_is = ap (λ ts. in_order ts parties) stated

    module _ {a : Answer} (is : a ≡ in_order tests accepted) where
      pub ranges_refused : {refusal : Refusal} → a ≡ Err refusal → {r : Answer} → IsErrAnd r (λ e. e ≡ refusal)
          → checked r work ≡ checked_after (check_opening (scheme_of S) public_key t hidden siblings) work
      ranges_refused h up = checked_refused tests refl is h up parties work ∙ ap (λ (a : Answer). checked_after a work) answer_is

      -- the parties are checked, and the work slice's front is set to zero
      pub parties_checked : a ≡ accepted → {r : Answer} {u w : List ℕ} → r ≡ parties → Scratch work u → w ≡ cleared u
          → checked r w ≡ checked_after (check_opening (scheme_of S) public_key t hidden siblings) work
      parties_checked h q s f =
          checked_cleared work (rw q (parties_clear S public_key t hidden (shown_seed (scheme_of S) t hidden siblings))) s f
          ∙ ap (λ (a : Answer). checked_after a work) (q ∙ sym (passed_at tests parties (passes tests refl is h)) ∙ answer_is)
