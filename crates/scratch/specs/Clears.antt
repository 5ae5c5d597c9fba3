-- Which answers leave the work slice's front zero, and a call's contract from its answer. Assumes nothing.
use Rattle.std.specs.Prelude.{◌≡◌, Err, Bool, true, false, List, ℕ, zero, suc}
use Rattle.std.proofs.Common.{ap, ◌∙◌}
use Rattle.banquet.specs.declared.Refusal.{Refusal}
use Rattle.banquet.specs.Answer.{Answer, verdict_of, clears, require, each, cleared, work_after}
use Rattle.banquet.specs.Calls.{checked, checked_after}
use Rattle.scratch.specs.Scratch.{Scratch, cleared_scratch}

pub record Clears (a : Answer) : Type 0 where
  pub is : clears (verdict_of a) ≡ true

pub require_clears : (t : Bool) {refusal : Refusal} {rest : Answer} → Clears (Err refusal) → Clears rest → Clears (require t refusal rest)
unfolding require
require_clears true p q = q
require_clears false p q = p

pub each_clears : (n i : ℕ) (test : ℕ → Bool) {refusal : ℕ → Refusal} {rest : Answer} → ((j : ℕ) → Clears (Err (refusal j))) → Clears rest
    → Clears (each n i test refusal rest)
unfolding each
each_clears zero i test p q = q
each_clears (suc n) i test p q = require_clears (test i) (p i) (each_clears n (suc i) test p q)

pub work_clears : {a : Answer} (w : List ℕ) → Clears a → cleared w ≡ work_after a w
unfolding work_after
work_clears w h = rw h.is

-- a check that leaves such an answer, and clears the front of the work slice, which was scratch
pub checked_cleared : {a : Answer} (work : List ℕ) {u w : List ℕ} → Clears a → Scratch work u → w ≡ cleared u → checked a w ≡ checked_after a work
checked_cleared {a} work h s e = ap (checked a) (e ∙ cleared_scratch s ∙ work_clears work h)
