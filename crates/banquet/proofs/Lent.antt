-- What a call leaves in the slices that it was lent, by its answer. Assumes nothing.
use Rattle.std.specs.Prelude.{◌≡◌, refl, ◌≢◌, ◌⊎◌, false, ◌&&◌, ◌||◌, List, ℕ, ◌≤◌, ◌<◌, eqb, leb, length, take, drop}
use Rattle.std.proofs.Common.{sym, ◌∙◌, ap, inl, inr, true≢false, arith, take_at}
use borrow.Author.Tests.{ne_eqb, le-leb, lt-leb}
use Rattle.banquet.specs.Answer.{Answer, accepted, verdict_of, clears, cleared, work_after, output_after}
use Rattle.banquet.specs.Calls.{written, checked, made, written_after, checked_after, made_after}

-- accepted, the output begins with the file
pub output_begins : (n : ℕ) {answer : Answer} {file : List ℕ} (output : List ℕ) → length file ≡ n → answer ≡ accepted
    → take n (output_after answer file output) ≡ file
unfolding output_after
output_begins n {answer} {file} output size acc =
    ap (λ (a : Answer). take n (output_after a file output)) acc ∙ take_at file (drop (length file) output) n size

module _ (answer : Answer) where
  abbrev number : ℕ
  number = (verdict_of answer).number

  -- "After 13 to 17, and on success, the work slice's first 65,536 bytes are zero and its rest untouched."
  pub work_cleared : 13 ≤ number → number ≤ 17 → (work : List ℕ) → work_after answer work ≡ cleared work
  unfolding work_after
  work_cleared h l work = rw (ne_eqb number 0 (λ e. omega arith), le-leb 13 number h, le-leb number 17 l)

  -- the output is untouched after every refusal
  pub output_untouched : number ≢ 0 → (file output : List ℕ) → output_after answer file output ≡ output
  unfolding output_after
  output_untouched n file output = rw (ne_eqb number 0 n)

  -- "Every other refusal, later ones included": every number but 0 and 13 to 17
  pub leaves : number ≢ 0 → (number < 13) ⊎ (17 < number) → clears (verdict_of answer) ≡ false
  leaves n (inl l) = rw (ne_eqb number 0 n, lt-leb 13 number l)
  leaves n (inr l) = rw (ne_eqb number 0 n, le-leb 13 number (omega arith), lt-leb number 17 l)

  -- ".. leaves each lent slice untouched"
  module _ (l : clears (verdict_of answer) ≡ false) where
    refuses : number ≢ 0
    refuses e = true≢false (sym (ap (λ n. eqb n 0 || (leb 13 n && leb n 17)) e) ∙ l)

    pub work_untouched : (work : List ℕ) → work_after answer work ≡ work
    unfolding work_after
    work_untouched work = rw l

    pub written_untouched : (file output : List ℕ) → written_after answer file output ≡ written answer output
    written_untouched file output = ap (written answer) (output_untouched refuses file output)

    pub checked_untouched : (work : List ℕ) → checked_after answer work ≡ checked answer work
    checked_untouched work = ap (checked answer) (work_untouched work)

    pub made_untouched : (file output work : List ℕ) → made_after answer file output work ≡ made answer output work
    made_untouched file output work = rw (output_untouched refuses file output, work_untouched work) refl

pub work_cleared_on_success : (work : List ℕ) → work_after accepted work ≡ cleared work
unfolding work_after
work_cleared_on_success work = refl
