-- The steps of the check of an opening: what each is given and answers. Assumes nothing.
use Rattle.std.specs.Prelude.{◌≡◌, ◌||◌, List, ℕ, eqb}
use Rattle.slices.specs.Lists.{row, same, sum_xor}
use Rattle.slices.specs.Bytes.{Sized}
use Rattle.slices.specs.Layout.{total}
use Rattle.banquet.specs.declared.Shape.{Shape}
use Rattle.banquet.specs.declared.Refusal.TheVariants.{ShareDiffers}
use Rattle.banquet.specs.Shape.{public_key_length, transcript_sizes}
use Rattle.banquet.specs.Sets.{scheme_of}
use Rattle.banquet.specs.Answer.{Answer, each}
use Rattle.banquet.specs.Opening.{execution_of, second_of, committed_of, challenge_of, tape_under}
use Rattle.sets.specs.Valid.{Valid}
use Rattle.sets.specs.Bounds.{row_sizes}
use Rattle.forms.specs.Party.{share_row}
use Rattle.forms.specs.Sums.{sums_answer}

-- what all steps are given: the public key, the transcript, and of it the execution and the second challenge as numbers
pub record Given (S : Shape) (public_key transcript : List ℕ) (e second : ℕ) : Type 0 where
  pub valid : Valid S
  pub key : Sized (public_key_length S) public_key
  pub stated : Sized (total (transcript_sizes S)) transcript
  pub e_is : e ≡ execution_of (scheme_of S) transcript
  pub second_is : second ≡ second_of (scheme_of S) transcript

-- party i's row, worked out from its seed
unfoldable pub made_row : Shape → List ℕ → List ℕ → List ℕ → ℕ → List ℕ
made_row S public_key transcript seeds i =
    share_row (scheme_of S) (committed_of (scheme_of S) public_key transcript) (challenge_of (scheme_of S) transcript) i
    (tape_under (scheme_of S) transcript i (row 16 i seeds))

-- numbers 14 and 15, for all rows worked out and all stated
unfoldable pub rows_answer : Shape → List ℕ → ℕ → ℕ → List ℕ → List ℕ → Answer
rows_answer S ciphertext e hidden made stated =
    each S.parties 0 (λ i. eqb i hidden || same (row (total (row_sizes S)) i made) (row (total (row_sizes S)) i stated)) ShareDiffers
    (sums_answer S ciphertext e (sum_xor S.parties (λ i. row (total (row_sizes S)) i stated)))
