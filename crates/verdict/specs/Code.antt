-- An answer as one number: number * 65,536 + place, so that 0 is accepted.
use Rattle.std.specs.Prelude.{List, [], ◌∷◌, ℕ, ◌+◌, ◌*◌}
use Rattle.banquet.specs.Answer.{Answer, verdict_of}
use Rattle.banquet.specs.Calls.{Written, Checked, Made}

unfoldable pub code_of : Answer → ℕ
code_of answer = (verdict_of answer).number * 65536 + (verdict_of answer).place

-- what a call tells a caller in C: this number, and what the slices then hold
pub record Told : Type 0 where
  pub code : ℕ
  pub slices : List (List ℕ)

abbrev pub told : ℕ → List (List ℕ) → Told
told code slices = record { code = code; slices = slices }

abbrev pub told_written : Written → Told
told_written w = told (code_of w.answer) (w.output ∷ [])

abbrev pub told_checked : Checked → Told
told_checked c = told (code_of c.answer) (c.work ∷ [])

abbrev pub told_made : Made → Told
told_made m = told (code_of m.answer) (m.output ∷ m.work ∷ [])
