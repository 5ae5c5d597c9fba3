-- The check of a text's form, line by line as the lines are found. Assumes nothing.
use mathlib.Core.Path.{◌≡◌, sym, ap, ◌∙◌}
use Rattle.std.specs.Prelude.{Err}
use mathlib.Core.Bool.{true, false}
use mathlib.Core.List.{List}
use Prim.Native.Nat.{ℕ, ◌+◌, ◌-◌, ◌*◌, ◌/◌, ◌≤◌, ◌<◌}
use native.Mathlib.Numerals.{add-one}
use native.Mathlib.Omega.{arith}
use lib.Dec.{eqb}
use lib.ListN.{length, drop, get_or, length-drop, drop_of_length-le}
use borrow.Author.Tests.{ne_eqb}
use Rattle.banquet.specs.declared.Refusal.TheVariants.{TextForm}
use Rattle.banquet.specs.Answer.{Answer, accepted, require}
use Rattle.banquet.specs.Card.{after_line, has_size, is_line, check_lines}
use Rattle.text_lines.specs.Lines.{line_end}
use Rattle.text_lines.specs.Form.{first_line, other_lines}
use Rattle.text_lines.specs.Parts.{sizes_left}
use Rattle.text_lines.proofs.Found.{no_line, has_line, line_is, line_after}

-- the check of the lines from line i on, which begin at index at

abbrev pub checked : ℕ → List ℕ → List ℕ → ℕ → ℕ → Answer
checked message sizes text i at = check_lines message (drop i sizes) (i + 1) (drop at text) accepted

module _ (message : ℕ) (sizes text : List ℕ) (i at : ℕ) where
  check_step : i < length sizes → checked message sizes text i at
      ≡ require (is_line (eqb (i + 1) message) (get_or sizes i 0) (drop at text)) (TextForm (i + 1))
      (check_lines message (drop (i + 1) sizes) (i + 1 + 1) (after_line (drop at text)) accepted)
  unfolding check_lines
  check_step h = simp (sizes_left sizes i h, add-one)

  pub check_end : i ≡ length sizes → at ≡ length text → checked message sizes text i at ≡ accepted
  unfolding check_lines require
  check_end h e = simp (drop_of_length-le sizes {i = i} (omega arith), drop_of_length-le text {i = at} (omega arith))

  pub check_more : i ≡ length sizes → at ≤ length text → (at ≡ length text → ⊥) → checked message sizes text i at ≡ Err (TextForm (i + 1))
  unfolding check_lines require
  check_more h l n =
      simp (drop_of_length-le sizes {i = i} (omega arith), ne_eqb (length (drop at text)) 0 (λ e. n (omega (arith, length-drop at text))))

  module _ {end : ℕ} (h : i < length sizes) (l : at ≤ length text) (e : end ≡ at + line_end (drop at text)) where
    pub unended : end ≡ length text → checked message sizes text i at ≡ Err (TextForm (i + 1))
    unfolding require
    unended f = check_step h ∙ simp (no_line text l e (eqb (i + 1) message) (get_or sizes i 0) f)

    pub accepted_line : checked message sizes text i at ≡ accepted → (end < length text) × (end - at ≡ 2 * ((end - at) / 2))
        × ((end - at) / 2 ≤ get_or sizes i 0) × (checked message sizes text (i + 1) (end + 1) ≡ accepted)
    accepted_line t =
        let size = get_or sizes i 0 in
        let sizes' = drop (i + 1) sizes in
        let t' = ap (λ (s : List ℕ). check_lines message s (i + 1) (drop at text) accepted) (sym (sizes_left sizes i h)) ∙ t in
        let first = first_line message size sizes' (i + 1) (drop at text) t' in
        let others = other_lines message size sizes' (i + 1) (drop at text) t' in
        let is = has_line text l e first.ended first.digits in
        let inside : end < length text = omega (arith, is, first.ended, length-drop at text) in (
          inside,
          omega (arith, is, first.long),
          omega (arith, is, first.long, first.most),
          ap (λ (s : List ℕ). check_lines message sizes' (i + 1 + 1) s accepted) (sym (line_after text l e inside))
              ∙ rw (add-one (i + 1)) others,
        )

    module _ (inside : end < length text) where
      pub other_size : has_size (eqb (i + 1) message) (get_or sizes i 0) (end - at) ≡ false → checked message sizes text i at ≡ Err (TextForm (i + 1))
      unfolding require
      other_size f = check_step h ∙ simp (line_is text l e inside (eqb (i + 1) message) (get_or sizes i 0), f)

      pub good_line : has_size (eqb (i + 1) message) (get_or sizes i 0) (end - at) ≡ true
          → checked message sizes text i at ≡ checked message sizes text (i + 1) (end + 1)
      unfolding require
      good_line f = check_step h ∙ simp (line_is text l e inside (eqb (i + 1) message) (get_or sizes i 0), f, line_after text l e inside)
