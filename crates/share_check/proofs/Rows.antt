-- The rows of all parties, worked out and stated: their sizes, and what their comparison answers. Assumes nothing.
use Rattle.std.specs.Prelude.{Option, Some, None, Err}
use mathlib.Core.Path.{◌≡◌, refl, sym, ap, ap₂, ◌∙◌}
use mathlib.Core.Bool.{◌||◌}
use mathlib.Core.List.{List, ◌++◌}
use Prim.Native.Nat.{ℕ, ◌*◌, ◌/◌, ◌-◌, ◌^◌, ◌<◌}
use native.Mathlib.Omega.{arith}
use lib.Dec.{eqb}
use lib.ListN.{length, take, drop, length-append}
use Rattle.slices.specs.Lists.{found, rows, row, same, sum_xor}
use Rattle.slices.specs.Tab.{length_rows, row_of_rows}
use Rattle.slices.specs.Sums.{sum_xor_cong}
use Rattle.slices.specs.Numbers.{number_lt, length_bytes_of, length_numbers}
use Rattle.slices.specs.Layout.{total, field}
use Rattle.slices.proofs.Layouts.{sized_field}
use Rattle.compare.specs.Lowest.{lowest}
use Rattle.banquet.specs.declared.Shape.{Shape}
use Rattle.banquet.specs.declared.Refusal.TheVariants.{ShareDiffers, ProductDiffers}
use Rattle.banquet.specs.Shape.{transcript_sizes}
use Rattle.banquet.specs.Answer.{Answer, accepted, require}
use Rattle.banquet.specs.Sets.{scheme_of}
use Rattle.banquet.specs.Hash.{tape}
use Rattle.banquet.specs.Key.{front_of, ciphertext_of}
use Rattle.banquet.specs.Execution.{challenge, output_share}
use Rattle.banquet.specs.Opening.{transcript_part, committed_of, shares_hold, outputs_hold, product_holds, execution_of, tape_under, check_shares}
use Rattle.theorems.specs.Keys.{sized_front}
use Rattle.theorems.specs.Shares.{Fits, hashed_tape, sized_output_share}
use Rattle.scratch.specs.Each.{each_some, each_no, each_cong}
use Rattle.sets.specs.Laws.{laws}
use Rattle.sets.specs.Bounds.{row_sizes}
use Rattle.forms.specs.Party.{share_row, committed}
use Rattle.forms.specs.Stated.{stated_row, row_same}
use Rattle.forms.specs.Sums.{sums_answer}
use Rattle.forms.proofs.Sums.{length_stated, sums_outputs, sums_product}
use Rattle.share_check.specs.Steps.{Given, made_row, rows_answer}
use Rattle.share_check.proofs.Halves.{halves_read}

module _ {S : Shape} {public_key t : List ℕ} {e second : ℕ} (g : Given S public_key t e second) where
  open S use {parties, wide, m1}

  pub second_fits : second < 2 ^ (8 * wide)
  second_fits =
      let z = sized_field (transcript_sizes S) 8 g.stated in
      rw g.second_is (number_lt (transcript_part (scheme_of S) t 8) wide z.bytes (omega (arith, z.size)))

  -- ---- the rows worked out

  pub made_right : {sizes salt front key inverse first product out : List ℕ} (seeds : List ℕ) → sizes ≡ transcript_sizes S
      → salt ≡ field sizes 0 t → front ≡ front_of (scheme_of S) public_key → key ≡ field sizes 4 t → inverse ≡ field sizes 5 t → first ≡ field sizes 6 t
      → product ≡ field sizes 7 t
      → out ≡ rows (λ i. share_row (scheme_of S) (committed front key inverse) (challenge (scheme_of S) first product second) i
      (tape (scheme_of S) salt e i (row 16 i seeds))) parties
      → out ≡ rows (made_row S public_key t seeds) parties
  unfolding made_row
  made_right seeds z h0 hf h4 h5 h6 h7 is =
      is ∙ rw (h0, hf, h4, h5, h6, h7, z, g.e_is, g.second_is) refl

  fits : Fits (scheme_of S) (laws g.valid) (committed_of (scheme_of S) public_key t)
  fits = record {
    fits_front = sized_front (scheme_of S) (laws g.valid) g.key;
    fits_key = sized_field (transcript_sizes S) 4 g.stated;
    fits_inverses = sized_field (transcript_sizes S) 5 g.stated;
  }

  module _ (seeds : List ℕ) where
    abbrev made : ℕ → List ℕ
    made = made_row S public_key t seeds

    made_size : (i : ℕ) → length (made i) ≡ total (row_sizes S)
    unfolding made_row share_row
    made_size i =
        let u = tape_under (scheme_of S) t i (row 16 i seeds) in
        let output : length (output_share (scheme_of S) (committed_of (scheme_of S) public_key t) i u) ≡ 16 =
        (sized_output_share (scheme_of S) (laws g.valid) (committed_of (scheme_of S) public_key t) fits i
        (hashed_tape (scheme_of S) (laws g.valid) _ _ i (row 16 i seeds))).size in
        simp (length-append, length_bytes_of, length_numbers) (omega (arith, output))

    stated_row_lem : (i : ℕ) → i < parties → row (total (row_sizes S)) i (rows (stated_row S t) parties) ≡ stated_row S t i
    stated_row_lem i l = row_of_rows (total (row_sizes S)) (stated_row S t) parties (λ j m. length_stated g.valid g.stated j m) i l

    pub stated_length : length (rows (stated_row S t) parties) ≡ parties * total (row_sizes S)
    stated_length = length_rows (total (row_sizes S)) (stated_row S t) parties (λ j m. length_stated g.valid g.stated j m)

    made_length : length (rows made parties) ≡ parties * total (row_sizes S)
    made_length = length_rows (total (row_sizes S)) made parties (λ j m. made_size j)

    made_row_lem : (i : ℕ) → i < parties → row (total (row_sizes S)) i (rows made parties) ≡ made i
    made_row_lem i l = row_of_rows (total (row_sizes S)) made parties (λ j m. made_size j) i l

    -- ---- numbers 14 and 15

    row_tested : (i : ℕ) → i < parties
        → same (row (total (row_sizes S)) i (rows made parties)) (row (total (row_sizes S)) i (rows (stated_row S t) parties))
        ≡ shares_hold (scheme_of S) public_key t i (row 16 i seeds)
    unfolding made_row
    row_tested i l = ap₂ same (made_row_lem i l) (stated_row_lem i l) ∙ row_same g.valid g.stated g.key i l (row 16 i seeds)

    sums_checked : sums_answer S (ciphertext_of (scheme_of S) public_key) e
        (sum_xor parties (λ i. row (total (row_sizes S)) i (rows (stated_row S t) parties)))
        ≡ require (outputs_hold (scheme_of S) public_key t) (ShareDiffers parties)
        (require (product_holds (scheme_of S) t) (ProductDiffers (execution_of (scheme_of S) t)) accepted)
    unfolding sums_answer
    sums_checked =
        rw (
          sum_xor_cong parties stated_row_lem,
          sums_outputs g.valid g.stated,
          sums_product g.valid g.stated,
          g.e_is,
        ) refl

    rows_checked : (hidden : ℕ)
        → rows_answer S (ciphertext_of (scheme_of S) public_key) e hidden (rows made parties) (rows (stated_row S t) parties)
        ≡ check_shares (scheme_of S) public_key t hidden (λ i. row 16 i seeds)
    unfolding rows_answer check_shares
    rows_checked hidden = each_cong ShareDiffers parties (λ i l. ap (eqb i hidden ||◌) (row_tested i l)) sums_checked

    -- the same as the code has it: the stated rows and those worked out in the halves of w
    module _ (w : List ℕ) (is : w ≡ rows (stated_row S t) parties ++ rows made parties) where
      read : (take (length w - length w / 2) (drop (length w / 2) w) ≡ rows made parties)
          × (take (length w / 2 - 0) w ≡ rows (stated_row S t) parties)
      read = halves_read (parties * total (row_sizes S)) is stated_length made_length

      pub read_lengths : (length (take (length w - length w / 2) (drop (length w / 2) w)) ≡ parties * total (row_sizes S))
          × (length (take (length w / 2 - 0) w) ≡ parties * total (row_sizes S))
      read_lengths = (ap length read.0 ∙ made_length, ap length read.1 ∙ stated_length)

      pub halves_checked : (hidden : ℕ) {r : Answer}
          {c : List ℕ} → c ≡ ciphertext_of (scheme_of S) public_key
          → r ≡ rows_answer S c e hidden (take (length w - length w / 2) (drop (length w / 2) w)) (take (length w / 2 - 0) w)
          → r ≡ check_shares (scheme_of S) public_key t hidden (λ i. row 16 i seeds)
      halves_checked hidden is h =
          h ∙ ap₂ (rows_answer S _ e hidden) read.0 read.1
          ∙ ap (λ c. rows_answer S c e hidden (rows made parties) (rows (stated_row S t) parties)) is ∙ rows_checked hidden

-- ---- the rows compared

module _ (S : Shape) (ciphertext : List ℕ) (e hidden : ℕ) (made stated : List ℕ) {len : ℕ} (size : len ≡ total (row_sizes S)) where
  -- the first of them that differs
  abbrev differing : ℕ → Option ℕ
  differing n = found S.parties (lowest S.parties 0 (λ i. eqb i hidden || same (row n i made) (row n i stated)))

  pub row_differs : {i : ℕ} → Some i ≡ differing len → Err (ShareDiffers i) ≡ rows_answer S ciphertext e hidden made stated
  unfolding rows_answer
  row_differs f = sym (each_some _ ShareDiffers _ S.parties (f ∙ ap differing size))

  pub rows_agree : {r : Answer} → None ≡ differing len
      → r ≡ sums_answer S ciphertext e (sum_xor S.parties (λ i. row (total (row_sizes S)) i stated))
      → r ≡ rows_answer S ciphertext e hidden made stated
  unfolding rows_answer
  rows_agree f w = w ∙ sym (each_no _ ShareDiffers _ S.parties (f ∙ ap differing size))
