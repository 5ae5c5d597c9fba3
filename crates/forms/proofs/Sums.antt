-- The fields of the sum of the rows that an opening states are the sums of the shares of the output, of c, a and b. Assumes nothing.
use Rattle.std.specs.Prelude.{◌≡◌, List, [], ◌∷◌, ◌++◌, ℕ, ◌*◌, ◌<◌, length}
use Rattle.std.proofs.Math.Path.{sym, ap, ap₂}
use Rattle.std.proofs.Common.{◌∙◌, append-nil}
use Rattle.std.proofs.Math.Dec.{eqb}
use Rattle.std.proofs.Math.ListN.{get_or}
use Rattle.slices.specs.Lists.{row, sum_xor}
use Rattle.slices.specs.Bytes.{Bytes, Sized}
use Rattle.slices.specs.Sums.{sum_xor_cong}
use Rattle.slices.specs.Numbers.{number, number_at}
use Rattle.slices.specs.Layout.{total, field, layout, HasSizes, length_layout}
use Rattle.slices.proofs.Layouts.{field_layout}
use Rattle.poly.specs.Sum.{sum, sum_cong}
use Rattle.banquet.specs.declared.Shape.{Shape}
use Rattle.banquet.specs.Shape.{transcript_sizes}
use Rattle.banquet.specs.Scheme.{wide_ops, wide_mul}
use Rattle.banquet.specs.Sets.{scheme_of}
use Rattle.banquet.specs.Opening.{transcript_part, output_of, c_of, product_holds}
use Rattle.sets.specs.Valid.{Valid}
use Rattle.sets.specs.Bounds.{row_sizes}
use Rattle.forms.specs.Point.{sum_xor_lem}
use Rattle.forms.specs.Linear.{field_sum, number_sum, number_at_sum}
use Rattle.forms.specs.Stated.{stated_row, sized_output, sized_c, sized_a, sized_b}
use Rattle.forms.specs.Sums.{bytes_product_holds, row_product_holds}

module _ {S : Shape} (v : Valid S) {t : List ℕ} (z : Sized (total (transcript_sizes S)) t) where
  open S use {parties, wide, m1}

  abbrev parts : ℕ → List (List ℕ)
  parts i =
      output_of (scheme_of S) t i ∷ row wide i (transcript_part (scheme_of S) t 9)
      ∷ row (m1 * wide) i (transcript_part (scheme_of S) t 10) ∷ row (m1 * wide) i (transcript_part (scheme_of S) t 11) ∷ []

  laid_out : (i : ℕ) → stated_row S t i ≡ layout (parts i)
  unfolding stated_row layout
  laid_out i =
      ap (output_of (scheme_of S) t i ++◌)
      (ap (row wide i (transcript_part (scheme_of S) t 9) ++◌)
      (ap (row (m1 * wide) i (transcript_part (scheme_of S) t 10) ++◌) (sym (append-nil (row (m1 * wide) i (transcript_part (scheme_of S) t 11))))))

  parts_sized : (i : ℕ) → i < parties → HasSizes (row_sizes S) (parts i)
  parts_sized i l = ((sized_output v z i l).size, ((sized_c v z i l).size, ((sized_a v z i l).size, ((sized_b v z i l).size, tt))))

  field_stated : (k i : ℕ) → i < parties → field (row_sizes S) k (stated_row S t i) ≡ get_or (parts i) k []
  field_stated k i l =
      ap (field (row_sizes S) k) (laid_out i)
      ∙ field_layout (row_sizes S) (parts i) (parts_sized i l) k

  pub length_stated : (i : ℕ) → i < parties → length (stated_row S t i) ≡ total (row_sizes S)
  length_stated i l = ap length (laid_out i) ∙ length_layout (row_sizes S) (parts i) (parts_sized i l)

  -- ---- the sums

  abbrev sums : List ℕ
  sums = sum_xor parties (stated_row S t)

  field_sums : (k : ℕ) → field (row_sizes S) k sums ≡ sum_xor parties (λ i. get_or (parts i) k [])
  field_sums k = field_sum (row_sizes S) k parties (stated_row S t) ∙ sum_xor_cong parties (λ i l. field_stated k i l)

  pub sums_outputs : field (row_sizes S) 0 sums ≡ sum_xor parties (output_of (scheme_of S) t)
  sums_outputs = field_sums 0

  wide_sum : (k j : ℕ) → ((i : ℕ) → i < parties → Bytes (get_or (parts i) k []))
      → number_at wide j (field (row_sizes S) k sums) ≡ sum (wide_ops (scheme_of S)) parties (λ i. number_at wide j (get_or (parts i) k []))
  wide_sum k j b =
      ap (number_at wide j) (field_sums k) ∙ number_at_sum wide j parties (λ i. get_or (parts i) k []) b ∙ sym (sum_xor_lem (8 * wide) S.low parties _)

  pub sums_product : row_product_holds S sums ≡ product_holds (scheme_of S) t
  unfolding bytes_product_holds
  sums_product =
      ap₂ eqb
      (ap number (field_sums 1) ∙ number_sum parties (λ i. get_or (parts i) 1 []) (λ i l. (sized_c v z i l).bytes)
      ∙ sym (sum_xor_lem (8 * wide) S.low parties (c_of (scheme_of S) t)))
      (sum_cong (wide_ops (scheme_of S)) m1
      (λ j l. ap₂ (wide_mul (scheme_of S)) (wide_sum 2 j (λ i m. (sized_a v z i m).bytes)) (wide_sum 3 j (λ i m. (sized_b v z i m).bytes))))
