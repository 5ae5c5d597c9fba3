-- Of rows of shares the columns, each with one kind of share of all parties. Assumes nothing.
use Rattle.std.specs.Prelude.{◌≡◌, ℕ, length, get_or}
use Rattle.std.proofs.Common.{ap, ◌∙◌}
use mathlib.Core.List.{List, [], ◌∷◌, append-nil}
use Rattle.slices.specs.Lists.{rows}
use Rattle.slices.specs.Tab.{rows_cong, row_of_rows}
use Rattle.slices.specs.Numbers.{bytes_of, numbers, length_bytes_of, length_numbers}
use Rattle.slices.specs.Layout.{field, total, layout, HasSizes, length_layout}
use Rattle.slices.proofs.Layouts.{field_layout}
use Rattle.banquet.specs.declared.Shape.{Shape}
use Rattle.banquet.specs.Sets.{scheme_of}
use Rattle.banquet.specs.Execution.{Committed, Challenge, output_share, opened_c, opened_a, opened_b}
use Rattle.sets.specs.Circuit.{output_long}
use Rattle.sets.specs.Bounds.{row_sizes}
use Rattle.forms.specs.Party.{share_row}
use Rattle.write_opening.specs.Written.{share_column}

module _ (S : Shape) (x : Committed) (d : Challenge) (t : ℕ → List ℕ) where
  open S use {parties, wide, m1}

  abbrev pub shares : ℕ → List ℕ
  shares i = share_row (scheme_of S) x d i (t i)

  abbrev pub output : ℕ → List ℕ
  output i = output_share (scheme_of S) x i (t i)

  abbrev pub share_c : ℕ → List ℕ
  share_c i = bytes_of wide (opened_c (scheme_of S) i (t i) d)

  abbrev pub share_a : ℕ → List ℕ
  share_a i = numbers wide m1 (opened_a (scheme_of S) x i (t i) d)

  abbrev pub share_b : ℕ → List ℕ
  share_b i = numbers wide m1 (opened_b (scheme_of S) x i (t i) d)

  -- the shares of party i, laid out by the sizes of a row
  abbrev pub kinds : ℕ → List (List ℕ)
  kinds i = output i ∷ share_c i ∷ share_a i ∷ share_b i ∷ []

  have_sizes : (i : ℕ) → HasSizes (row_sizes S) (kinds i)
  have_sizes i = (output_long S x i (t i), (length_bytes_of wide _, (length_numbers wide m1 _, (length_numbers wide m1 _, tt))))

  shares_laid : (i : ℕ) → shares i ≡ layout (kinds i)
  unfolding share_row layout
  shares_laid i = simp append-nil

  pub column_is : (k : ℕ) → share_column S k (rows shares parties) ≡ rows (λ i. get_or (kinds i) k []) parties
  column_is k =
      rows_cong parties
      (λ i l.
      ap (field (row_sizes S) k)
      (row_of_rows (total (row_sizes S)) shares parties (λ j m. ap length (shares_laid j) ∙ length_layout (row_sizes S) (kinds j) (have_sizes j)) i l
      ∙ shares_laid i)
      ∙ field_layout (row_sizes S) (kinds i) (have_sizes i) k)
