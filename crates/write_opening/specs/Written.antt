-- An opening's parts as they are written, from rows that hold each party's shares of the output, of c, a and b. Assumes nothing.
use Rattle.std.specs.Prelude.{List, ◌∷◌, ◌++◌, ℕ}
use Rattle.slices.specs.Lists.{rows, row}
use Rattle.slices.specs.Layout.{field, total}
use Rattle.slices.specs.Numbers.{bytes_of}
use Rattle.banquet.specs.declared.Shape.{Shape}
use Rattle.banquet.specs.Sets.{scheme_of}
use Rattle.banquet.specs.Hash.{commitment}
use Rattle.banquet.specs.Tree.{sibling_seeds}
use Rattle.sets.specs.Bounds.{row_sizes}

-- "key offset 16, inverse offsets 200, r 40, product offsets 84, R 4"
abbrev pub middle : ℕ → List ℕ → List ℕ → List ℕ → List ℕ → ℕ → List ℕ
middle wide key_offset inverse_offsets first product_offsets second =
    key_offset ++ (inverse_offsets ++ (first ++ (product_offsets ++ bytes_of wide second)))

-- part k of each of n rows, whose parts have these sizes
abbrev pub field_column : List ℕ → ℕ → ℕ → List ℕ → List ℕ
field_column parts k n s = rows (λ i. field parts k (row (total parts) i s)) n

module _ (S : Shape) where
  open S use {parties, depth, wide}

  -- "salt 32, e 1, commitments 512"
  abbrev pub head : List ℕ → ℕ → List ℕ → List ℕ
  head salt e seeds = salt ++ e ∷ rows (λ i. commitment (scheme_of S) salt e i (row 16 i seeds)) parties

  -- the shares of one kind, of all parties: "output shares 256"; "shares of c 64, of a 640, of b 640 (by party)"
  abbrev pub share_column : ℕ → List ℕ → List ℕ
  share_column k s = field_column (row_sizes S) k parties s

  -- "all bytes before the hidden party"
  unfoldable pub written_transcript : List ℕ → ℕ → List ℕ → List ℕ → List ℕ → List ℕ → List ℕ → ℕ → List ℕ → List ℕ
  written_transcript salt e seeds key_offset inverse_offsets first product_offsets second s =
      head salt e seeds
      ++ (share_column 0 s ++ (middle wide key_offset inverse_offsets first product_offsets second ++ (share_column 1 s ++ (share_column 2 s ++ share_column 3 s))))

  -- "hidden party 1, sibling seeds 64"
  abbrev pub written : List ℕ → ℕ → List ℕ → ℕ → List ℕ → List ℕ → List ℕ → List ℕ → List ℕ → ℕ → List ℕ → List ℕ
  written salt e root hidden seeds key_offset inverse_offsets first product_offsets second s =
      written_transcript salt e seeds key_offset inverse_offsets first product_offsets second s
      ++ hidden ∷ sibling_seeds (scheme_of S).hash salt e depth 0 root hidden
