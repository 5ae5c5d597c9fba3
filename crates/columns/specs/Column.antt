-- A column of rows that stand one after the other.
use Rattle.std.specs.Prelude.{List, ℕ}
use Rattle.slices.specs.Lists.{rows, row, part}

-- of each of n rows the len elements from index at on
abbrev pub column_of : ℕ → ℕ → ℕ → ℕ → List ℕ → List ℕ
column_of n stride at len s = rows (λ i. part at len (row stride i s)) n
