-- "The checker works hidden shares out as sum minus the rest": of rows, all but one of which are known.
use Rattle.std.specs.Prelude.{List, [], ℕ}
use Rattle.slices.specs.Lists.{zip_xor, sum_xor}
use Rattle.poly.specs.Index.{at}

-- row i of n rows f, where the hidden one is what the others leave of the whole; [] is the zero of `zip_xor`
abbrev pub completed_row : ℕ → ℕ → List ℕ → (ℕ → List ℕ) → ℕ → List ℕ
completed_row n hidden whole f i = at i hidden (zip_xor whole (sum_xor n (λ k. at k hidden [] (f k)))) (f i)
