-- Laws of specs/Numbers, which stand here so that an edit of what they rest on is refused by a fact. Assumes nothing.
use Rattle.std.specs.Prelude.{◌≡◌, List, ℕ, ◌*◌, ◌%◌, ◌^◌, ◌<◌}
use Rattle.std.proofs.Common.{ap, ◌∙◌, mod-eq_of_lt, arith, length-take}
use Rattle.slices.specs.Lists.{row}
use Rattle.slices.specs.Tab.{row_of_rows}
use Rattle.slices.specs.Bytes.{Bytes, part_bytes}
use Rattle.slices.specs.Numbers.{number, bytes_of, number_at, numbers, length_bytes_of, number_lt, number_bytes_of}

-- number k is read back
pub number_at_numbers : (w n : ℕ) (f : ℕ → ℕ) (k : ℕ) → k < n → number_at w k (numbers w n f) ≡ f k % 2 ^ (8 * w)
number_at_numbers w n f k l =
    ap number (row_of_rows w (λ k. bytes_of w (f k)) n (λ k l. length_bytes_of w (f k)) k l) ∙ number_bytes_of w (f k)

-- one that fits in w bytes
pub number_at_numbers_lt : (w n : ℕ) (f : ℕ → ℕ) (k : ℕ) → k < n → f k < 2 ^ (8 * w) → number_at w k (numbers w n f) ≡ f k
number_at_numbers_lt w n f k l h = number_at_numbers w n f k l ∙ mod-eq_of_lt h

pub number_at_lt : (w k : ℕ) {s : List ℕ} → Bytes s → number_at w k s < 2 ^ (8 * w)
number_at_lt w k {s} p = number_lt (row w k s) w (part_bytes (k * w) w s p) (rw length-take (omega arith))
