-- Laws of specs/Padding, which stand here so that an edit of what they rest on is refused by a fact. Assumes nothing.
use Rattle.std.specs.Prelude.{◌≡◌, ◌∷◌, ℕ, ◌+◌, ◌-◌, ◌*◌, ◌%◌}
use Rattle.std.proofs.Common.{arith}
use Rattle.shake.specs.Padding.{rate, padding, bits, pad101, bits_padding}

-- behind a message of n bytes
pub padding_is_pad101 : (n : ℕ) → bits (padding (rate - n % rate)) ≡ 1 ∷ 1 ∷ 1 ∷ 1 ∷ pad101 (8 * rate) (8 * n + 4)
unfolding pad101
padding_is_pad101 n =
    let j : (8 * rate - (8 * n + 4 + 2) % (8 * rate)) % (8 * rate) ≡ 8 * (rate - n % rate) - 6 = omega arith in
    rw j (bits_padding (rate - n % rate) (omega arith))
