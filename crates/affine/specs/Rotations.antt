-- How the program works the affine transformation out, and why that is right. Assumes nothing.
use Rattle.std.specs.Prelude.{◌≡◌, refl, ℕ, ◌-◌, ◌*◌, ◌/◌, ◌%◌, ◌^◌, ◌<◌}
use Rattle.std.proofs.Common.{subst, mod-eq_of_lt}
use Rattle.std.specs.Int.Bits.{bit_xor}
use Rattle.field.specs.Linear.{combine, orbit, basis, Additive, agree, combined, compose, sum, shl, shr, low_bits, identity}
use Rattle.aes.specs.Aes.{columns, matrix}

-- 5.1.1: the matrix times b is b plus b rotated by 1 to 4 bits

abbrev rotated : ℕ → ℕ → ℕ
rotated k b = bit_xor (b * 2 ^ k % 2 ^ 8) (b / 2 ^ (8 - k))

abbrev pub rotations : ℕ → ℕ
rotations b = bit_xor (bit_xor (bit_xor (bit_xor b (rotated 1 b)) (rotated 2 b)) (rotated 3 b)) (rotated 4 b)

pub matrix_by_rotations : (b : ℕ) → b < 256 → rotations b ≡ matrix b
unfolding combine orbit basis matrix
matrix_by_rotations b h =
    subst (λ (x : ℕ). rotations x ≡ matrix x) (mod-eq_of_lt h)
    (agree (sum (sum (sum (sum identity (turn 1)) (turn 2)) (turn 3)) (turn 4)) (combined columns) 8 refl b)
  where
    turn : (k : ℕ) → Additive (rotated k)
    turn k = sum (compose (low_bits 8) (shl k)) (shr (8 - k))
