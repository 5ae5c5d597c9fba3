-- What FIPS 202 puts behind a message of bytes for SHAKE128: the bits 1111 (6.2) and pad10*1 (5.1), by bytes (B.2) and by bits. Assumes nothing.
use Rattle.std.specs.Prelude.{◌≡◌, refl, List, [], ◌∷◌, ◌++◌, ℕ, zero, suc, ◌+◌, ◌-◌, ◌*◌, ◌/◌, ◌%◌, ◌^◌, ◌<◌, replicate}
use Rattle.std.proofs.Common.{arith}
use Rattle.slices.specs.Lists.{tab}

-- the rate of KECCAK[256], 1600 - 256 bits (5.2), in bytes
abbrev pub rate : ℕ
rate = 168

-- B.2, where q bytes are left of the last block
unfoldable pub padding : ℕ → List ℕ
padding zero = []
padding (suc zero) = 0x9f ∷ []
padding (suc (suc z)) = 0x1f ∷ (replicate z 0 ++ (0x80 ∷ []))

-- B.1: the bits of a string of bytes, those of a byte lowest first
unfoldable pub bits : List ℕ → List ℕ
bits [] = []
bits (b ∷ s) = tab (λ k. b / 2 ^ k % 2) 8 ++ bits s

-- Algorithm 9, pad10*1(x, m): 1, then j = (- m - 2) mod x zeros, then 1
unfoldable pub pad101 : ℕ → ℕ → List ℕ
pad101 x m = 1 ∷ (replicate ((x - (m + 2) % x) % x) 0 ++ (1 ∷ []))

-- ---- both are the same

bits_zeros : (z : ℕ) → bits (replicate z 0 ++ (0x80 ∷ [])) ≡ replicate (8 * z + 7) 0 ++ (1 ∷ [])
unfolding bits
bits_zeros zero = refl
bits_zeros (suc z) =
    let more : 8 * suc z + 7 ≡ suc (suc (suc (suc (suc (suc (suc (suc (8 * z + 7)))))))) = omega arith in
    rw (more, ← bits_zeros z)

pub bits_padding : (q : ℕ) → 0 < q → bits (padding q) ≡ 1 ∷ 1 ∷ 1 ∷ 1 ∷ 1 ∷ (replicate (8 * q - 6) 0 ++ (1 ∷ []))
unfolding bits padding
bits_padding zero h = absurd (omega arith)
bits_padding (suc zero) h = refl
bits_padding (suc (suc z)) h =
    let more : 8 * suc (suc z) - 6 ≡ suc (suc (suc (8 * z + 7))) = omega arith in
    rw (more, ← bits_zeros z)
