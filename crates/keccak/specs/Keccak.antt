-- Keccak-f[1600] of FIPS 202, section 3, on lanes of w = 64 bits (l = 6).
-- A lane is a number below 2 ^ 64 whose bit z is the coefficient of 2 ^ z, and a state is the list of its 25 lanes, lane A[x, y] at place
-- x + 5 y: bit A[x, y, z] is bit 64 (5 y + x) + z of the string, as in 3.1.2. Assumes nothing.
use Rattle.std.specs.Prelude.{◌≡◌, refl, true, false, List, [], ◌∷◌, ℕ, zero, suc, ◌+◌, ◌-◌, ◌*◌, ◌/◌, ◌%◌, ◌^◌, ltb, get_or, set}
use Rattle.std.specs.Int.Bits.{bit_and, bit_or, bit_xor}
use Rattle.slices.specs.Lists.{tab}

-- ---- lanes

-- the lane A[x, y]
unfoldable pub lane : List ℕ → ℕ → ℕ → ℕ
lane a x y = get_or a (x + 5 * y) 0

-- the state whose lane at x, y is f x y
unfoldable pub lanes : (ℕ → ℕ → ℕ) → List ℕ
lanes f = tab (λ i. f (i % 5) (i / 5)) 25

-- a lane rotated by k < 64: its bit z is bit (z - k) mod 64 of a
unfoldable pub rotl : ℕ → ℕ → ℕ
rotl a zero = a
rotl a (suc k) = bit_or (a * 2 ^ suc k % 2 ^ 64) (a / 2 ^ (64 - suc k))

-- ---- Algorithm 1, theta (3.2.1)

-- step 1, C[x]: the parity of each column
unfoldable pub parity : List ℕ → ℕ → ℕ
parity a x = bit_xor (bit_xor (bit_xor (bit_xor (lane a x 0) (lane a x 1)) (lane a x 2)) (lane a x 3)) (lane a x 4)

-- step 2, D[x]: C[(x - 1) mod 5, z] with C[(x + 1) mod 5, (z - 1) mod 64] added
unfoldable pub effect : List ℕ → ℕ → ℕ
effect a x = bit_xor (parity a ((x + 4) % 5)) (rotl (parity a ((x + 1) % 5)) 1)

-- step 3
unfoldable pub theta : List ℕ → List ℕ
theta a = lanes (λ x y. bit_xor (lane a x y) (effect a x))

-- ---- Algorithm 2, rho (3.2.2)

-- Table 2: the offsets of x = 0, .. 4 for y = 0, then for y = 1, ..
unfoldable pub offsets : List ℕ
offsets =
    0 ∷ 1 ∷ 190 ∷ 28 ∷ 91
    ∷ 36 ∷ 300 ∷ 6 ∷ 55 ∷ 276
    ∷ 3 ∷ 10 ∷ 171 ∷ 153 ∷ 231
    ∷ 105 ∷ 45 ∷ 15 ∷ 21 ∷ 136
    ∷ 210 ∷ 66 ∷ 253 ∷ 120 ∷ 78 ∷ []

unfoldable pub rho : List ℕ → List ℕ
rho a = lanes (λ x y. rotl (lane a x y) (lane offsets x y % 64))

-- steps 2 and 3b: the lane x, y of turn t; it moves by (t + 1) (t + 2) / 2
abbrev walk : ℕ → ℕ × ℕ
walk zero = (1, 0)
walk (suc t) = ((walk t).1, (2 * (walk t).0 + 3 * (walk t).1) % 5)

pub offsets_by_walk : (lane offsets 0 0 ≡ 0) × (tab (λ t. lane offsets (walk t).0 (walk t).1) 24 ≡ tab (λ t. (t + 1) * (t + 2) / 2) 24)
unfolding lane offsets
offsets_by_walk = (refl, refl)

-- ---- Algorithm 3, pi (3.2.3)

unfoldable pub pi : List ℕ → List ℕ
pi a = lanes (λ x y. lane a ((x + 3 * y) % 5) x)

-- ---- Algorithm 4, chi (3.2.4)

-- A[x + 1, y, z] + 1, times A[x + 2, y, z], is added; a lane with 1 added to each bit is 2 ^ 64 - 1 minus it
unfoldable pub chi : List ℕ → List ℕ
chi a = lanes (λ x y. bit_xor (lane a x y) (bit_and (2 ^ 64 - 1 - lane a ((x + 1) % 5) y) (lane a ((x + 2) % 5) y)))

-- ---- Algorithm 6, iota (3.2.5)

-- step 4: the round constant is added to the lane A[0, 0]
unfoldable pub iota : ℕ → List ℕ → List ℕ
iota c a = set a 0 (bit_xor (get_or a 0 0) c)

-- Algorithm 5, steps 2 and 3: the register R after t turns, bit j of which is R[j]. What is moved to R[8] is added to R[0], R[4], R[5] and R[6]
abbrev pub register : ℕ → ℕ
register zero = 1
register (suc t) = let r = 2 * register t in elim (ltb r 256) [ true ↦ r | false ↦ bit_xor r 0x171 ]

-- Algorithm 5, step 4
abbrev pub rc : ℕ → ℕ
rc t = register (t % 255) % 2

-- steps 2 and 3, the constant RC of round i: its bit 2 ^ j - 1 is rc (j + 7 i), for j = 0, .. 6
abbrev pub round_constant : ℕ → ℕ
round_constant i = bits 7
  where
    bits : ℕ → ℕ
    bits zero = 0
    bits (suc j) = bits j + rc (j + 7 * i) * 2 ^ (2 ^ j - 1)

-- those of the 24 rounds
abbrev pub round_constants : List ℕ
round_constants =
    0x0000000000000001 ∷ 0x0000000000008082 ∷ 0x800000000000808a ∷ 0x8000000080008000
    ∷ 0x000000000000808b ∷ 0x0000000080000001 ∷ 0x8000000080008081 ∷ 0x8000000000008009
    ∷ 0x000000000000008a ∷ 0x0000000000000088 ∷ 0x0000000080008009 ∷ 0x000000008000000a
    ∷ 0x000000008000808b ∷ 0x800000000000008b ∷ 0x8000000000008089 ∷ 0x8000000000008003
    ∷ 0x8000000000008002 ∷ 0x8000000000000080 ∷ 0x000000000000800a ∷ 0x800000008000000a
    ∷ 0x8000000080008081 ∷ 0x8000000000008080 ∷ 0x0000000080000001 ∷ 0x8000000080008008 ∷ []

pub round_constants_by_register : round_constants ≡ tab round_constant 24
round_constants_by_register = refl

-- ---- Algorithm 7, Keccak-p[1600, 24], which is Keccak-f[1600] (3.3, 3.4)

-- Rnd(A, i), where c is the constant of round i
unfoldable pub round : ℕ → List ℕ → List ℕ
round c a = iota c (chi (pi (rho (theta a))))

-- the first n rounds
unfoldable pub rounds : ℕ → List ℕ → List ℕ
rounds zero a = a
rounds (suc n) a = round (get_or round_constants n 0) (rounds n a)

unfoldable pub keccak_f : List ℕ → List ℕ
keccak_f a = rounds 24 a
