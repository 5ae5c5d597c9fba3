-- SHAKE128 of FIPS 202, 6.2: the sponge (section 4) over Keccak-p[1600, 24] with the bits 1111, pad10*1 and a rate of 168 bytes.
-- Strings are of bytes, whose bits are taken lowest first (B.1). So lane i of the state, bits 64 i, .. 64 i + 63 of a string (3.1.2), is its bytes
-- 8 i, .. 8 i + 7, low byte first.
use Rattle.std.specs.Prelude.{List, [], ◌++◌, ℕ, zero, suc, ◌+◌, ◌-◌, ◌*◌, ◌/◌, ◌%◌, length, get_or, take, drop, replicate}
use Rattle.std.specs.Int.Bits.{bit_xor}
use Rattle.slices.specs.Lists.{tab, part}
use Rattle.slices.specs.Numbers.{number, bytes_of}
use Rattle.keccak.specs.Keccak.{keccak_f}
use Rattle.shake.specs.Padding.{rate, padding}

-- ---- bytes and lanes (3.1.2, 3.1.3)

-- lane i of the string p; past its end are zeros
unfoldable pub lane_of : List ℕ → ℕ → ℕ
lane_of p i = number (part (8 * i) 8 p)

-- byte p of the state a: byte p % 8 of the eight of lane p / 8
unfoldable pub byte_of : List ℕ → ℕ → ℕ
byte_of a p = get_or (bytes_of 8 (get_or a (p / 8) 0)) (p % 8) 0

-- ---- Algorithm 8, the sponge

-- step 1: P, the message and what is put behind it
unfoldable pub padded : List ℕ → List ℕ
padded m = m ++ padding (rate - length m % rate)

-- step 6: S + (P_i || 0..0), for the state a and the block p
unfoldable pub xor_block : List ℕ → List ℕ → List ℕ
xor_block a p = tab (λ i. bit_xor (get_or a i 0) (lane_of p i)) 25

-- step 6, for n blocks
unfoldable pub absorb_blocks : ℕ → List ℕ → List ℕ → List ℕ
absorb_blocks zero p a = a
absorb_blocks (suc n) p a = absorb_blocks n (drop rate p) (keccak_f (xor_block a (take rate p)))

-- steps 7, 8 and 10: Z after n turns, each of which appends the first bytes of the state and permutes it
unfoldable pub squeeze_blocks : ℕ → List ℕ → List ℕ
squeeze_blocks zero a = []
squeeze_blocks (suc n) a = tab (byte_of a) rate ++ squeeze_blocks n (keccak_f a)

-- SHAKE128(m, 8 n). Steps 2 to 5: P has length P / rate blocks, and the state begins as zeros. Step 9: after n / rate + 1 turns Z has n bytes or more
unfoldable pub shake128 : List ℕ → ℕ → List ℕ
shake128 m n = take n (squeeze_blocks (n / rate + 1) (absorb_blocks (length (padded m) / rate) (padded m) (replicate 25 0)))
