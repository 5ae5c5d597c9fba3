-- AES-128 as FIPS 197 (2001) has it: Nb = Nk = 4 and Nr = 10, on lists of bytes; the section numbers and names are the standard's.
-- A byte is a number below 256, an element of the field of section 4: `bit_xor`, `mul8` and `inverse8` are that field's.
-- At the end stands what documents 01 and 02 add: the order of the S-boxes, a zero input, a good key, the Even-Mansour form.
use Rattle.std.specs.Prelude.{◌≡◌, refl, ◌≢◌, List, [], ◌∷◌, ◌++◌, ℕ, zero, suc, ◌+◌, ◌*◌, ◌/◌, ◌%◌, ◌<◌, get_or}
use Rattle.std.specs.Int.Bits.{bit_xor}
use Rattle.slices.specs.Lists.{tab, rows}
use Rattle.field.specs.Linear.{combine, orbit}
use Rattle.field.specs.Ring.{times, xtime}
use Rattle.field.specs.Byte.{mul8, inverse8}

-- ---- 3.4 The State: byte r + 4 c of a block stands at row r and column c

abbrev pub cell : List ℕ → ℕ → ℕ → ℕ
cell s r c = get_or s (r + 4 * c) 0

-- the state with f r c at row r and column c
abbrev pub state : (ℕ → ℕ → ℕ) → List ℕ
state f = tab (λ i. f (i % 4) (i / 4)) 16

-- ---- 3.5 words: word j (4 bytes) and block j (4 words) of a list

abbrev pub word : List ℕ → ℕ → List ℕ
word s j = tab (λ i. get_or s (j * 4 + i) 0) 4

abbrev pub block : List ℕ → ℕ → List ℕ
block s j = tab (λ i. get_or s (j * 16 + i) 0) 16

-- ---- 4.1 Addition: the first n bytes of a plus those of b

abbrev pub add : ℕ → List ℕ → List ℕ → List ℕ
add n a b = tab (λ i. bit_xor (get_or a i 0) (get_or b i 0)) n

-- ---- 5.1.1 SubBytes()

-- the matrix of (5.2) by columns, the column of bit 0 first; the top row is the lowest bit
abbrev pub columns : List ℕ
columns = 0b00011111 ∷ 0b00111110 ∷ 0b01111100 ∷ 0b11111000 ∷ 0b11110001 ∷ 0b11100011 ∷ 0b11000111 ∷ 0b10001111 ∷ []

-- the matrix times the bits of b
unfoldable pub matrix : ℕ → ℕ
matrix = combine columns

-- the inverse, 00 for 00, and then the affine transformation: the matrix, and 63 added
unfoldable pub sbox : ℕ → ℕ
sbox x = bit_xor (matrix (inverse8 x)) 0x63

abbrev pub sub_bytes : List ℕ → List ℕ
sub_bytes s = state (λ r c. sbox (cell s r c))

-- ---- 5.1.2 ShiftRows(), (5.3): row r moves r columns to the left

abbrev pub shift_rows : List ℕ → List ℕ
shift_rows s = state (λ r c. cell s r ((c + r) % 4))

-- ---- 5.1.3 MixColumns(), (5.6)

-- 02 a + 03 b + c + d
abbrev pub mixed : ℕ → ℕ → ℕ → ℕ → ℕ
mixed a b c d = bit_xor (bit_xor (mul8 2 a) (mul8 3 b)) (bit_xor c d)

-- row r from rows r, r + 1, r + 2 and r + 3 of its column
abbrev pub mix_columns : List ℕ → List ℕ
mix_columns s = state (λ r c. mixed (cell s r c) (cell s ((r + 1) % 4) c) (cell s ((r + 2) % 4) c) (cell s ((r + 3) % 4) c))

-- ---- 5.1.4 AddRoundKey(): round key n is block n of the expanded key w

abbrev pub add_round_key : List ℕ → ℕ → List ℕ → List ℕ
add_round_key w n s = add 16 s (block w n)

-- ---- 5.2 Key Expansion

-- the first bytes of Rcon[1] to Rcon[10]
unfoldable pub round_constants : List ℕ
round_constants = 0x01 ∷ 0x02 ∷ 0x04 ∷ 0x08 ∷ 0x10 ∷ 0x20 ∷ 0x40 ∷ 0x80 ∷ 0x1b ∷ 0x36 ∷ []

-- they are the powers of x, which is 02
pub round_constants_are_powers : round_constants ≡ orbit 10 (mul8 2) 1
unfolding round_constants orbit combine times xtime
round_constants_are_powers = refl

-- Rcon[n + 1]
abbrev pub rcon : ℕ → List ℕ
rcon n = get_or round_constants n 0 ∷ 0 ∷ 0 ∷ 0 ∷ []

abbrev pub rot_word : List ℕ → List ℕ
rot_word w = tab (λ i. get_or w ((i + 1) % 4) 0) 4

abbrev pub sub_word : List ℕ → List ℕ
sub_word w = tab (λ i. sbox (get_or w i 0)) 4

-- Figure 11, four words at a time: word j of the round key after k is k's word j plus the word before it; the first is k's first plus temp.
-- proofs/KeyExpansion has the figure word by word.
abbrev pub next_word : List ℕ → List ℕ → ℕ → List ℕ
next_word k temp zero = add 4 (word k 0) temp
next_word k temp (suc j) = add 4 (word k (suc j)) (next_word k temp j)

abbrev pub next_key : List ℕ → List ℕ → List ℕ
next_key k temp = rows (next_word k temp) 4

-- RotWord() of a round key's last word, which SubWord() is given
abbrev pub key_input : List ℕ → List ℕ
key_input k = rot_word (word k 3)

unfoldable pub round_key : List ℕ → ℕ → List ℕ
round_key key zero = block key 0
round_key key (suc n) = next_key (round_key key n) (add 4 (sub_word (key_input (round_key key n))) (rcon n))

-- the expanded key: 44 words, which are 11 round keys
unfoldable pub key_expansion : List ℕ → List ℕ
key_expansion key = rows (round_key key) 11

-- ---- 5.1 Cipher(), Figure 5, for an expanded key w

-- the state that SubBytes() is given in round n + 1
unfoldable pub entering : List ℕ → List ℕ → ℕ → List ℕ
entering w plaintext zero = add_round_key w 0 plaintext
entering w plaintext (suc n) = add_round_key w (suc n) (mix_columns (shift_rows (sub_bytes (entering w plaintext n))))

unfoldable pub cipher : List ℕ → List ℕ → List ℕ
cipher w plaintext = add_round_key w 10 (shift_rows (sub_bytes (entering w plaintext 9)))

unfoldable pub aes : List ℕ → List ℕ → List ℕ
aes key plaintext = cipher (key_expansion key) plaintext

-- ---- Document 01: "S-boxes 0 to 39 are the key schedule's, by round, four each in the order after the word's rotation. 40 to 199 are the
-- rounds', bytes in block order."

-- what the key schedule's S-boxes are given, for round keys `keys 0` to `keys 9`
unfoldable pub key_inputs : (ℕ → List ℕ) → List ℕ
key_inputs keys = rows (λ n. key_input (keys n)) 10

unfoldable pub sbox_inputs : List ℕ → List ℕ → List ℕ
sbox_inputs key plaintext = key_inputs (round_key key) ++ rows (entering (key_expansion key) plaintext) 10

-- "Some S-box input under the lent key is zero; place is the lowest S-box": the index of the first zero, or the length where there is none
unfoldable pub first_zero : List ℕ → ℕ
first_zero [] = 0
first_zero (zero ∷ s) = 0
first_zero (suc x ∷ s) = suc (first_zero s)

-- "A good key for a public key (plaintext 16 bytes, ciphertext 16 bytes) meets no zero S-box input and takes the plaintext to the
-- ciphertext": of m S-boxes with these inputs, and of a cipher with this output
pub record Good (m : ℕ) (inputs output ciphertext : List ℕ) : Type 0 where
  pub no_zero : (l : ℕ) → l < m → get_or inputs l 0 ≢ 0
  pub encrypts : output ≡ ciphertext

abbrev pub GoodKey : List ℕ → List ℕ → List ℕ → Type 0
GoodKey plaintext ciphertext key = Good 200 (sbox_inputs key plaintext) (aes key plaintext) ciphertext

-- ---- Document 02, slip 14: "the single-key Even-Mansour form ..: y = k + AES(x + k) under a public AES key. .. There are 160 S-boxes, the
-- rounds' alone, from 0 in block order"

unfoldable pub even_mansour : List ℕ → List ℕ → List ℕ → List ℕ
even_mansour aes_key x key = add 16 (aes aes_key (add 16 x key)) key

unfoldable pub even_mansour_inputs : List ℕ → List ℕ → List ℕ → List ℕ
even_mansour_inputs aes_key x key = rows (entering (key_expansion aes_key) (add 16 x key)) 10

abbrev pub GoodEvenMansourKey : List ℕ → List ℕ → List ℕ → List ℕ → Type 0
GoodEvenMansourKey aes_key x y key = Good 160 (even_mansour_inputs aes_key x key) (even_mansour aes_key x key) y
