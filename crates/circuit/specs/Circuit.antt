-- AES over shares. The parties' shares of a value add up to it; a party has a share of the key and of each S-box's inverse. All of AES but the
-- inversions is linear, so "Each party carries its key share through AES, its inverse shares standing for the inverses, to its S-box input
-- shares and its output share; true output shares add to the ciphertext."
use Rattle.std.specs.Prelude.{◌≡◌, List, ◌++◌, ℕ, zero, suc, ◌<◌, get_or, drop}
use Rattle.std.specs.Int.Bits.{bit_xor}
use Rattle.slices.specs.Lists.{tab, rows, zip_xor}
use Rattle.field.specs.Byte.{mul8, inverse8}
use Rattle.aes.specs.Aes.{add, word, block, matrix, shift_rows, mix_columns, add_round_key, rcon, next_key, key_inputs}

-- `one` is the share of the number 1: 1 for party 0, and 0 for the others
pub record Share : Type 0 where
  pub one : ℕ
  pub key : List ℕ
  pub inverses : List ℕ

abbrev pub share : ℕ → List ℕ → List ℕ → Share
share one key inverses = record { one = one; key = key; inverses = inverses }

-- ---- "Party 0 alone adds offsets and public constants": a public value's share is the value times `one`; the offsets are added to party 0's
-- shares of the key and of the inverses before they come here

-- of a list of n bytes
abbrev pub public : ℕ → ℕ → List ℕ → List ℕ
public one n v = tab (λ i. mul8 one (get_or v i 0)) n

-- the affine transformation of an inverse: its matrix is linear, and 63 is a constant
unfoldable pub affine : ℕ → ℕ → ℕ
affine one y = bit_xor (matrix y) (mul8 one 0x63)

-- what m S-boxes give
unfoldable pub sbox_outputs : ℕ → ℕ → List ℕ → List ℕ
sbox_outputs m one inverses = tab (λ l. affine one (get_or inverses l 0)) m

-- ---- the key schedule, where the S-boxes give z

unfoldable pub round_key_share : ℕ → List ℕ → List ℕ → ℕ → List ℕ
round_key_share one key z zero = block key 0
round_key_share one key z (suc n) = next_key (round_key_share one key z n) (add 4 (word z n) (public one 4 (rcon n)))

unfoldable pub expansion_share : ℕ → List ℕ → List ℕ → List ℕ
expansion_share one key z = rows (round_key_share one key z) 11

-- ---- the rounds, for shares of an expanded key w and of the plaintext p, where the S-boxes give z

unfoldable pub entering_share : List ℕ → List ℕ → List ℕ → ℕ → List ℕ
entering_share w p z zero = add_round_key w 0 p
entering_share w p z (suc n) = add_round_key w (suc n) (mix_columns (shift_rows (block z n)))

unfoldable pub cipher_share : List ℕ → List ℕ → List ℕ
cipher_share w z = add_round_key w 10 (shift_rows (block z 9))

-- ---- AES: 40 S-boxes of the key schedule, and then 160 of the rounds

abbrev pub outputs : Share → List ℕ
outputs s = sbox_outputs 200 s.one s.inverses

abbrev pub expanded : Share → List ℕ
expanded s = expansion_share s.one s.key (outputs s)

unfoldable pub input_shares : List ℕ → Share → List ℕ
input_shares plaintext s =
    key_inputs (round_key_share s.one s.key (outputs s))
    ++ rows (entering_share (expanded s) (public s.one 16 plaintext) (drop 40 (outputs s))) 10

unfoldable pub output_share : Share → List ℕ
output_share s = cipher_share (expanded s) (drop 40 (outputs s))

-- ---- the Even-Mansour form: 160 S-boxes of the rounds, a public expanded key w, and the key's share added before and after

abbrev pub even_mansour_outputs : Share → List ℕ
even_mansour_outputs s = sbox_outputs 160 s.one s.inverses

unfoldable pub even_mansour_input_shares : List ℕ → List ℕ → Share → List ℕ
even_mansour_input_shares w x s =
    rows (entering_share (public s.one 176 w) (add 16 (public s.one 16 x) s.key) (even_mansour_outputs s)) 10

unfoldable pub even_mansour_output_share : List ℕ → Share → List ℕ
even_mansour_output_share w s = add 16 (cipher_share (public s.one 176 w) (even_mansour_outputs s)) s.key

-- ---- parties

-- party i's share, where party 0 alone has the constants
abbrev pub party : ℕ → List ℕ → List ℕ → Share
party zero = share 1
party (suc i) = share 0

-- the sum of two shares
abbrev pub plus : Share → Share → Share
plus s t = share (bit_xor s.one t.one) (zip_xor s.key t.key) (zip_xor s.inverses t.inverses)

-- ---- products

-- the first m elements of y are the inverses of those of x
abbrev pub Inverted : ℕ → List ℕ → List ℕ → Type 0
Inverted m x y = (l : ℕ) → l < m → get_or y l 0 ≡ inverse8 (get_or x l 0)

-- the first m elements of x times those of y are 1
abbrev pub ProductsOne : ℕ → List ℕ → List ℕ → Type 0
ProductsOne m x y = (l : ℕ) → l < m → mul8 (get_or x l 0) (get_or y l 0) ≡ 1
