-- Sizes: how many bytes each step and each result has, and that they are bytes. A step's result has its length whatever it is given.
-- Assumes nothing.
use Rattle.std.specs.Prelude.{◌≡◌, refl, List, [], ◌∷◌, get_or, length}
use Rattle.std.proofs.Common.{subst, mod-lt, zero-lt-suc}
use Prim.Native.Nat.{ℕ, zero, suc, ◌+◌, ◌*◌, ◌/◌, ◌%◌, ◌<◌}
use Rattle.std.specs.Int.Bits.{bit_xor}
use Rattle.std.proofs.lemmas.Nat.{xor_lt}
use Rattle.slices.specs.Bytes.{Bytes, tab_bytes, append_bytes, rows_bytes, cons_bytes, tested_bytes}
use Rattle.slices.specs.Tab.{length_rows}
use Rattle.field.specs.Linear.{combine_map, low_bits}
use Rattle.field.specs.Byte.{mul8, field8}
use Rattle.aes.specs.Aes.{
  cell,
  state,
  word,
  block,
  add,
  matrix,
  sbox,
  sub_bytes,
  shift_rows,
  mix_columns,
  add_round_key,
  round_constants,
  rcon,
  sub_word,
  next_word,
  next_key,
  key_input,
  round_key,
  key_expansion,
  entering,
  cipher,
  aes,
  key_inputs,
  sbox_inputs,
  even_mansour,
  even_mansour_inputs,
}

-- ---- lengths

pub length_next_word : (k t : List ℕ) (j : ℕ) → length (next_word k t j) ≡ 4
length_next_word k t zero = refl
length_next_word k t (suc j) = refl

pub length_round_key : (key : List ℕ) (n : ℕ) → length (round_key key n) ≡ 16
unfolding round_key
length_round_key key zero = refl
length_round_key key (suc n) = refl

pub length_key_expansion : (key : List ℕ) → length (key_expansion key) ≡ 176
unfolding key_expansion
length_key_expansion key = length_rows 16 (round_key key) 11 (λ n l. length_round_key key n)

pub length_entering : (w p : List ℕ) (n : ℕ) → length (entering w p n) ≡ 16
unfolding entering
length_entering w p zero = refl
length_entering w p (suc n) = refl

pub length_aes : (key p : List ℕ) → length (aes key p) ≡ 16
unfolding aes cipher
length_aes key p = refl

pub length_sbox_inputs : (key p : List ℕ) → length (sbox_inputs key p) ≡ 200
unfolding sbox_inputs key_inputs entering
length_sbox_inputs key p = refl

pub length_even_mansour : (aes_key x key : List ℕ) → length (even_mansour aes_key x key) ≡ 16
unfolding even_mansour
length_even_mansour aes_key x key = refl

pub length_even_mansour_inputs : (aes_key x key : List ℕ) → length (even_mansour_inputs aes_key x key) ≡ 160
unfolding even_mansour_inputs
length_even_mansour_inputs aes_key x key = length_rows 16 (entering _ _) 10 (λ n l. length_entering _ _ n)

-- ---- bytes: numbers

pub product_lt : (a b : ℕ) → mul8 a b < 256
product_lt = field8.ring.lt

pub sum_lt : {a b : ℕ} → a < 256 → b < 256 → bit_xor a b < 256
sum_lt {a} {b} = xor_lt 8 a b

pub matrix_lt : (b : ℕ) → matrix b < 256
unfolding matrix
matrix_lt b = subst (λ (x : ℕ). x < 256) (combine_map (low_bits 8) _ b) (mod-lt (matrix b) (zero-lt-suc 255))

sbox_lt : (x : ℕ) → sbox x < 256
unfolding sbox
sbox_lt x = sum_lt (matrix_lt _) ((tested_bytes (0x63 ∷ []) tt).lt 0)

-- ---- bytes: steps

pub add_bytes : {a b : List ℕ} (n : ℕ) → Bytes a → Bytes b → Bytes (add n a b)
add_bytes n p q = tab_bytes n (λ i l. sum_lt (p.lt i) (q.lt i))

pub word_bytes : {s : List ℕ} → Bytes s → (j : ℕ) → Bytes (word s j)
word_bytes h j = tab_bytes 4 (λ i l. h.lt (j * 4 + i))

pub block_bytes : {s : List ℕ} → Bytes s → (j : ℕ) → Bytes (block s j)
block_bytes h j = tab_bytes 16 (λ i l. h.lt (j * 16 + i))

state_bytes : {f : ℕ → ℕ → ℕ} → ((r c : ℕ) → f r c < 256) → Bytes (state f)
state_bytes h = tab_bytes 16 (λ i l. h (i % 4) (i / 4))

pub shift_rows_bytes : {s : List ℕ} → Bytes s → Bytes (shift_rows s)
shift_rows_bytes h = state_bytes (λ r c. h.lt (r + 4 * ((c + r) % 4)))

pub mix_columns_bytes : {s : List ℕ} → Bytes s → Bytes (mix_columns s)
mix_columns_bytes {s} h =
    state_bytes
    (λ r c. sum_lt (sum_lt (product_lt 2 (cell s r c)) (product_lt 3 (cell s ((r + 1) % 4) c)))
    (sum_lt (h.lt ((r + 2) % 4 + 4 * c)) (h.lt ((r + 3) % 4 + 4 * c))))

pub add_round_key_bytes : {w s : List ℕ} → Bytes w → (n : ℕ) → Bytes s → Bytes (add_round_key w n s)
add_round_key_bytes h n p = add_bytes 16 p (block_bytes h n)

pub rcon_bytes : (n : ℕ) → Bytes (rcon n)
unfolding round_constants
rcon_bytes n = cons_bytes ((tested_bytes round_constants tt).lt n) (tested_bytes (0 ∷ 0 ∷ 0 ∷ []) tt)

next_word_bytes : {k t : List ℕ} → Bytes k → Bytes t → (j : ℕ) → Bytes (next_word k t j)
next_word_bytes h p zero = add_bytes 4 (word_bytes h 0) p
next_word_bytes h p (suc j) = add_bytes 4 (word_bytes h (suc j)) (next_word_bytes h p j)

pub next_key_bytes : {k t : List ℕ} → Bytes k → Bytes t → Bytes (next_key k t)
next_key_bytes h p = rows_bytes _ 4 (λ j l. next_word_bytes h p j)

pub key_inputs_bytes : {keys : ℕ → List ℕ} → ((n : ℕ) → Bytes (keys n)) → Bytes (key_inputs keys)
unfolding key_inputs
key_inputs_bytes h = rows_bytes _ 10 (λ n l. tab_bytes 4 (λ i m. (word_bytes (h n) 3).lt ((i + 1) % 4)))

-- ---- bytes: results

sub_bytes_bytes : (s : List ℕ) → Bytes (sub_bytes s)
sub_bytes_bytes s = state_bytes (λ r c. sbox_lt (cell s r c))

sub_word_bytes : (w : List ℕ) → Bytes (sub_word w)
sub_word_bytes w = tab_bytes 4 (λ i l. sbox_lt (get_or w i 0))

module _ {key : List ℕ} (h : Bytes key) where
  round_key_bytes : (n : ℕ) → Bytes (round_key key n)
  unfolding round_key
  round_key_bytes zero = block_bytes h 0
  round_key_bytes (suc n) = next_key_bytes (round_key_bytes n) (add_bytes 4 (sub_word_bytes (key_input (round_key key n))) (rcon_bytes n))

  pub key_expansion_bytes : Bytes (key_expansion key)
  unfolding key_expansion
  key_expansion_bytes = rows_bytes _ 11 (λ n l. round_key_bytes n)

entering_bytes : {w p : List ℕ} → Bytes w → Bytes p → (n : ℕ) → Bytes (entering w p n)
unfolding entering
entering_bytes hw hp zero = add_round_key_bytes hw 0 hp
entering_bytes {w} {p} hw hp (suc n) =
    add_round_key_bytes hw (suc n) (mix_columns_bytes (shift_rows_bytes (sub_bytes_bytes (entering w p n))))

module _ {key : List ℕ} (p : List ℕ) (h : Bytes key) where
  pub aes_bytes : Bytes (aes key p)
  unfolding aes cipher
  aes_bytes = add_round_key_bytes (key_expansion_bytes h) 10 (shift_rows_bytes (sub_bytes_bytes (entering (key_expansion key) p 9)))

  pub sbox_inputs_bytes : Bytes p → Bytes (sbox_inputs key p)
  unfolding sbox_inputs
  sbox_inputs_bytes hp = append_bytes (key_inputs_bytes (round_key_bytes h)) (rows_bytes _ 10 (λ n l. entering_bytes (key_expansion_bytes h) hp n))

module _ {aes_key key : List ℕ} (x : List ℕ) (ha : Bytes aes_key) (hk : Bytes key) where
  pub even_mansour_bytes : Bytes (even_mansour aes_key x key)
  unfolding even_mansour
  even_mansour_bytes = add_bytes 16 (aes_bytes _ ha) hk

  pub even_mansour_inputs_bytes : Bytes x → Bytes (even_mansour_inputs aes_key x key)
  unfolding even_mansour_inputs
  even_mansour_inputs_bytes hx = rows_bytes _ 10 (λ n l. entering_bytes (key_expansion_bytes ha) (add_bytes 16 hx hk) n)
