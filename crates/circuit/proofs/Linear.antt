-- The circuit is linear in the share: what it gives for a sum of shares is the sum of what it gives. So any number of parties, party 0 alone with
-- the constants, have shares of what it gives for the sums. Assumes nothing.
use Rattle.std.specs.Prelude.{◌≡◌, refl, List, ◌++◌, get_or, drop, length}
use Rattle.std.proofs.Common.{sym, ap, ap₂, ◌∙◌}
use Prim.Native.Nat.{ℕ, zero, suc, ◌+◌, ◌*◌, ◌/◌, ◌%◌}
use Rattle.std.specs.Int.Bits.{bit_xor}
use Rattle.slices.specs.Lists.{tab, rows, zip_xor, sum_xor}
use Rattle.slices.specs.Tab.{tab_cong, length_rows}
use Rattle.slices.specs.Sums.{get_d_zip, zip_tab, zip_append, drop_zip}
use Rattle.slices.specs.Xor.{xor_swap}
use Rattle.field.specs.Linear.{Additive, combined}
use Rattle.field.specs.Field.{adds_l}
use Rattle.field.specs.Byte.{mul8, field8}
use Rattle.aes.specs.Aes.{add, matrix, state, word, block, shift_rows, mix_columns, add_round_key, rcon, next_word, key_inputs}
use Rattle.aes.proofs.Sizes.{length_next_word}
use Rattle.circuit.specs.Circuit.{
  Share,
  share,
  party,
  public,
  affine,
  sbox_outputs,
  round_key_share,
  expansion_share,
  expanded,
  entering_share,
  cipher_share,
  input_shares,
  output_share,
  even_mansour_input_shares,
  even_mansour_output_share,
}
use Rattle.circuit.specs.Law.{Linear₁, Linear}
use Rattle.circuit.proofs.Sizes.{length_round_key_share, length_entering_share}

-- ---- numbers

at : {f : Share → List ℕ} → Linear f → (i : ℕ) → Linear₁ (λ s. get_or (f s) i 0)
at {f} h i = record { adds₁ = λ s t. ap (λ (l : List ℕ). get_or l i 0) (h.adds s t) ∙ get_d_zip (f s) (f t) i }

infixl 60 ◌⊞◌
◌⊞◌ : {f g : Share → ℕ} → Linear₁ f → Linear₁ g → Linear₁ (λ s. bit_xor (f s) (g s))
◌⊞◌ {f} {g} hf hg = record { adds₁ = λ s t. ap₂ bit_xor (hf.adds₁ s t) (hg.adds₁ s t) ∙ xor_swap (f s) (f t) (g s) (g t) }

through : {f : Share → ℕ} (φ : ℕ → ℕ) → Additive φ → Linear₁ f → Linear₁ (λ s. φ (f s))
through {f} φ hφ h = record { adds₁ = λ s t. ap φ (h.adds₁ s t) ∙ hφ.adds (f s) (f t) }

times : {f : Share → ℕ} (c : ℕ) → Linear₁ f → Linear₁ (λ s. mul8 c (f s))
times c = through (mul8 c) (field8.ring.adds c)

constant : (c : ℕ) → Linear₁ (λ s. mul8 s.one c)
constant c = record { adds₁ = λ s t. (adds_l 8 mul8 field8.ring c).adds s.one t.one }

-- ---- lists

listed : {f : Share → ℕ → ℕ} (n : ℕ) → ((i : ℕ) → Linear₁ (λ s. f s i)) → Linear (λ s. tab (f s) n)
listed {f} n h = record { adds = λ s t. tab_cong n (λ i l. (h i).adds₁ s t) ∙ zip_tab (f s) (f t) n }

append : (k : ℕ) {f g : Share → List ℕ} → ((s : Share) → length (f s) ≡ k) → Linear f → Linear g → Linear (λ s. f s ++ g s)
append k {f} {g} l hf hg =
    record { adds = λ s t. ap₂ ◌++◌ (hf.adds s t) (hg.adds s t) ∙ zip_append (f s) (f t) (g s) (g t) (l s ∙ sym (l t)) }

stacked : {f : Share → ℕ → List ℕ} (k n : ℕ) → ((s : Share) (j : ℕ) → length (f s j) ≡ k) → ((j : ℕ) → Linear (λ s. f s j))
    → Linear (λ s. rows (f s) n)
unfolding zip_xor
stacked k zero l h = record { adds = λ s t. refl }
stacked {f} k (suc n) l h = append (n * k) (λ s. length_rows k (f s) n (λ j m. l s j)) (stacked k n l h) (h n)

dropped : {f : Share → List ℕ} (n : ℕ) → Linear f → Linear (λ s. drop n (f s))
dropped {f} n h = record { adds = λ s t. ap (drop n) (h.adds s t) ∙ drop_zip n (f s) (f t) }

key_linear : Linear (λ s. s.key)
key_linear = record { adds = λ s t. refl }

inverses_linear : Linear (λ s. s.inverses)
inverses_linear = record { adds = λ s t. refl }

-- ---- the steps of AES

public_linear : (n : ℕ) (v : List ℕ) → Linear (λ s. public s.one n v)
public_linear n v = listed n (λ i. constant (get_or v i 0))

outputs_linear : (m : ℕ) → Linear (λ s. sbox_outputs m s.one s.inverses)
unfolding sbox_outputs affine matrix
outputs_linear m = listed m (λ l. through matrix (combined _) (at inverses_linear l) ⊞ constant 0x63)

add_linear : {f g : Share → List ℕ} (n : ℕ) → Linear f → Linear g → Linear (λ s. add n (f s) (g s))
add_linear n hf hg = listed n (λ i. at hf i ⊞ at hg i)

word_linear : {f : Share → List ℕ} → Linear f → (j : ℕ) → Linear (λ s. word (f s) j)
word_linear h j = listed 4 (λ i. at h (j * 4 + i))

block_linear : {f : Share → List ℕ} → Linear f → (n : ℕ) → Linear (λ s. block (f s) n)
block_linear h n = listed 16 (λ i. at h (n * 16 + i))

state_linear : {g : Share → ℕ → ℕ → ℕ} → ((r c : ℕ) → Linear₁ (λ s. g s r c)) → Linear (λ s. state (g s))
state_linear h = listed 16 (λ i. h (i % 4) (i / 4))

shift_rows_linear : {f : Share → List ℕ} → Linear f → Linear (λ s. shift_rows (f s))
shift_rows_linear h = state_linear (λ r c. at h (r + 4 * ((c + r) % 4)))

mix_columns_linear : {f : Share → List ℕ} → Linear f → Linear (λ s. mix_columns (f s))
mix_columns_linear h =
    state_linear
    (λ r c. times 2 (at h (r + 4 * c)) ⊞ times 3 (at h ((r + 1) % 4 + 4 * c)) ⊞ (at h ((r + 2) % 4 + 4 * c) ⊞ at h ((r + 3) % 4 + 4 * c)))

add_round_key_linear : {w f : Share → List ℕ} → Linear w → (n : ℕ) → Linear f → Linear (λ s. add_round_key (w s) n (f s))
add_round_key_linear hw n h = add_linear 16 h (block_linear hw n)

next_word_linear : {k t : Share → List ℕ} → Linear k → Linear t → (j : ℕ) → Linear (λ s. next_word (k s) (t s) j)
next_word_linear hk ht zero = add_linear 4 (word_linear hk 0) ht
next_word_linear hk ht (suc j) = add_linear 4 (word_linear hk (suc j)) (next_word_linear hk ht j)

-- ---- the circuit

round_key_linear : {z : Share → List ℕ} → Linear z → (n : ℕ) → Linear (λ s. round_key_share s.one s.key (z s) n)
unfolding round_key_share
round_key_linear hz zero = block_linear key_linear 0
round_key_linear {z} hz (suc n) =
    stacked 4 4
    (λ s. length_next_word (round_key_share s.one s.key (z s) n) (add 4 (word (z s) n) (public s.one 4 (rcon n))))
    (next_word_linear (round_key_linear hz n) (add_linear 4 (word_linear hz n) (public_linear 4 (rcon n))))

expanded_linear : Linear expanded
unfolding expansion_share
expanded_linear = stacked 16 11 (λ s. length_round_key_share s.one s.key _) (round_key_linear (outputs_linear 200))

module _ {w p z : Share → List ℕ} (hw : Linear w) (hp : Linear p) (hz : Linear z) where
  entering_linear : (n : ℕ) → Linear (λ s. entering_share (w s) (p s) (z s) n)
  unfolding entering_share
  entering_linear zero = add_round_key_linear hw 0 hp
  entering_linear (suc n) = add_round_key_linear hw (suc n) (mix_columns_linear (shift_rows_linear (block_linear hz n)))

  rounds_linear : Linear (λ s. rows (entering_share (w s) (p s) (z s)) 10)
  rounds_linear = stacked 16 10 (λ s. length_entering_share (w s) (p s) (z s)) entering_linear

cipher_linear : {w z : Share → List ℕ} → Linear w → Linear z → Linear (λ s. cipher_share (w s) (z s))
unfolding cipher_share
cipher_linear hw hz = add_round_key_linear hw 10 (shift_rows_linear (block_linear hz 9))

pub input_shares_linear : (plaintext : List ℕ) → Linear (input_shares plaintext)
unfolding input_shares key_inputs
input_shares_linear plaintext =
    append 40 (λ s. refl)
    (stacked 4 10 (λ s j. refl) (λ j. listed 4 (λ i. at (word_linear (round_key_linear (outputs_linear 200) j) 3) ((i + 1) % 4))))
    (rounds_linear expanded_linear (public_linear 16 plaintext) (dropped 40 (outputs_linear 200)))

pub output_share_linear : Linear output_share
unfolding output_share
output_share_linear = cipher_linear expanded_linear (dropped 40 (outputs_linear 200))

pub even_mansour_input_shares_linear : (w x : List ℕ) → Linear (even_mansour_input_shares w x)
unfolding even_mansour_input_shares
even_mansour_input_shares_linear w x =
    rounds_linear (public_linear 176 w) (add_linear 16 (public_linear 16 x) key_linear) (outputs_linear 160)

pub even_mansour_output_share_linear : (w : List ℕ) → Linear (even_mansour_output_share w)
unfolding even_mansour_output_share
even_mansour_output_share_linear w = add_linear 16 (cipher_linear (public_linear 176 w) (outputs_linear 160)) key_linear

-- ---- any number of parties: 0 to n

pub parties_linear : {f : Share → List ℕ} → Linear f → (n : ℕ) (keys inverses : ℕ → List ℕ)
    → f (share 1 (sum_xor (suc n) keys) (sum_xor (suc n) inverses)) ≡ sum_xor (suc n) (λ i. f (party i (keys i) (inverses i)))
unfolding sum_xor zip_xor
parties_linear h zero keys inverses = refl
parties_linear {f} h (suc n) keys inverses =
    h.adds (share 1 (sum_xor (suc n) keys) (sum_xor (suc n) inverses)) (party (suc n) (keys (suc n)) (inverses (suc n)))
    ∙ ap (λ (l : List ℕ). zip_xor l (f (party (suc n) (keys (suc n)) (inverses (suc n))))) (parties_linear h n keys inverses)
