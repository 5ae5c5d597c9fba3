-- Sizes: how many bytes each share has, and that they are bytes. Assumes nothing.
use Rattle.std.specs.Prelude.{◌≡◌, refl, List, get_or, length}
use Prim.Native.Nat.{ℕ, zero, suc}
use Rattle.slices.specs.Bytes.{Bytes, tab_bytes, append_bytes, rows_bytes, drop_bytes}
use Rattle.aes.specs.Aes.{rcon, key_inputs}
use Rattle.aes.proofs.Sizes.{
  product_lt,
  sum_lt,
  matrix_lt,
  add_bytes,
  word_bytes,
  block_bytes,
  shift_rows_bytes,
  mix_columns_bytes,
  add_round_key_bytes,
  next_key_bytes,
  key_inputs_bytes,
}
use Rattle.circuit.specs.Circuit.{
  Share,
  public,
  affine,
  sbox_outputs,
  outputs,
  round_key_share,
  expansion_share,
  entering_share,
  cipher_share,
  input_shares,
  output_share,
  even_mansour_input_shares,
  even_mansour_output_share,
}

-- ---- lengths

pub length_round_key_share : (one : ℕ) (key z : List ℕ) (n : ℕ) → length (round_key_share one key z n) ≡ 16
unfolding round_key_share
length_round_key_share one key z zero = refl
length_round_key_share one key z (suc n) = refl

pub length_entering_share : (w p z : List ℕ) (n : ℕ) → length (entering_share w p z n) ≡ 16
unfolding entering_share
length_entering_share w p z zero = refl
length_entering_share w p z (suc n) = refl

pub length_input_shares : (plaintext : List ℕ) (s : Share) → length (input_shares plaintext s) ≡ 200
unfolding input_shares key_inputs entering_share
length_input_shares plaintext s = refl

pub length_output_share : (s : Share) → length (output_share s) ≡ 16
unfolding output_share cipher_share
length_output_share s = refl

pub length_even_mansour_input_shares : (w x : List ℕ) (s : Share) → length (even_mansour_input_shares w x s) ≡ 160
unfolding even_mansour_input_shares entering_share
length_even_mansour_input_shares w x s = refl

pub length_even_mansour_output_share : (w : List ℕ) (s : Share) → length (even_mansour_output_share w s) ≡ 16
unfolding even_mansour_output_share
length_even_mansour_output_share w s = refl

-- ---- bytes

public_bytes : (one n : ℕ) (v : List ℕ) → Bytes (public one n v)
public_bytes one n v = tab_bytes n (λ i l. product_lt one (get_or v i 0))

outputs_bytes : (m one : ℕ) (inverses : List ℕ) → Bytes (sbox_outputs m one inverses)
unfolding sbox_outputs affine
outputs_bytes m one inverses = tab_bytes m (λ l h. sum_lt (matrix_lt (get_or inverses l 0)) (product_lt one 0x63))

module _ (one : ℕ) {key z : List ℕ} (hk : Bytes key) (hz : Bytes z) where
  round_key_bytes : (n : ℕ) → Bytes (round_key_share one key z n)
  unfolding round_key_share
  round_key_bytes zero = block_bytes hk 0
  round_key_bytes (suc n) = next_key_bytes (round_key_bytes n) (add_bytes 4 (word_bytes hz n) (public_bytes one 4 (rcon n)))

  expansion_bytes : Bytes (expansion_share one key z)
  unfolding expansion_share
  expansion_bytes = rows_bytes _ 11 (λ n l. round_key_bytes n)

module _ {w z : List ℕ} (hw : Bytes w) (hz : Bytes z) where
  entering_bytes : {p : List ℕ} → Bytes p → (n : ℕ) → Bytes (entering_share w p z n)
  unfolding entering_share
  entering_bytes hp zero = add_round_key_bytes hw 0 hp
  entering_bytes hp (suc n) = add_round_key_bytes hw (suc n) (mix_columns_bytes (shift_rows_bytes (block_bytes hz n)))

  cipher_bytes : Bytes (cipher_share w z)
  unfolding cipher_share
  cipher_bytes = add_round_key_bytes hw 10 (shift_rows_bytes (block_bytes hz 9))

-- ---- bytes: results

module _ (s : Share) (h : Bytes s.key) where
  z_bytes : (m : ℕ) → Bytes (sbox_outputs m s.one s.inverses)
  z_bytes m = outputs_bytes m s.one s.inverses

  pub input_shares_bytes : (plaintext : List ℕ) → Bytes (input_shares plaintext s)
  unfolding input_shares
  input_shares_bytes plaintext =
      append_bytes (key_inputs_bytes (round_key_bytes s.one h (z_bytes 200)))
      (rows_bytes _ 10
      (λ n l. entering_bytes (expansion_bytes s.one h (z_bytes 200)) (drop_bytes 40 (outputs s) (z_bytes 200))
      (public_bytes s.one 16 plaintext) n))

  pub output_share_bytes : Bytes (output_share s)
  unfolding output_share
  output_share_bytes = cipher_bytes (expansion_bytes s.one h (z_bytes 200)) (drop_bytes 40 (outputs s) (z_bytes 200))

  pub even_mansour_input_shares_bytes : (w x : List ℕ) → Bytes (even_mansour_input_shares w x s)
  unfolding even_mansour_input_shares
  even_mansour_input_shares_bytes w x =
      rows_bytes _ 10 (λ n l. entering_bytes (public_bytes s.one 176 w) (z_bytes 160) (add_bytes 16 (public_bytes s.one 16 x) h) n)

  pub even_mansour_output_share_bytes : (w : List ℕ) → Bytes (even_mansour_output_share w s)
  unfolding even_mansour_output_share
  even_mansour_output_share_bytes w = add_bytes 16 (cipher_bytes (public_bytes s.one 176 w) (z_bytes 160)) h
