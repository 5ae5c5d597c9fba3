-- Where the inverses are right, the circuit is AES: for the whole key and the true constants its inputs are the S-boxes' inputs and its output is
-- the ciphertext. Assumes nothing.
use Rattle.std.specs.Prelude.{◌≡◌, drop, length}
use Rattle.std.proofs.Math.Path.{refl, ap, ap₂}
use Rattle.std.proofs.Common.{sym, ◌∙◌, subst, arith, get_or-append-add, ext_get_or}
use mathlib.Core.List.{List, ◌++◌}
use Prim.Native.Nat.{ℕ, zero, suc, ◌+◌, ◌*◌, ◌<◌, ◌≤◌}
use Rattle.std.specs.Int.Bits.{bit_xor}
use Rattle.std.proofs.Math.ListN.{get_or, get_or-append}
use Rattle.std.proofs.Math.Seq.{get_or-drop}
use Rattle.slices.specs.Lists.{rows}
use Rattle.slices.specs.Tab.{length_tab, get_d_tab, tab_cong, get_d_rows, rows_cong}
use Rattle.slices.specs.Bytes.{Bytes}
use Rattle.aes.specs.Aes.{
  add,
  block,
  matrix,
  sbox,
  sub_bytes,
  shift_rows,
  mix_columns,
  add_round_key,
  sub_word,
  next_key,
  key_input,
  round_key,
  key_expansion,
  entering,
  cipher,
  aes,
  key_inputs,
  sbox_inputs,
}
use Rattle.aes.proofs.Sizes.{length_entering, rcon_bytes}
use Rattle.field.proofs.Byte.{times_one}
use Rattle.circuit.specs.Circuit.{
  share,
  public,
  affine,
  sbox_outputs,
  round_key_share,
  expansion_share,
  entering_share,
  cipher_share,
  input_shares,
  output_share,
  Inverted,
}
use Rattle.circuit.proofs.Sizes.{length_entering_share, length_input_shares, length_output_share, input_shares_bytes, output_share_bytes}
use Rattle.circuit.proofs.Linear.{input_shares_linear, output_share_linear}
use Rattle.circuit.specs.Law.{IsAes, IsCircuit}

-- ---- constants and S-boxes, for the share 1

pub public_one : {n : ℕ} {v : List ℕ} → Bytes v → length v ≡ n → public 1 n v ≡ v
public_one {n} {v} h l =
    ext_get_or 0 (public 1 n v) v (length_tab _ n ∙ sym l)
    (λ i k. get_d_tab _ n i 0 (subst (λ (m : ℕ). i < m) (length_tab _ n) k) ∙ times_one (h.lt i))

pub outputs_true : (m : ℕ) (x y : List ℕ) → Inverted m x y → (l : ℕ) → l < m → get_or (sbox_outputs m 1 y) l 0 ≡ sbox (get_or x l 0)
unfolding sbox_outputs affine sbox
outputs_true m x y h l k =
    get_d_tab (λ l. affine 1 (get_or y l 0)) m l 0 k ∙ ap₂ bit_xor (ap matrix (h l k)) (times_one {x = 0x63} (omega arith))

-- ---- the key schedule: K is the true round keys, or the circuit's

pub round_keys_agree : (key z : List ℕ) (K : ℕ → List ℕ) → ((n : ℕ) → round_key_share 1 key z n ≡ round_key key n → K n ≡ round_key key n)
    → ((n b : ℕ) → n < 10 → b < 4 → get_or z (n * 4 + b) 0 ≡ sbox (get_or (key_input (K n)) b 0))
    → (n : ℕ) → n ≤ 10 → round_key_share 1 key z n ≡ round_key key n
unfolding round_key_share round_key
round_keys_agree key z K k h zero l = refl
round_keys_agree key z K k h (suc n) l =
    let e = round_keys_agree key z K k h n (omega arith) in
    ap₂ next_key e
    (ap₂ (add 4) (tab_cong 4 (λ b m. h n b (omega arith) m) ∙ ap (λ (x : List ℕ). sub_word (key_input x)) (k n e))
    (public_one (rcon_bytes n) refl))

-- ---- the rounds: E is the true states, or the circuit's

module _ (w p z : List ℕ) (E : ℕ → List ℕ) (ε : (n : ℕ) → entering_share w p z n ≡ entering w p n → E n ≡ entering w p n)
    (h : (n b : ℕ) → n < 10 → b < 16 → get_or z (n * 16 + b) 0 ≡ sbox (get_or (E n) b 0)) where
  states_agree : (n : ℕ) → n < 10 → entering_share w p z n ≡ entering w p n → block z n ≡ sub_bytes (entering w p n)
  states_agree n l e = tab_cong 16 (λ b m. h n b l m) ∙ ap sub_bytes (ε n e)

  pub entering_agree : (n : ℕ) → n < 10 → entering_share w p z n ≡ entering w p n
  unfolding entering_share entering
  entering_agree zero l = refl
  entering_agree (suc n) l =
      ap (λ (x : List ℕ). add_round_key w (suc n) (mix_columns (shift_rows x))) (states_agree n (omega arith) (entering_agree n (omega arith)))

  pub cipher_agree : cipher_share w z ≡ cipher w p
  unfolding cipher_share cipher
  cipher_agree = ap (λ (x : List ℕ). add_round_key w 10 (shift_rows x)) (states_agree 9 (omega arith) (entering_agree 9 (omega arith)))

-- ---- the S-boxes of the key schedule, and of the rounds, in the list of all

at_key : (K : ℕ → List ℕ) (t : List ℕ) (n b : ℕ) → n < 10 → b < 4 → get_or (key_inputs K ++ t) (n * 4 + b) 0 ≡ get_or (key_input (K n)) b 0
unfolding key_inputs
at_key K t n b l m =
    get_or-append (key_inputs K) t 0 (n * 4 + b) (omega arith) ∙ get_d_rows 4 (λ j. key_input (K j)) 10 (λ j h. refl) n b l m

at_round : (K E : ℕ → List ℕ) → ((n : ℕ) → length (E n) ≡ 16) → (n b : ℕ) → n < 10 → b < 16
    → get_or (key_inputs K ++ rows E 10) (40 + (n * 16 + b)) 0 ≡ get_or (E n) b 0
unfolding key_inputs
at_round K E s n b l m = get_or-append-add (key_inputs K) (rows E 10) (n * 16 + b) 0 ∙ get_d_rows 16 E 10 (λ j h. s j) n b l m

-- ---- AES with its key schedule

module _ (plaintext : List ℕ) (bytes : Bytes plaintext) (size : length plaintext ≡ 16) where
  module _ (key y : List ℕ) where
    abbrev w : List ℕ
    w = key_expansion key

    abbrev z : List ℕ
    z = sbox_outputs 200 1 y

    abbrev z' : List ℕ
    z' = drop 40 z

    -- y inverts a list of inputs that is AES's as far as the circuit is AES
    is_aes : (K E : ℕ → List ℕ) → ((n : ℕ) → round_key_share 1 key z n ≡ round_key key n → K n ≡ round_key key n)
        → (expansion_share 1 key z ≡ w → (n : ℕ) → entering_share w plaintext z' n ≡ entering w plaintext n → E n ≡ entering w plaintext n)
        → ((n : ℕ) → length (E n) ≡ 16) → Inverted 200 (key_inputs K ++ rows E 10) y → IsAes plaintext key y
    unfolding expansion_share key_expansion input_shares sbox_inputs output_share aes key_inputs
    is_aes K E κ ε s h =
        let at : (l : ℕ) → l < 200 → get_or z l 0 ≡ sbox (get_or (key_inputs K ++ rows E 10) l 0) = outputs_true 200 (key_inputs K ++ rows E 10) y h in
        let keys : (n : ℕ) → n ≤ 10 → round_key_share 1 key z n ≡ round_key key n =
        round_keys_agree key z K κ (λ n b l m. at (n * 4 + b) (omega arith) ∙ ap sbox (at_key K (rows E 10) n b l m)) in
        let we : expansion_share 1 key z ≡ w = rows_cong 11 (λ j l. keys j (omega arith)) in
        let states : (n b : ℕ) → n < 10 → b < 16 → get_or z' (n * 16 + b) 0 ≡ sbox (get_or (E n) b 0) =
        λ n b l m. get_or-drop 40 z (n * 16 + b) 0 ∙ at (40 + (n * 16 + b)) (omega arith) ∙ ap sbox (at_round K E s n b l m) in
        record {
          same_inputs = ap₂ ◌++◌ (rows_cong 10 (λ j l. ap key_input (keys j (omega arith))))
              (ap₂ (λ (u v : List ℕ). rows (entering_share u v z') 10) we (public_one bytes size)
              ∙ rows_cong 10 (entering_agree w plaintext z' E (ε we) states));
          same_output = ap (λ (u : List ℕ). cipher_share u z') we ∙ cipher_agree w plaintext z' E (ε we) states;
        }

    own : Inverted 200 (input_shares plaintext (share 1 key y)) y → IsAes plaintext key y
    unfolding input_shares
    own =
        is_aes (round_key_share 1 key z) (entering_share (expansion_share 1 key z) (public 1 16 plaintext) z') (λ n e. e)
        (λ we n e. ap₂ (λ (u v : List ℕ). entering_share u v z' n) we (public_one bytes size) ∙ e) (length_entering_share _ _ _)

    true : Inverted 200 (sbox_inputs key plaintext) y → IsAes plaintext key y
    unfolding sbox_inputs
    true = is_aes (round_key key) (entering w plaintext) (λ n e. refl) (λ we n e. refl) (length_entering w plaintext)

  pub aes_circuit_lem : IsCircuit 200 (λ key. sbox_inputs key plaintext) (λ key. aes key plaintext) (input_shares plaintext) output_share
  aes_circuit_lem =
      record {
        inputs_linear = input_shares_linear plaintext;
        output_linear = output_share_linear;
        inputs_sized = λ s h. record { size = length_input_shares plaintext s; bytes = input_shares_bytes s h plaintext };
        output_sized = λ s h. record { size = length_output_share s; bytes = output_share_bytes s h };
        own_inverses = own;
        true_inverses_lem = true;
      }
