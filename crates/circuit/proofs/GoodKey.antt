-- What the circuits are for, for parties 0 to n whose shares of the key and of the inverses add up: S-box inputs and inverses whose products are
-- all 1, and output shares that add up to the ciphertext, show a good key; and a good key with the true inverses has both. Assumes nothing.
use Rattle.std.specs.Prelude.{◌≡◌, List, ℕ, suc, ◌<◌}
use Rattle.slices.specs.Lists.{sum_xor}
use Rattle.slices.specs.Bytes.{Bytes, Sized}
use Rattle.aes.specs.Aes.{key_expansion, sbox_inputs, GoodKey, even_mansour_inputs, GoodEvenMansourKey}
use Rattle.circuit.specs.Circuit.{
  party,
  input_shares,
  output_share,
  even_mansour_input_shares,
  even_mansour_output_share,
  Inverted,
  ProductsOne,
}
use Rattle.circuit.proofs.Sound.{parties_good, good_parties}
use Rattle.circuit.proofs.Agree.{aes_circuit_lem}
use Rattle.circuit.proofs.EvenMansour.{even_mansour_circuit_lem}

module _ (n : ℕ) (keys inverses : ℕ → List ℕ) (hk : (i : ℕ) → i < suc n → Bytes (keys i)) where
  abbrev key : List ℕ
  key = sum_xor (suc n) keys

  abbrev y : List ℕ
  y = sum_xor (suc n) inverses

  -- ---- AES with its key schedule

  module _ (plaintext ciphertext : List ℕ) (hp : Sized 16 plaintext) where
    abbrev inputs : List ℕ
    inputs = sum_xor (suc n) (λ i. input_shares plaintext (party i (keys i) (inverses i)))

    abbrev output : List ℕ
    output = sum_xor (suc n) (λ i. output_share (party i (keys i) (inverses i)))

    pub products_show_key : ((i : ℕ) → i < suc n → Bytes (inverses i)) → ProductsOne 200 inputs y → output ≡ ciphertext
        → GoodKey plaintext ciphertext key
    products_show_key hy = parties_good (aes_circuit_lem plaintext hp.bytes hp.size) ciphertext n keys inverses hk hy

    pub key_has_products : GoodKey plaintext ciphertext key → Inverted 200 (sbox_inputs key plaintext) y
        → ProductsOne 200 inputs y × (output ≡ ciphertext)
    key_has_products = good_parties (aes_circuit_lem plaintext hp.bytes hp.size) ciphertext n keys inverses hk

  -- ---- the Even-Mansour form under a public AES key

  module _ (aes_key x ciphertext : List ℕ) (ha : Bytes aes_key) (hx : Sized 16 x) where
    abbrev inputs' : List ℕ
    inputs' = sum_xor (suc n) (λ i. even_mansour_input_shares (key_expansion aes_key) x (party i (keys i) (inverses i)))

    abbrev output' : List ℕ
    output' = sum_xor (suc n) (λ i. even_mansour_output_share (key_expansion aes_key) (party i (keys i) (inverses i)))

    pub products_show_even_mansour_key : ((i : ℕ) → i < suc n → Bytes (inverses i)) → ProductsOne 160 inputs' y → output' ≡ ciphertext
        → GoodEvenMansourKey aes_key x ciphertext key
    products_show_even_mansour_key hy =
        parties_good (even_mansour_circuit_lem aes_key x ha hx.bytes hx.size) ciphertext n keys inverses hk hy

    pub even_mansour_key_has_products : GoodEvenMansourKey aes_key x ciphertext key → Inverted 160 (even_mansour_inputs aes_key x key) y
        → ProductsOne 160 inputs' y × (output' ≡ ciphertext)
    even_mansour_key_has_products =
        good_parties (even_mansour_circuit_lem aes_key x ha hx.bytes hx.size) ciphertext n keys inverses hk
