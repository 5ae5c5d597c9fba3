-- Numbers 11 and 12 are passed exactly by good keys, and a key that a public key was made from is good for it. Assumes nothing.
use Rattle.std.specs.Prelude.{◌≡◌, ◌≢◌, length, get_or}
use Rattle.std.proofs.Math.Path.{refl, sym, ap₂, subst₂}
use Rattle.std.proofs.Common.{◌∙◌, subst, length-take, take_at, drop_at, arith}
use mathlib.Core.List.{List}
use Prim.Native.Nat.{ℕ, ◌+◌, ◌<◌}
use borrow.Author.Tests.{eqb-true, eq-eqb}
use Rattle.std.proofs.Math.ListN.{length-append}
use Rattle.slices.specs.Bytes.{Bytes, Sized, take_bytes}
use Rattle.slices.specs.Compare.{same_eq, same_refl}
use Rattle.aes.proofs.Zero.{first_zero_none, first_zero_length}
use Rattle.circuit.proofs.Sound.{map_inverted}
use Rattle.circuit.specs.Circuit.{share}
use Rattle.banquet.specs.Answer.{Answer, accepted}
use Rattle.banquet.specs.Shape.{sboxes, public_key_length}
use Rattle.banquet.specs.Scheme.{Scheme, GoodKey, true_inverses}
use Rattle.banquet.specs.Key.{front_of, ciphertext_of, public_key_of, check_inputs, check_key}
use Rattle.banquet.specs.Calls.{public_key_tests, public_key_answer}
use Rattle.theorems.specs.Laws.{Laws}
use Rattle.banquet.proofs.Refusals.{require_split, require_join, all_pass}

module _ (𝓢 : Scheme) (L : Laws 𝓢) where
  -- the S-box inputs of a key are as many bytes as there are S-boxes
  pub sized_sbox_inputs : {f key : List ℕ} → Sized 𝓢.shape.front f → Bytes key → Sized (sboxes 𝓢.shape) (𝓢.circuit.sbox_inputs f key)
  sized_sbox_inputs {f} {key} sf kb =
      subst (Sized (sboxes 𝓢.shape))
      ((L.circuit sf).true_inverses_lem key (true_inverses 𝓢 f key) (map_inverted _ (𝓢.circuit.sbox_inputs f key))).same_inputs
      ((L.circuit sf).inputs_sized (share 1 key (true_inverses 𝓢 f key)) kb)

  sized_encrypt : {f key : List ℕ} → Sized 𝓢.shape.front f → Bytes key → Sized 16 (𝓢.circuit.encrypt f key)
  sized_encrypt {f} {key} sf kb =
      subst (Sized 16) ((L.circuit sf).true_inverses_lem key (true_inverses 𝓢 f key) (map_inverted _ (𝓢.circuit.sbox_inputs f key))).same_output
      ((L.circuit sf).output_sized (share 1 key (true_inverses 𝓢 f key)) kb)

  pub sized_front : {public_key : List ℕ} → Sized (public_key_length 𝓢.shape) public_key → Sized 𝓢.shape.front (front_of 𝓢 public_key)
  sized_front {public_key} h = record {
    size = rw length-take (let e = h.size in omega arith);
    bytes = take_bytes 𝓢.shape.front public_key h.bytes;
  }

  module _ {f key : List ℕ} (sf : Sized 𝓢.shape.front f) (kb : Bytes key) (rest : Answer) where
    abbrev inputs : List ℕ
    inputs = 𝓢.circuit.sbox_inputs f key

    size : length inputs ≡ sboxes 𝓢.shape
    size = (sized_sbox_inputs sf kb).size

    pub inputs_split : check_inputs 𝓢 f key rest ≡ accepted → ((l : ℕ) → l < sboxes 𝓢.shape → get_or inputs l 0 ≢ 0) × (rest ≡ accepted)
    unfolding check_inputs
    inputs_split acc =
        let a = require_split _ _ _ acc in
        (λ l h. first_zero_none inputs (eqb-true _ _ a.0 ∙ sym size) l (subst (λ (n : ℕ). l < n) (sym size) h), a.1)

    pub inputs_join : ((l : ℕ) → l < sboxes 𝓢.shape → get_or inputs l 0 ≢ 0) → rest ≡ accepted → check_inputs 𝓢 f key rest ≡ accepted
    unfolding check_inputs
    inputs_join n e =
        require_join _ _ _ (eq-eqb _ _ (first_zero_length inputs (λ l h. n l (subst (λ (m : ℕ). l < m) size h)) ∙ size)) e

  module _ {public_key key : List ℕ} (sp : Sized (public_key_length 𝓢.shape) public_key) (kb : Bytes key) (rest : Answer) where
    pub key_split : check_key 𝓢 public_key key rest ≡ accepted → GoodKey 𝓢 (front_of 𝓢 public_key) (ciphertext_of 𝓢 public_key) key × (rest ≡ accepted)
    unfolding check_key
    key_split acc =
        let a = inputs_split (sized_front sp) kb _ acc in
        let b = require_split _ _ _ a.1 in
        (record { no_zero = a.0; encrypts = same_eq _ _ b.0 }, b.1)

    pub key_join : GoodKey 𝓢 (front_of 𝓢 public_key) (ciphertext_of 𝓢 public_key) key → rest ≡ accepted → check_key 𝓢 public_key key rest ≡ accepted
    unfolding check_key
    key_join g e = inputs_join (sized_front sp) kb _ g.no_zero (require_join _ _ _ (same_refl _ _ g.encrypts) e)

  module _ (key plaintext output : List ℕ) (kb : Bytes key) (pb : Bytes plaintext) (acc : public_key_answer 𝓢 key plaintext output ≡ accepted) where
    accepts : Sized 𝓢.shape.front plaintext × (check_inputs 𝓢 plaintext key accepted ≡ accepted)
    unfolding public_key_answer
    accepts =
        let lengths = all_pass (public_key_tests 𝓢.shape (length key) (length plaintext) (length output)) _ acc in
        (record { size = eqb-true _ _ (lengths.0 1); bytes = pb }, lengths.1)

    pub public_key_of_size : length (public_key_of 𝓢 key plaintext) ≡ public_key_length 𝓢.shape
    unfolding public_key_of
    public_key_of_size = length-append plaintext _ ∙ ap₂ ◌+◌ accepts.0.size (sized_encrypt accepts.0 kb).size

    -- A key that a public key was made from is good for it.
    pub made_key_good : GoodKey 𝓢 (front_of 𝓢 (public_key_of 𝓢 key plaintext)) (ciphertext_of 𝓢 (public_key_of 𝓢 key plaintext)) key
    unfolding public_key_of
    made_key_good =
        let size = accepts.0.size in
        subst₂ (λ (f t : List ℕ). GoodKey 𝓢 f t key) (sym (take_at plaintext _ _ size)) (sym (drop_at plaintext _ _ size))
        (record { no_zero = (inputs_split accepts.0 kb accepted accepts.1).0; encrypts = refl })
