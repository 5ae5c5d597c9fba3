-- The Even-Mansour form is another circuit of the same rounds: where the inverses are right, it is the cipher. Assumes nothing.
use Rattle.std.specs.Prelude.{◌≡◌, refl, ℕ, ◌+◌, ◌*◌, ◌<◌, length}
use Rattle.std.proofs.Math.Path.{ap, ap₂}
use Rattle.std.proofs.Common.{◌∙◌, arith}
use mathlib.Core.List.{List}
use Rattle.std.proofs.Math.ListN.{get_or}
use Rattle.slices.specs.Lists.{rows}
use Rattle.slices.specs.Tab.{get_d_rows, rows_cong}
use Rattle.slices.specs.Bytes.{Bytes}
use Rattle.aes.specs.Aes.{add, sbox, key_expansion, entering, aes, even_mansour, even_mansour_inputs}
use Rattle.aes.proofs.Sizes.{length_entering, length_key_expansion, key_expansion_bytes}
use Rattle.circuit.specs.Circuit.{
  share,
  public,
  sbox_outputs,
  entering_share,
  cipher_share,
  even_mansour_input_shares,
  even_mansour_output_share,
  Inverted,
}
use Rattle.circuit.proofs.Sizes.{
  length_entering_share,
  length_even_mansour_input_shares,
  length_even_mansour_output_share,
  even_mansour_input_shares_bytes,
  even_mansour_output_share_bytes,
}
use Rattle.circuit.proofs.Linear.{even_mansour_input_shares_linear, even_mansour_output_share_linear}
use Rattle.circuit.specs.Law.{IsEvenMansour, IsCircuit}
use Rattle.circuit.proofs.Agree.{public_one, outputs_true, entering_agree, cipher_agree}

module _ (aes_key x : List ℕ) (ha : Bytes aes_key) (hx : Bytes x) (size : length x ≡ 16) where
  abbrev w : List ℕ
  w = key_expansion aes_key

  we : public 1 176 w ≡ w
  we = public_one (key_expansion_bytes ha) (length_key_expansion aes_key)

  module _ (key y : List ℕ) where
    abbrev z : List ℕ
    z = sbox_outputs 160 1 y

    pe : add 16 (public 1 16 x) key ≡ add 16 x key
    pe = ap (λ (u : List ℕ). add 16 u key) (public_one hx size)

    is_even_mansour : (E : ℕ → List ℕ)
        → ((n : ℕ) → entering_share w (add 16 x key) z n ≡ entering w (add 16 x key) n → E n ≡ entering w (add 16 x key) n)
        → ((n : ℕ) → length (E n) ≡ 16) → Inverted 160 (rows E 10) y → IsEvenMansour aes_key x key y
    unfolding even_mansour_input_shares even_mansour_inputs even_mansour_output_share even_mansour aes
    is_even_mansour E ε s h =
        let states : (n b : ℕ) → n < 10 → b < 16 → get_or z (n * 16 + b) 0 ≡ sbox (get_or (E n) b 0) =
        λ n b l m. outputs_true 160 (rows E 10) y h (n * 16 + b) (omega arith) ∙ ap sbox (get_d_rows 16 E 10 (λ j h. s j) n b l m) in
        record {
          same_inputs = ap₂ (λ (u p : List ℕ). rows (entering_share u p z) 10) we pe
              ∙ rows_cong 10 (entering_agree w (add 16 x key) z E ε states);
          same_output = ap (λ (u : List ℕ). add 16 u key)
              (ap (λ (u : List ℕ). cipher_share u z) we ∙ cipher_agree w (add 16 x key) z E ε states);
        }

    own : Inverted 160 (even_mansour_input_shares w x (share 1 key y)) y → IsEvenMansour aes_key x key y
    unfolding even_mansour_input_shares
    own =
        is_even_mansour (entering_share (public 1 176 w) (add 16 (public 1 16 x) key) z)
        (λ n e. ap₂ (λ (u p : List ℕ). entering_share u p z n) we pe ∙ e) (length_entering_share _ _ _)

    true : Inverted 160 (even_mansour_inputs aes_key x key) y → IsEvenMansour aes_key x key y
    unfolding even_mansour_inputs
    true = is_even_mansour (entering w (add 16 x key)) (λ n e. refl) (length_entering w (add 16 x key))

  pub even_mansour_circuit_lem :
      IsCircuit 160 (even_mansour_inputs aes_key x) (even_mansour aes_key x) (even_mansour_input_shares w x) (even_mansour_output_share w)
  even_mansour_circuit_lem =
      record {
        inputs_linear = even_mansour_input_shares_linear w x;
        output_linear = even_mansour_output_share_linear w;
        inputs_sized = λ s h. record { size = length_even_mansour_input_shares w x s; bytes = even_mansour_input_shares_bytes s h w x };
        output_sized = λ s h. record { size = length_even_mansour_output_share w s; bytes = even_mansour_output_share_bytes s h w };
        own_inverses = own;
        true_inverses_lem = true;
      }
