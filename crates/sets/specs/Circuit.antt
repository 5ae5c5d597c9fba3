-- What the engine asks of the circuit: sizes and bytes of what it gives, and which one a valid parameter set has. Besides this file `Laws`, the test of
-- the key and the walk through the circuit alone know that it is AES's. Assumes nothing.
use Rattle.std.specs.Prelude.{◌≡◌, Bool, true, false, List, ℕ, zero, suc, ◌*◌, eqb, length, take}
use Rattle.std.proofs.Common.{sym, ap, ap₂, ◌∙◌}
use Rattle.std.proofs.lemmas.List.{length-map}
use Rattle.slices.specs.Lists.{choose}
use Rattle.slices.specs.Bytes.{Bytes}
use Rattle.slices.specs.Sums.{zip_bytes}
use Rattle.poly.specs.Index.{at_cases}
use Rattle.field.specs.Byte.{inverse8}
use Rattle.aes.specs.Aes.{key_expansion}
use Rattle.aes.proofs.Sizes.{length_sbox_inputs}
use Rattle.circuit.specs.Circuit.{Share, party}
use Rattle.circuit.proofs.Sizes.{length_output_share, length_even_mansour_output_share, output_share_bytes, even_mansour_output_share_bytes}
use Rattle.banquet.specs.declared.Shape.{Shape}
use Rattle.banquet.specs.Shape.{sboxes}
use Rattle.banquet.specs.Scheme.{Circuit, true_inverses}
use Rattle.banquet.specs.Sets.{aes_circuit, even_mansour_circuit, circuit_of, scheme_of}
use Rattle.banquet.specs.Execution.{Committed, tape_key, key_share, inverse_shares, output_share}
use Rattle.sets.specs.Valid.{Valid}

-- ---- a party's share of the output, by either circuit

module _ (f : List ℕ) (s : Share) where
  sixteen : (test : Bool) → length ((choose test aes_circuit even_mansour_circuit).output_share f s) ≡ 16
  sixteen true = length_output_share s
  sixteen false = length_even_mansour_output_share (key_expansion (take 16 f)) s

  gives_bytes : Bytes s.key → (test : Bool) → Bytes ((choose test aes_circuit even_mansour_circuit).output_share f s)
  gives_bytes h true = output_share_bytes s h
  gives_bytes h false = even_mansour_output_share_bytes s h (key_expansion (take 16 f))

module _ (S : Shape) (x : Committed) (i : ℕ) (t : List ℕ) where
  abbrev k : List ℕ
  k = key_share (scheme_of S) x i t

  abbrev y : List ℕ
  y = inverse_shares (scheme_of S) x i t

  pub output_long : length (output_share (scheme_of S) x i t) ≡ 16
  unfolding output_share
  output_long = sixteen x.front (party i k y) (eqb S.front 16)

  carried : (i : ℕ) → Bytes k → Bytes (party i k y).key
  carried zero h = h
  carried (suc i) h = h

  -- it is bytes where the key's offset is
  pub output_bytes : Bytes x.key_offset → Bytes (tape_key (scheme_of S) t) → Bytes (output_share (scheme_of S) x i t)
  unfolding output_share
  output_bytes p q =
      gives_bytes x.front (party i k y) (carried i (at_cases Bytes i 0 _ _ (λ e. zip_bytes q p) (λ n. q))) (eqb S.front 16)

-- ---- a valid set's is AES's

module _ {S : Shape} (v : Valid S) where
  pub circuit_is : circuit_of S.front ≡ aes_circuit
  circuit_is = ap circuit_of v.plaintext

  pub sboxes_200 : sboxes S ≡ 200
  sboxes_200 = ap₂ ◌*◌ (v.aes v.plaintext) v.twenty

  -- the S-boxes' inputs and their inverses are as many as the S-boxes
  pub all_inputs : (front key : List ℕ) → length ((scheme_of S).circuit.sbox_inputs front key) ≡ sboxes S
  all_inputs front key =
      ap (λ (c : Circuit). length (c.sbox_inputs front key)) circuit_is ∙ length_sbox_inputs key front ∙ sym sboxes_200

  pub all_inverses : (front key : List ℕ) → length (true_inverses (scheme_of S) front key) ≡ sboxes S
  all_inverses front key = length-map ((scheme_of S).circuit.sbox_inputs front key) inverse8 ∙ all_inputs front key
