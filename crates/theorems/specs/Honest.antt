-- An execution that the holder of a good key runs: the shares add up to the key, its S-box inputs, their inverses and the ciphertext. Assumes
-- nothing.
use Rattle.std.specs.Prelude.{◌≡◌, List, ℕ, suc, ◌+◌, ◌*◌, ◌<◌, get_or}
use Rattle.std.proofs.Common.{sym, ◌∙◌, ap, ap₂, mul_comm, arith}
use Rattle.std.proofs.Math.Arith.{digits_lt}
use Rattle.std.proofs.lemmas.List.{length-map}
use Rattle.slices.specs.Lists.{sum_xor}
use Rattle.slices.specs.Bytes.{Sized}
use Rattle.slices.specs.Sums.{sized_zip, sized_sum, zip_undo}
use Rattle.field.specs.Field.{inverse_lt}
use Rattle.field.specs.Byte.{mul8, inverse8, field8}
use Rattle.poly.specs.Sum.{sum}
use Rattle.poly.specs.Balance.{AllOne}
use Rattle.circuit.specs.Circuit.{share}
use Rattle.circuit.proofs.Sound.{map_inverted}
use Rattle.banquet.specs.Shape.{sboxes, sbox_at}
use Rattle.banquet.specs.Scheme.{Scheme, GoodKey, true_inverses, wide_ops, lifted}
use Rattle.banquet.specs.Execution.{Committed, tape_key, tape_inverses, output_share, input_at, inverse_at}
use Rattle.banquet.specs.Signer.{own_committed, true_input, true_inverse}
use Rattle.banquet.specs.Extraction.{given_key, given_inverses, given_inputs}
use Rattle.theorems.specs.Laws.{Laws}
use Rattle.theorems.specs.Shares.{IsTape, Fits, sized_tape_key, sized_tape_inverses, sum_inputs, sum_outputs, total_inputs, total_inverses}
use Rattle.theorems.specs.Keys.{sized_sbox_inputs}

module _ (𝓢 : Scheme) (L : Laws 𝓢) (f key ct : List ℕ) (tapes : ℕ → List ℕ) (ts : (i : ℕ) → i < 𝓢.shape.parties → IsTape 𝓢 L (tapes i))
    (sf : Sized 𝓢.shape.front f) (sk : Sized 16 key) (g : GoodKey 𝓢 f ct key) where
  open 𝓢.shape use {parties, wide, m1, m2}

  -- the true inputs and inverses
  abbrev U : List ℕ
  U = 𝓢.circuit.sbox_inputs f key

  abbrev W : List ℕ
  W = true_inverses 𝓢 f key

  abbrev x : Committed
  x = own_committed 𝓢 tapes f key

  sized_U : Sized (sboxes 𝓢.shape) U
  sized_U = sized_sbox_inputs 𝓢 L sf sk.bytes

  get_d_W : (l : ℕ) → l < sboxes 𝓢.shape → get_or W l 0 ≡ inverse8 (get_or U l 0)
  get_d_W = map_inverted (sboxes 𝓢.shape) U

  sized_W : Sized (sboxes 𝓢.shape) W
  sized_W = record {
    size = length-map U inverse8 ∙ sized_U.size;
    bytes = record { lt = λ k. rw (map_inverted (suc k) U k (omega arith)) (inverse_lt 8 mul8 field8 (get_or U k 0)) };
  }

  keys : Sized 16 (sum_xor parties (λ i. tape_key 𝓢 (tapes i)))
  keys = sized_sum parties L.some_party (λ i l. sized_tape_key 𝓢 L (ts i l))

  inverses : Sized (sboxes 𝓢.shape) (sum_xor parties (λ i. tape_inverses 𝓢 (tapes i)))
  inverses = sized_sum parties L.some_party (λ i l. sized_tape_inverses 𝓢 L (ts i l))

  pub honest_fits : Fits 𝓢 L x
  honest_fits = record { fits_front = sf; fits_key = sized_zip sk keys; fits_inverses = sized_zip sized_W inverses }

  -- ---- what the shares add up to

  pub given_key_lem : given_key 𝓢 x tapes ≡ key
  unfolding given_key
  given_key_lem = zip_undo sk keys

  pub given_inverses_lem : given_inverses 𝓢 x tapes ≡ W
  unfolding given_inverses
  given_inverses_lem = zip_undo sized_W inverses

  -- the circuit of the key and its true inverses is the cipher
  inputs_true : 𝓢.circuit.input_shares f (share 1 key W) ≡ U
  inputs_true = ((L.circuit sf).true_inverses_lem key W get_d_W).same_inputs

  output_true : 𝓢.circuit.output_share f (share 1 key W) ≡ 𝓢.circuit.encrypt f key
  output_true = ((L.circuit sf).true_inverses_lem key W get_d_W).same_output

  pub honest_outputs : sum_xor parties (λ i. output_share 𝓢 x i (tapes i)) ≡ ct
  honest_outputs =
      sum_outputs 𝓢 L x honest_fits tapes ts
      ∙ ap₂ (λ (k y : List ℕ). 𝓢.circuit.output_share f (share 1 k y)) given_key_lem given_inverses_lem ∙ output_true ∙ g.encrypts

  pub given_inputs_lem : given_inputs 𝓢 x tapes ≡ U
  given_inputs_lem =
      sum_inputs 𝓢 L x honest_fits tapes ts
      ∙ ap₂ (λ (k y : List ℕ). 𝓢.circuit.input_shares f (share 1 k y)) given_key_lem given_inverses_lem ∙ inputs_true

  pub honest_inputs : (j k : ℕ) → sum (wide_ops 𝓢) parties (λ i. input_at 𝓢 x i (tapes i) j k) ≡ true_input 𝓢 f key j k
  honest_inputs j k =
      total_inputs 𝓢 L x honest_fits tapes ts j k ∙ ap (λ (s : List ℕ). lifted 𝓢 (get_or s (sbox_at 𝓢.shape j k) 0)) given_inputs_lem

  pub honest_inverses : (j k : ℕ) → sum (wide_ops 𝓢) parties (λ i. inverse_at 𝓢 x i (tapes i) j k) ≡ true_inverse 𝓢 f key j k
  honest_inverses j k =
      total_inverses 𝓢 L x honest_fits tapes ts j k ∙ ap (λ (s : List ℕ). lifted 𝓢 (get_or s (sbox_at 𝓢.shape j k) 0)) given_inverses_lem

  -- every product of a lifted input and its lifted inverse is one
  pub honest_ones : AllOne (wide_ops 𝓢) m1 m2 (true_input 𝓢 f key) (true_inverse 𝓢 f key)
  honest_ones j k hj hk =
      sym (L.embedding.muls (get_or U l 0) (get_or W l 0)) ∙ ap (lifted 𝓢) (ap (mul8 (get_or U l 0)) (get_d_W l below) ∙ inverse_right) ∙ L.embedding.one
    where
      l : ℕ
      l = j + m1 * k

      below : l < m1 * m2
      below =
          let h : k * m1 + j < m2 * m1 = digits_lt hk hj in
          let p : m1 * k ≡ k * m1 = mul_comm m1 k in
          let q : m1 * m2 ≡ m2 * m1 = mul_comm m1 m2 in
          omega arith

      inverse_right : mul8 (get_or U l 0) (inverse8 (get_or U l 0)) ≡ 1
      inverse_right = field8.ring.comm (get_or U l 0) _ ∙ field8.inverse_mul (get_or U l 0) (sized_U.bytes.lt l) (g.no_zero l below)
