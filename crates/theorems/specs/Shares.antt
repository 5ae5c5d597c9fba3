-- Sums of shares: offsets count once, and the circuit of the sums is the sum of the parties' circuits. Assumes nothing.
use Rattle.std.specs.Prelude.{◌≡◌, ℕ, zero, suc, ◌<◌, get_or}
use Rattle.std.proofs.Common.{sym, ◌∙◌, ap₂, arith, ext_get_or}
use Rattle.std.proofs.Math.Path.{ap}
use mathlib.Core.List.{List}
use Rattle.std.proofs.Math.Decide.{ℕ_discrete}
use Rattle.std.specs.Int.Bits.{bit_xor, xor_zero_r}
use Rattle.std.proofs.lemmas.Nat.{xor_comm}
use Rattle.slices.specs.Lists.{sum_xor, zip_xor}
use Rattle.slices.specs.Bytes.{Bytes, Sized}
use Rattle.slices.specs.Sums.{get_d_zip, sized_zip, sized_sum}
use Rattle.slices.specs.Layout.{total, field_bytes}
use Rattle.slices.proofs.Layouts.{sized_field}
use Rattle.poly.specs.Field.{BinaryField}
use Rattle.poly.specs.Index.{at, at_same, at_other, at_cases}
use Rattle.poly.specs.Sum.{sum, sum_cong, sum_add, sum_at}
use Rattle.circuit.specs.Circuit.{Share, share, party}
use Rattle.circuit.specs.Law.{Linear}
use Rattle.circuit.proofs.Linear.{parties_linear}
use Rattle.banquet.specs.Shape.{sboxes, sbox_at, tape_sizes}
use Rattle.banquet.specs.Scheme.{Scheme, wide_ops, lifted, Wide}
use Rattle.banquet.specs.Hash.{commitment, tape}
use Rattle.banquet.specs.Execution.{
  Committed,
  tape_part,
  tape_key,
  tape_inverses,
  key_share,
  inverse_shares,
  input_shares,
  output_share,
  input_at,
  inverse_at,
}
use Rattle.banquet.specs.Extraction.{given_key, given_inverses, given_inputs, given_input, given_inverse}
use Rattle.theorems.specs.Laws.{Laws}
use Rattle.theorems.specs.Wide.{wide_field, lift_sum, byte_sum}

-- a linear function of shares, of which party 0's has the constants, for any number of parties
linear_sum : {g : Share → List ℕ} → Linear g → (n : ℕ) → 0 < n → (k y : ℕ → List ℕ)
    → sum_xor n (λ i. g (party i (k i) (y i))) ≡ g (share 1 (sum_xor n k) (sum_xor n y))
linear_sum h zero l k y = absurd (omega arith)
linear_sum h (suc n) l k y = sym (parties_linear h n k y)

module _ (𝓢 : Scheme) (L : Laws 𝓢) where
  open 𝓢.shape use {parties, front}

  F : BinaryField (wide_ops 𝓢) (Wide 𝓢)
  F = wide_field 𝓢 L

  -- ---- "Party 0 alone adds offsets": the sum has the offset once

  sized_offset : {size : ℕ} (i : ℕ) {off s : List ℕ} → Sized size off → Sized size s → Sized size (at i 0 (zip_xor s off) s)
  sized_offset {size} i {off} {s} p q = at_cases (Sized size) i 0 (zip_xor s off) s (λ e. sized_zip q p) (λ n. q)

  get_d_offset : (i : ℕ) (off s : List ℕ) (k : ℕ) → get_or (at i 0 (zip_xor s off) s) k 0 ≡ bit_xor (get_or s k 0) (at i 0 (get_or off k 0) 0)
  get_d_offset i off s k = go (ℕ_discrete i 0)
    where
      go : Dec (i ≡ 0) → get_or (at i 0 (zip_xor s off) s) k 0 ≡ bit_xor (get_or s k 0) (at i 0 (get_or off k 0) 0)
      go (yes e) = simp at_same (get_d_zip s off k)
      go (no n) = simp at_other (sym (xor_zero_r (get_or s k 0)))

  pub sum_offset : (size : ℕ) (off : List ℕ) (s : ℕ → List ℕ) → Sized size off → ((i : ℕ) → i < parties → Sized size (s i))
      → sum_xor parties (λ i. at i 0 (zip_xor (s i) off) (s i)) ≡ zip_xor off (sum_xor parties s)
  sum_offset size off s p q =
      ext_get_or 0 _ _
      ((sized_sum parties L.some_party (λ i l. sized_offset i p (q i l))).size ∙ sym (sized_zip p (sized_sum parties L.some_party q)).size)
      (λ k l.
      byte_sum 𝓢 L parties (λ i. at i 0 (zip_xor (s i) off) (s i)) k
      ∙ sum_cong (wide_ops 𝓢) parties (λ i h. get_d_offset i off (s i) k)
      ∙ sum_add F parties (λ i. get_or (s i) k 0) (λ i. at i 0 (get_or off k 0) 0)
      ∙ ap₂ bit_xor (sym (byte_sum 𝓢 L parties s k)) (sum_at F parties 0 (get_or off k 0) L.some_party)
      ∙ xor_comm _ (get_or off k 0) ∙ sym (get_d_zip off (sum_xor parties s) k))

  -- ---- commitments and tapes

  pub sized_commitment : (salt : List ℕ) (e i : ℕ) (seed : List ℕ) → Sized 32 (commitment 𝓢 salt e i seed)
  unfolding commitment
  sized_commitment salt e i seed = L.hash_sized _ 32

  abbrev pub IsTape : List ℕ → Type 0
  IsTape t = Sized (total (tape_sizes 𝓢.shape)) t

  pub hashed_tape : (salt : List ℕ) (e i : ℕ) (seed : List ℕ) → IsTape (tape 𝓢 salt e i seed)
  unfolding tape
  hashed_tape salt e i seed = L.hash_sized _ _

  pub sized_tape_key : {t : List ℕ} → IsTape t → Sized 16 (tape_key 𝓢 t)
  unfolding tape_part
  sized_tape_key h = sized_field (tape_sizes 𝓢.shape) 0 h

  pub sized_tape_inverses : {t : List ℕ} → IsTape t → Sized (sboxes 𝓢.shape) (tape_inverses 𝓢 t)
  unfolding tape_part
  sized_tape_inverses h = sized_field (tape_sizes 𝓢.shape) 1 h

  pub tape_bytes : {t : List ℕ} → IsTape t → (k : ℕ) → Bytes (tape_part 𝓢 k t)
  unfolding tape_part
  tape_bytes {t} h k = field_bytes (tape_sizes 𝓢.shape) k t h.bytes

  -- ---- shares, where what is public has its sizes

  pub record Fits (x : Committed) : Type 0 where
    pub fits_front : Sized front x.front
    pub fits_key : Sized 16 x.key_offset
    pub fits_inverses : Sized (sboxes 𝓢.shape) x.inverse_offsets

  module _ (x : Committed) (fits : Fits x) where
    sized_key_share : (i : ℕ) {t : List ℕ} → IsTape t → Sized 16 (key_share 𝓢 x i t)
    sized_key_share i h = sized_offset i fits.fits_key (sized_tape_key h)

    key_bytes : (i : ℕ) {t : List ℕ} → IsTape t → Bytes (party i (key_share 𝓢 x i t) (inverse_shares 𝓢 x i t)).key
    key_bytes zero h = (sized_key_share 0 h).bytes
    key_bytes (suc i) h = (sized_key_share (suc i) h).bytes

    pub sized_output_share : (i : ℕ) {t : List ℕ} → IsTape t → Sized 16 (output_share 𝓢 x i t)
    unfolding output_share
    sized_output_share i h = (L.circuit fits.fits_front).output_sized _ (key_bytes i h)

    module _ (tapes : ℕ → List ℕ) (ts : (i : ℕ) → i < parties → IsTape (tapes i)) where
      keys : (i : ℕ) → i < parties → Sized 16 (tape_key 𝓢 (tapes i))
      keys i l = sized_tape_key (ts i l)

      inverses : (i : ℕ) → i < parties → Sized (sboxes 𝓢.shape) (tape_inverses 𝓢 (tapes i))
      inverses i l = sized_tape_inverses (ts i l)

      pub sized_given_key : Sized 16 (given_key 𝓢 x tapes)
      unfolding given_key
      sized_given_key = sized_zip fits.fits_key (sized_sum parties L.some_party keys)

      pub sized_given_inverses : Sized (sboxes 𝓢.shape) (given_inverses 𝓢 x tapes)
      unfolding given_inverses
      sized_given_inverses = sized_zip fits.fits_inverses (sized_sum parties L.some_party inverses)

      -- all shares as one
      abbrev pub whole : Share
      whole = share 1 (given_key 𝓢 x tapes) (given_inverses 𝓢 x tapes)

      sum_keys : sum_xor parties (λ i. key_share 𝓢 x i (tapes i)) ≡ given_key 𝓢 x tapes
      unfolding given_key
      sum_keys = sum_offset 16 x.key_offset (λ i. tape_key 𝓢 (tapes i)) fits.fits_key keys

      sum_inverses : sum_xor parties (λ i. inverse_shares 𝓢 x i (tapes i)) ≡ given_inverses 𝓢 x tapes
      unfolding given_inverses
      sum_inverses = sum_offset (sboxes 𝓢.shape) x.inverse_offsets (λ i. tape_inverses 𝓢 (tapes i)) fits.fits_inverses inverses

      sum_shares : {g : Share → List ℕ} → Linear g
          → sum_xor parties (λ i. g (party i (key_share 𝓢 x i (tapes i)) (inverse_shares 𝓢 x i (tapes i)))) ≡ g whole
      sum_shares {g} h =
          linear_sum h parties L.some_party (λ i. key_share 𝓢 x i (tapes i)) (λ i. inverse_shares 𝓢 x i (tapes i))
          ∙ ap₂ (λ (k y : List ℕ). g (share 1 k y)) sum_keys sum_inverses

      pub sum_inputs : given_inputs 𝓢 x tapes ≡ 𝓢.circuit.input_shares x.front whole
      unfolding given_inputs input_shares
      sum_inputs = sum_shares (L.circuit fits.fits_front).inputs_linear

      pub sum_outputs : sum_xor parties (λ i. output_share 𝓢 x i (tapes i)) ≡ 𝓢.circuit.output_share x.front whole
      unfolding output_share
      sum_outputs = sum_shares (L.circuit fits.fits_front).output_linear

      -- ---- sums of lifted shares are lifts of the sums

      lifted_sum : (f : ℕ → List ℕ) (l : ℕ) → sum (wide_ops 𝓢) parties (λ i. lifted 𝓢 (get_or (f i) l 0)) ≡ lifted 𝓢 (get_or (sum_xor parties f) l 0)
      lifted_sum f l = sym (lift_sum 𝓢 L parties _) ∙ ap (lifted 𝓢) (sym (byte_sum 𝓢 L parties f l))

      pub total_inputs : (j k : ℕ) → sum (wide_ops 𝓢) parties (λ i. input_at 𝓢 x i (tapes i) j k) ≡ given_input 𝓢 x tapes j k
      unfolding input_at given_inputs
      total_inputs j k = lifted_sum (λ i. input_shares 𝓢 x i (tapes i)) _

      pub total_inverses : (j k : ℕ) → sum (wide_ops 𝓢) parties (λ i. inverse_at 𝓢 x i (tapes i) j k) ≡ given_inverse 𝓢 x tapes j k
      unfolding inverse_at
      total_inverses j k =
          lifted_sum (λ i. inverse_shares 𝓢 x i (tapes i)) _ ∙ ap (λ (s : List ℕ). lifted 𝓢 (get_or s (sbox_at 𝓢.shape j k) 0)) sum_inverses
