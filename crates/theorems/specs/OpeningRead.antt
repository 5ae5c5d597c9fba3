-- The transcript of an opening made with a good key is read back. Assumes nothing.
use Rattle.std.specs.Prelude.{◌≡◌, List, [], ◌∷◌, ℕ, suc, ◌*◌, ◌<◌, length, get_or}
use Rattle.std.proofs.Math.Path.{refl, ap}
use Rattle.std.proofs.Common.{◌∙◌, ap₂, mod-eq_of_lt}
use native.Mathlib.Omega.{arith}
use Rattle.slices.specs.Lists.{rows, row}
use Rattle.slices.specs.Bytes.{Sized}
use Rattle.slices.specs.Tab.{length_rows, row_of_rows}
use Rattle.slices.specs.Numbers.{number, bytes_of, number_at, numbers, length_bytes_of, number_bytes_of, length_numbers}
use Rattle.slices.proofs.Numbers.{number_at_numbers_lt}
use Rattle.slices.specs.Layout.{total, field, HasSizes, length_layout}
use Rattle.slices.proofs.Layouts.{field_layout}
use Rattle.banquet.specs.Shape.{transcript_sizes}
use Rattle.banquet.specs.Scheme.{Scheme, Wide}
use Rattle.banquet.specs.Hash.{commitment, tape}
use Rattle.banquet.specs.Key.{front_of, ciphertext_of}
use Rattle.banquet.specs.Execution.{Committed, Challenge, challenge, output_share, opened_c, opened_a, opened_b}
use Rattle.banquet.specs.Signer.{seed_of, tape_of, own_committed, product_offsets}
use Rattle.banquet.specs.Opening.{commitment_of, execution_of, output_of, second_of, challenge_of, tape_under, c_of, a_of, b_of, committed_of, transcript}
use Rattle.banquet.specs.Logic.{◌and◌}
use Rattle.theorems.specs.Laws.{Laws}
use Rattle.theorems.specs.Inputs.{OpenInput}
use Rattle.theorems.specs.Keys.{sized_front}
use Rattle.theorems.specs.Shares.{IsTape, sized_commitment, hashed_tape, Fits, sized_output_share}
use Rattle.theorems.specs.Opened.{WideChallenge, wide_C, wide_A, wide_B}
use Rattle.theorems.specs.Honest.{honest_fits}
use Rattle.theorems.specs.HonestProduct.{honest_wide}

module _ (𝓢 : Scheme) (L : Laws 𝓢) (key public_key salt root first_bytes : List ℕ) (e R hidden : ℕ)
    (input : OpenInput 𝓢 key public_key salt root first_bytes e R hidden) where
  open 𝓢.shape use {parties, depth, wide, m1, m2, front}

  abbrev f : List ℕ
  f = front_of 𝓢 public_key

  abbrev ct : List ℕ
  ct = ciphertext_of 𝓢 public_key

  sf : Sized front f
  sf = sized_front 𝓢 L input.public_sized

  abbrev seed : ℕ → List ℕ
  seed = seed_of 𝓢 salt root e

  abbrev tapes : ℕ → List ℕ
  tapes = tape_of 𝓢 salt root e

  pub ts : (i : ℕ) → i < parties → IsTape 𝓢 L (tapes i)
  ts i l = hashed_tape 𝓢 L salt e i (seed i)

  abbrev x : Committed
  x = own_committed 𝓢 tapes f key

  abbrev offsets : List ℕ
  offsets = product_offsets 𝓢 tapes f key first_bytes

  abbrev d : Challenge
  d = challenge 𝓢 first_bytes offsets R

  fits : Fits 𝓢 L x
  fits = honest_fits 𝓢 L f key ct tapes ts sf input.key_sized input.good

  wd : WideChallenge 𝓢 L d
  wd = honest_wide 𝓢 L f key ct tapes ts sf input.key_sized input.good first_bytes R input.first_sized.bytes input.wide_R

  -- ---- the transcript is read back

  abbrev t : List ℕ
  t = transcript 𝓢 key public_key salt root first_bytes e R

  abbrev c : ℕ → ℕ
  c i = opened_c 𝓢 i (tapes i) d

  abbrev a : ℕ → ℕ → ℕ
  a i = opened_a 𝓢 x i (tapes i) d

  abbrev b : ℕ → ℕ → ℕ
  b i = opened_b 𝓢 x i (tapes i) d

  abbrev fields : List (List ℕ)
  fields =
      salt ∷ (e ∷ []) ∷ rows (λ i. commitment 𝓢 salt e i (seed i)) parties ∷ rows (λ i. output_share 𝓢 x i (tapes i)) parties
      ∷ x.key_offset ∷ x.inverse_offsets ∷ first_bytes ∷ offsets ∷ bytes_of wide R ∷ numbers wide parties c
      ∷ rows (λ i. numbers wide m1 (a i)) parties ∷ rows (λ i. numbers wide m1 (b i)) parties ∷ []

  commitment_size : (i : ℕ) → i < parties → length (commitment 𝓢 salt e i (seed i)) ≡ 32
  commitment_size i l = (sized_commitment 𝓢 L salt e i (seed i)).size

  output_size : (i : ℕ) → i < parties → length (output_share 𝓢 x i (tapes i)) ≡ 16
  output_size i l = (sized_output_share 𝓢 L x fits i (ts i l)).size

  numbers_size : (g : ℕ → ℕ → ℕ) (i : ℕ) → i < parties → length (numbers wide m1 (g i)) ≡ m1 * wide
  numbers_size g i l = length_numbers wide m1 (g i)

  sizes : HasSizes (transcript_sizes 𝓢.shape) fields
  unfolding product_offsets
  sizes =
      input.salt_size and refl and length_rows 32 _ parties commitment_size and length_rows 16 _ parties output_size
      and fits.fits_key.size and fits.fits_inverses.size and input.first_sized.size and length_numbers wide (suc m2) _
      and length_bytes_of wide R and length_numbers wide parties c and length_rows (m1 * wide) _ parties (numbers_size a)
      and length_rows (m1 * wide) _ parties (numbers_size b) and tt

  pub is : (k : ℕ) → field (transcript_sizes 𝓢.shape) k t ≡ get_or fields k []
  unfolding transcript
  is k = field_layout (transcript_sizes 𝓢.shape) fields sizes k

  pub is_e : execution_of 𝓢 t ≡ e
  unfolding number
  is_e = ap number (is 1) ∙ omega arith

  pub is_R : second_of 𝓢 t ≡ R
  is_R = ap number (is 8) ∙ number_bytes_of wide R ∙ mod-eq_of_lt input.wide_R

  pub is_x : committed_of 𝓢 public_key t ≡ x
  is_x = λ i. record { front = f; key_offset = is 4 i; inverse_offsets = is 5 i }

  pub is_d : challenge_of 𝓢 t ≡ d
  is_d = λ i. challenge 𝓢 (is 6 i) (is 7 i) (is_R i)

  pub is_tape : (i : ℕ) → tape_under 𝓢 t i (seed i) ≡ tapes i
  is_tape i = ap₂ (λ (s : List ℕ) (n : ℕ). tape 𝓢 s n i (seed i)) (is 0) is_e

  pub is_commitment : (i : ℕ) → i < parties → commitment_of 𝓢 t i ≡ commitment 𝓢 salt e i (seed i)
  is_commitment i l = ap (row 32 i) (is 2) ∙ row_of_rows 32 (λ i. commitment 𝓢 salt e i (seed i)) parties commitment_size i l

  pub is_output : (i : ℕ) → i < parties → output_of 𝓢 t i ≡ output_share 𝓢 x i (tapes i)
  is_output i l = ap (row 16 i) (is 3) ∙ row_of_rows 16 (λ i. output_share 𝓢 x i (tapes i)) parties output_size i l

  pub is_c : (i : ℕ) → i < parties → c_of 𝓢 t i ≡ c i
  is_c i l = ap (number_at wide i) (is 9) ∙ number_at_numbers_lt wide parties c i l (wide_C 𝓢 L d wd i (ts i l))

  -- number j of row i
  is_number : (g : ℕ → ℕ → ℕ) (i j : ℕ) → i < parties → j < m1 → Wide 𝓢 (g i j)
      → number_at wide j (row (m1 * wide) i (rows (λ i. numbers wide m1 (g i)) parties)) ≡ g i j
  is_number g i j l m h =
      ap (number_at wide j) (row_of_rows (m1 * wide) (λ i. numbers wide m1 (g i)) parties (numbers_size g) i l)
      ∙ number_at_numbers_lt wide m1 (g i) j m h

  pub is_a : (i j : ℕ) → i < parties → j < m1 → a_of 𝓢 t i j ≡ a i j
  is_a i j l m =
      ap (λ (s : List ℕ). number_at wide j (row (m1 * wide) i s)) (is 10) ∙ is_number a i j l m (wide_A 𝓢 L x d wd i (ts i l) j)

  pub is_b : (i j : ℕ) → i < parties → j < m1 → b_of 𝓢 t i j ≡ b i j
  is_b i j l m =
      ap (λ (s : List ℕ). number_at wide j (row (m1 * wide) i s)) (is 11) ∙ is_number b i j l m (wide_B 𝓢 L x d wd i (ts i l) j)

  pub transcript_size : length t ≡ total (transcript_sizes 𝓢.shape)
  unfolding transcript
  transcript_size = length_layout (transcript_sizes 𝓢.shape) fields sizes
