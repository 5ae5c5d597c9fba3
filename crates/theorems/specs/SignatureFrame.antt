-- One execution of a signature made with a good key: its frame is read back. Assumes nothing.
use Rattle.std.specs.Prelude.{◌≡◌, List, [], ◌∷◌, ℕ, suc, ◌<◌, length, get_or}
use Rattle.std.proofs.Common.{sym, ◌∙◌, ap, ap₂, mod-eq_of_lt}
use Rattle.slices.specs.Bytes.{Bytes, Sized}
use Rattle.slices.specs.Numbers.{number, bytes_of, number_at, numbers, length_bytes_of, bytes_of_bytes, number_bytes_of, length_numbers, numbers_bytes}
use Rattle.slices.proofs.Numbers.{number_at_numbers_lt}
use Rattle.slices.specs.Layout.{total, HasSizes, length_layout, layout_bytes}
use Rattle.slices.proofs.Layouts.{field_layout}
use Rattle.poly.specs.Sum.{sum, sum_cong, elem_sum}
use Rattle.banquet.specs.Shape.{frame_sizes}
use Rattle.banquet.specs.Scheme.{Scheme, wide_ops, wide_mul}
use Rattle.banquet.specs.Hash.{commitment}
use Rattle.banquet.specs.Tree.{sibling_seeds}
use Rattle.banquet.specs.Key.{front_of, ciphertext_of}
use Rattle.banquet.specs.Execution.{Committed, Challenge}
use Rattle.banquet.specs.Signer.{product_offsets}
use Rattle.banquet.specs.Signature.{
  root_of,
  signer_committed,
  signer_seed,
  signer_tape,
  signer_h1,
  signer_offsets,
  signer_h2,
  signer_challenge,
  signer_c,
  signer_a,
  signer_b,
  signer_h3,
  signer_hidden,
  signer_frame,
  frame_part,
  frame_c,
  frame_a,
  frame_b,
}
use Rattle.banquet.specs.Logic.{◌and◌}
use Rattle.theorems.specs.Laws.{Laws}
use Rattle.theorems.specs.Inputs.{SignInput}
use Rattle.theorems.specs.Keys.{sized_front}
use Rattle.theorems.specs.Wide.{wide_field}
use Rattle.theorems.specs.Shares.{IsTape, sized_commitment, hashed_tape, Fits}
use Rattle.theorems.specs.Seeds.{length_sibling_seeds, sibling_seeds_bytes}
use Rattle.theorems.specs.Opened.{WideChallenge, wide_C, wide_A, wide_B}
use Rattle.theorems.specs.Honest.{honest_fits}
use Rattle.theorems.specs.HonestProduct.{honest_wide, honest_product}
use Rattle.theorems.specs.Recomputed.{first_challenge_bytes, wide_second_challenge}

module _ (𝓢 : Scheme) (L : Laws 𝓢) (key public_key message salt seeds : List ℕ) (input : SignInput 𝓢 key public_key message salt seeds) where
  open 𝓢.shape use {parties, executions, depth, wide, m1, m2, front}

  abbrev f : List ℕ
  f = front_of 𝓢 public_key

  abbrev ct : List ℕ
  ct = ciphertext_of 𝓢 public_key

  sf : Sized front f
  sf = sized_front 𝓢 L input.public_sized

  abbrev h1 : List ℕ
  h1 = signer_h1 𝓢 key public_key message salt seeds

  abbrev h2 : List ℕ
  h2 = signer_h2 𝓢 key public_key message salt seeds

  abbrev h3 : List ℕ
  h3 = signer_h3 𝓢 key public_key message salt seeds

  abbrev frame : ℕ → List ℕ
  frame = signer_frame 𝓢 key public_key message salt seeds

  module _ (e : ℕ) where
    abbrev x : Committed
    x = signer_committed 𝓢 key public_key salt seeds e

    abbrev d : Challenge
    d = signer_challenge 𝓢 key public_key message salt seeds e

    abbrev seed : ℕ → List ℕ
    seed = signer_seed 𝓢 salt seeds e

    abbrev tapes : ℕ → List ℕ
    tapes = signer_tape 𝓢 salt seeds e

    pub ts : (i : ℕ) → i < parties → IsTape 𝓢 L (tapes i)
    ts i l = hashed_tape 𝓢 L salt e i (seed i)

    abbrev hidden : ℕ
    hidden = signer_hidden 𝓢 key public_key message salt seeds e

    abbrev C : ℕ
    C = signer_c 𝓢 key public_key message salt seeds e

    abbrev A : ℕ → ℕ
    A = signer_a 𝓢 key public_key message salt seeds e

    abbrev B : ℕ → ℕ
    B = signer_b 𝓢 key public_key message salt seeds e

    pub fits : Fits 𝓢 L x
    fits = honest_fits 𝓢 L f key ct tapes ts sf input.key_sized input.good

    wd : WideChallenge 𝓢 L d
    unfolding signer_offsets
    wd =
        honest_wide 𝓢 L f key ct tapes ts sf input.key_sized input.good _ _ (first_challenge_bytes 𝓢 L h1 e) (wide_second_challenge 𝓢 L h2 e)

    product : C ≡ sum (wide_ops 𝓢) m1 (λ j. wide_mul 𝓢 (A j) (B j))
    unfolding signer_offsets
    product =
        honest_product 𝓢 L f key ct tapes ts sf input.key_sized input.good _ _ (first_challenge_bytes 𝓢 L h1 e) (wide_second_challenge 𝓢 L h2 e)

    abbrev fields : List (List ℕ)
    fields =
        sibling_seeds 𝓢.hash salt e depth 0 (root_of seeds e) hidden ∷ commitment 𝓢 salt e hidden (seed hidden) ∷ x.key_offset ∷ x.inverse_offsets
        ∷ signer_offsets 𝓢 key public_key message salt seeds e ∷ bytes_of wide C ∷ numbers wide m1 A ∷ numbers wide m1 B ∷ []

    sizes : HasSizes (frame_sizes 𝓢.shape) fields
    unfolding signer_offsets product_offsets
    sizes =
        length_sibling_seeds 𝓢.hash L.hash_sized salt e depth 0 _ hidden and (sized_commitment 𝓢 L salt e hidden _).size
        and fits.fits_key.size and fits.fits_inverses.size and length_numbers wide (suc m2) _ and length_bytes_of wide C
        and length_numbers wide m1 A and length_numbers wide m1 B and tt

    pub frame_size : length (frame e) ≡ total (frame_sizes 𝓢.shape)
    unfolding signer_frame
    frame_size = length_layout (frame_sizes 𝓢.shape) fields sizes

    pub frame_bytes : Bytes (frame e)
    unfolding signer_frame signer_offsets product_offsets
    frame_bytes =
        layout_bytes fields
        (sibling_seeds_bytes 𝓢.hash L.hash_sized salt e depth 0 _ hidden and (sized_commitment 𝓢 L salt e hidden _).bytes
        and fits.fits_key.bytes and fits.fits_inverses.bytes and numbers_bytes wide (suc m2) _ and bytes_of_bytes wide C
        and numbers_bytes wide m1 A and numbers_bytes wide m1 B and tt)

    pub is : (k : ℕ) → frame_part 𝓢 (frame e) k ≡ get_or fields k []
    unfolding signer_frame
    is k = field_layout (frame_sizes 𝓢.shape) fields sizes k

    pub is_C : frame_c 𝓢 (frame e) ≡ C
    is_C = ap number (is 5) ∙ number_bytes_of wide C ∙ mod-eq_of_lt (elem_sum (wide_field 𝓢 L) parties _ (λ i l. wide_C 𝓢 L d wd i (ts i l)))

    pub is_A : (j : ℕ) → j < m1 → frame_a 𝓢 (frame e) j ≡ A j
    is_A j l =
        ap (number_at wide j) (is 6) ∙ number_at_numbers_lt wide m1 A j l (elem_sum (wide_field 𝓢 L) parties _ (λ i m. wide_A 𝓢 L x d wd i (ts i m) j))

    pub is_B : (j : ℕ) → j < m1 → frame_b 𝓢 (frame e) j ≡ B j
    is_B j l =
        ap (number_at wide j) (is 7) ∙ number_at_numbers_lt wide m1 B j l (elem_sum (wide_field 𝓢 L) parties _ (λ i m. wide_B 𝓢 L x d wd i (ts i m) j))

    pub holds : frame_c 𝓢 (frame e) ≡ sum (wide_ops 𝓢) m1 (λ j. wide_mul 𝓢 (frame_a 𝓢 (frame e) j) (frame_b 𝓢 (frame e) j))
    holds = is_C ∙ product ∙ sym (sum_cong (wide_ops 𝓢) m1 (λ j l. ap₂ (wide_mul 𝓢) (is_A j l) (is_B j l)))
