-- Demand 3: two accepted openings of one execution that hide different parties. Assumes nothing.
use Rattle.std.specs.Prelude.{◌≡◌, ◌≢◌, ◌⊎◌, ℕ, suc, ◌+◌, ◌*◌, ◌<◌}
use Rattle.std.proofs.Math.Path.{sym}
use Rattle.std.proofs.Common.{◌∙◌, subst, subst₂, inl, inr, ⊎_elim, arith, length-take}
use mathlib.Core.List.{List, List-discrete}
use Rattle.std.proofs.Math.Decide.{ℕ_discrete}
use Rattle.std.specs.Int.Bits.{xor_lt}
use Rattle.slices.specs.Lists.{sum_xor}
use Rattle.slices.specs.Bytes.{Bytes, Sized, take_bytes}
use Rattle.slices.specs.Sums.{sum_xor_cong}
use Rattle.slices.specs.Numbers.{number_lt}
use Rattle.slices.specs.Layout.{total, field, field_bytes, length_field_le}
use Rattle.slices.proofs.Layouts.{sized_field}
use Rattle.poly.specs.Field.{BinaryField}
use Rattle.poly.specs.Index.{clash_or_merged, at_cases}
use Rattle.poly.specs.Lagrange.{eval_interpolate}
use Rattle.poly.specs.Sum.{sum}
use Rattle.poly.specs.Balance.{AllOne, OneChallenge, FewRoots, values_s, values_t, values_p, check_poly}
use Rattle.poly.specs.Parties.{Execution, totals}
use Rattle.poly.proofs.Parties.{execution_check}
use Rattle.banquet.specs.Shape.{transcript_sizes, public_key_length}
use Rattle.banquet.specs.Scheme.{Scheme, wide_ops, Wide}
use Rattle.banquet.specs.Execution.{
  Committed,
  Challenge,
  tape_s,
  tape_t,
  output_share,
  input_at,
  inverse_at,
  product_at,
  opened_c,
  opened_a,
  opened_b,
}
use Rattle.banquet.specs.Key.{ciphertext_of}
use Rattle.banquet.specs.Opening.{transcript_of, hidden_of, salt_of, execution_of, challenge_of, tape_under, c_of, a_of, b_of, committed_of}
use Rattle.banquet.specs.Figures.{Figures, figures_of}
use Rattle.banquet.specs.Extraction.{
  given_input,
  given_s,
  given_t,
  given_inverse,
  given_product,
  shown,
}
use Rattle.theorems.specs.Demand3.{key, GoodOrSoundnessError, Demand3}
use Rattle.theorems.specs.Laws.{Laws}
use Rattle.theorems.specs.Wide.{wide_field, wide_points, wide_number}
use Rattle.theorems.specs.Shares.{IsTape, hashed_tape, tape_bytes, Fits, sized_given_key, total_inputs, total_inverses}
use Rattle.theorems.specs.Keys.{sized_front}
use Rattle.theorems.specs.GoodGiven.{key_good}
use Rattle.banquet.specs.OpeningChecks.{PartyHolds, TranscriptHolds, OpeningHolds}
use Rattle.banquet.proofs.OpeningChecks.{opening_holds}

module _ (𝓢 : Scheme) (L : Laws 𝓢) where
  open 𝓢.shape use {parties, wide, m1, m2}

  abbrev figures : Figures
  figures = figures_of 𝓢.shape

  F : BinaryField (wide_ops 𝓢) (Wide 𝓢)
  F = wide_field 𝓢 L

  -- ---- one transcript t, and a seed for every party with which what is stated holds

  module _ (public_key t : List ℕ) (key_sized : Sized (public_key_length 𝓢.shape) public_key) (sized : Sized (total (transcript_sizes 𝓢.shape)) t)
    where
      abbrev x : Committed
      x = committed_of 𝓢 public_key t

      abbrev d : Challenge
      d = challenge_of 𝓢 t

      part_bytes : (k : ℕ) → Bytes (field (transcript_sizes 𝓢.shape) k t)
      part_bytes k = field_bytes (transcript_sizes 𝓢.shape) k t sized.bytes

      wide_second : Wide 𝓢 d.second
      wide_second = number_lt _ wide (part_bytes 8) (length_field_le (transcript_sizes 𝓢.shape) 8 t)

      fits : Fits 𝓢 L x
      fits = record {
        fits_front = sized_front 𝓢 L key_sized;
        fits_key = sized_field (transcript_sizes 𝓢.shape) 4 sized;
        fits_inverses = sized_field (transcript_sizes 𝓢.shape) 5 sized;
      }

      module _ (seed : ℕ → List ℕ) (holds : (i : ℕ) → i < parties → PartyHolds 𝓢 figures public_key t i (seed i)) {h : ℕ} {seeds : ℕ → List ℕ}
          (o : TranscriptHolds 𝓢 figures public_key t h seeds) where
        abbrev tapes : ℕ → List ℕ
        tapes i = tape_under 𝓢 t i (seed i)

        ts : (i : ℕ) → IsTape 𝓢 L (tapes i)
        ts i = hashed_tape 𝓢 L (salt_of 𝓢 t) (execution_of 𝓢 t) i (seed i)

        abbrev X : ℕ → ℕ → ℕ → ℕ
        X i = input_at 𝓢 x i (tapes i)

        abbrev Y : ℕ → ℕ → ℕ → ℕ
        Y i = inverse_at 𝓢 x i (tapes i)

        execution : Execution (wide_ops 𝓢) (Wide 𝓢) (λ k. k) parties m1 m2 d.first X Y
            (λ i. tape_s 𝓢 (tapes i)) (λ i. tape_t 𝓢 (tapes i)) (λ i. product_at 𝓢 i (tapes i) d) d.second (c_of 𝓢 t) (a_of 𝓢 t) (b_of 𝓢 t)
        unfolding input_at inverse_at product_at opened_c opened_a opened_b
        execution = record {
          elem_r = λ j l. wide_number 𝓢 L j (part_bytes 6);
          elem_X = λ i j k l m n. L.embedding.lt _;
          elem_Y = λ i j k l m n. L.embedding.lt _;
          elem_s = λ i j l m. wide_number 𝓢 L (2 * j) (tape_bytes 𝓢 L (ts i) 2);
          elem_t = λ i j l m. wide_number 𝓢 L (2 * j + 1) (tape_bytes 𝓢 L (ts i) 2);
          elem_v = λ i k l m n. at_cases (Wide 𝓢) i 0 _ _
              (λ e. xor_lt (8 * wide) _ _ (wide_number 𝓢 L _ (tape_bytes 𝓢 L (ts i) 3)) (wide_number 𝓢 L _ (part_bytes 7)))
              (λ e. wide_number 𝓢 L _ (tape_bytes 𝓢 L (ts i) 3));
          c_is = λ i l. sym (holds i l).opens_c ∙ eval_interpolate F (λ k. k) (suc (2 * m2)) _ d.second;
          a_is = λ i j l m. sym ((holds i l).opens_a j m) ∙ eval_interpolate F (λ k. k) (suc m2) _ d.second;
          b_is = λ i j l m. sym ((holds i l).opens_b j m) ∙ eval_interpolate F (λ k. k) (suc m2) _ d.second;
          passes = o.product;
        }

        -- the sums of lifted shares are the lifted sums
        sums_X : totals (wide_ops 𝓢) parties X ≡ given_input 𝓢 x tapes
        sums_X = λ i j k. total_inputs 𝓢 L x fits tapes (λ i l. ts i) j k i

        sums_Y : totals (wide_ops 𝓢) parties Y ≡ given_inverse 𝓢 x tapes
        sums_Y = λ i j k. total_inverses 𝓢 L x fits tapes (λ i l. ts i) j k i

        -- "That key is then good, or one of two things holds"
        good_or_soundness_error : GoodOrSoundnessError 𝓢 public_key t seed figures
        good_or_soundness_error = ⊎_elim (λ ones. inl (key_good 𝓢 L x fits tapes (λ i l. ts i) (ciphertext_of 𝓢 public_key) outputs ones)) inr checked
          where
            outputs : sum_xor parties (λ i. output_share 𝓢 x i (tapes i)) ≡ ciphertext_of 𝓢 public_key
            outputs = sum_xor_cong parties (λ i l. (holds i l).outputs) ∙ o.ciphertext

            -- all products of inputs u and inverses v are one, or a soundness error
            Passed : (ℕ → ℕ → ℕ) → (ℕ → ℕ → ℕ) → Type 0
            Passed u v =
                AllOne (wide_ops 𝓢) m1 m2 u v
                ⊎ (OneChallenge (wide_ops 𝓢) (Wide 𝓢) m1 m2 d.first u v
                ⊎ FewRoots (wide_ops 𝓢) (Wide 𝓢) m2
                (check_poly (wide_ops 𝓢) m1 m2 (λ k. k) (values_s (wide_ops 𝓢) m2 d.first u (given_s 𝓢 tapes))
                (values_t m2 v (given_t 𝓢 tapes))
                (values_p m2 (sum (wide_ops 𝓢) m1 d.first) (given_product 𝓢 tapes d)))
                d.second)

            checked : Passed (given_input 𝓢 x tapes) (given_inverse 𝓢 x tapes)
            checked =
                subst₂ (λ (u v : ℕ → ℕ → ℕ). Passed u v) sums_X sums_Y
                (execution_check F parties m1 m2 execution L.some_party (wide_points 𝓢 L) wide_second)

        -- "these seeds and the key offset give one key", of 16 bytes
        one_key : Sized 16 (key 𝓢 public_key t seed) × GoodOrSoundnessError 𝓢 public_key t seed figures
        one_key = (sized_given_key 𝓢 L x fits tapes (λ i l. ts i), good_or_soundness_error)

  -- ---- two openings

  proved : Demand3 𝓢 figures
  proved public_key o o' work work' kb ob acc acc' agree ne =
      ⊎_elim (λ (i, l, p, q, u, r, s). inl (i, l, p, q, u, r.commits ∙ sym s.commits))
      (λ (seed, holds, r, s). inr (seed, (λ i l. (r i l, s i l)), one_key public_key t key_sized sized seed holds a.transcript_holds))
      (clash_or_merged (List-discrete ℕ_discrete) (PartyHolds 𝓢 figures public_key t) parties (hidden_of 𝓢 o) (hidden_of 𝓢 o') ne (shown 𝓢 figures o) (shown 𝓢 figures o')
      a.transcript_holds.party
      (subst (λ (u : List ℕ). (i : ℕ) → i < parties → i ≢ hidden_of 𝓢 o' → PartyHolds 𝓢 figures public_key u i (shown 𝓢 figures o' i)) (sym agree)
      b.transcript_holds.party))
    where
      t : List ℕ
      t = transcript_of 𝓢 o

      a : OpeningHolds 𝓢 figures public_key o work
      a = opening_holds 𝓢 public_key o work acc

      b : OpeningHolds 𝓢 figures public_key o' work'
      b = opening_holds 𝓢 public_key o' work' acc'

      key_sized : Sized (public_key_length 𝓢.shape) public_key
      key_sized = record { size = a.key_size; bytes = kb }

      sized : Sized (total (transcript_sizes 𝓢.shape)) t
      sized = record { size = rw length-take (let e = a.size in omega arith); bytes = take_bytes (total (transcript_sizes 𝓢.shape)) o ob }

  pub demand_3 : {F : Figures} → figures ≡ F → Demand3 𝓢 F
  demand_3 are = subst (Demand3 𝓢) are proved
