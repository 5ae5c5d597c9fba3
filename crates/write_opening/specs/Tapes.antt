-- Offsets look at the tapes of the parties only. Assumes nothing.
use Rattle.std.specs.Prelude.{◌≡◌, List, ℕ, suc, ◌+◌, ◌<◌}
use Rattle.std.proofs.Math.Path.{ap, ap₂, fun_ext}
use Rattle.std.specs.Int.Bits.{bit_xor}
use Rattle.slices.specs.Lists.{zip_xor}
use Rattle.slices.specs.Tab.{rows_cong}
use Rattle.slices.specs.Sums.{sum_xor_cong}
use Rattle.slices.specs.Numbers.{bytes_of, number_at}
use Rattle.poly.specs.Sum.{sum, sum_cong}
use Rattle.poly.specs.Balance.{values_s, values_t}
use Rattle.banquet.specs.Shape.{product_points}
use Rattle.banquet.specs.Scheme.{Scheme, wide_ops, wide_mul, true_inverses}
use Rattle.banquet.specs.Execution.{through, tape_key, tape_inverses, tape_s, tape_t, tape_product}
use Rattle.banquet.specs.Signer.{own_committed, true_input, true_inverse, true_extra_s, true_extra_t, true_p, product_offset_at, product_offsets}

module _ (𝓢 : Scheme) {t t' : ℕ → List ℕ} (same : (i : ℕ) → i < 𝓢.shape.parties → t i ≡ t' i) (front key : List ℕ) where
  open 𝓢.shape use {parties, wide, m1, m2}

  pub key_cong : (own_committed 𝓢 t front key).key_offset ≡ (own_committed 𝓢 t' front key).key_offset
  key_cong = ap (zip_xor key) (sum_xor_cong parties (λ i l. ap (tape_key 𝓢) (same i l)))

  pub inverses_cong : (own_committed 𝓢 t front key).inverse_offsets ≡ (own_committed 𝓢 t' front key).inverse_offsets
  inverses_cong = ap (zip_xor (true_inverses 𝓢 front key)) (sum_xor_cong parties (λ i l. ap (tape_inverses 𝓢) (same i l)))

  -- ---- the product offsets

  extra_S : true_extra_s 𝓢 t ≡ true_extra_s 𝓢 t'
  extra_S = fun_ext (λ j. sum_cong (wide_ops 𝓢) parties (λ i l. ap (λ s. tape_s 𝓢 s j) (same i l)))

  extra_T : true_extra_t 𝓢 t ≡ true_extra_t 𝓢 t'
  extra_T = fun_ext (λ j. sum_cong (wide_ops 𝓢) parties (λ i l. ap (λ s. tape_t 𝓢 s j) (same i l)))

  module _ (first_bytes : List ℕ) where
    -- the true P at u, from the extra points
    abbrev P : ℕ → (ℕ → ℕ) → (ℕ → ℕ) → ℕ
    P u a b =
        sum (wide_ops 𝓢) m1
        (λ j. wide_mul 𝓢 (through 𝓢 (suc m2) (values_s (wide_ops 𝓢) m2 (λ j. number_at wide j first_bytes) (true_input 𝓢 front key) a j) u)
        (through 𝓢 (suc m2) (values_t m2 (true_inverse 𝓢 front key) b j) u))

    P-cong : (u : ℕ) → true_p 𝓢 t front key first_bytes u ≡ true_p 𝓢 t' front key first_bytes u
    P-cong u = ap₂ (P u) extra_S extra_T

    at_cong : (u : ℕ) → product_offset_at 𝓢 t front key first_bytes u ≡ product_offset_at 𝓢 t' front key first_bytes u
    unfolding product_offset_at
    at_cong u = ap₂ bit_xor (P-cong u) (sum_cong (wide_ops 𝓢) parties (λ i l. ap (λ s. tape_product 𝓢 s u) (same i l)))

    pub offsets_cong : product_offsets 𝓢 t front key first_bytes ≡ product_offsets 𝓢 t' front key first_bytes
    unfolding product_offsets
    offsets_cong = rows_cong (product_points 𝓢.shape) (λ n l. ap (bytes_of wide) (at_cong (m2 + n)))
