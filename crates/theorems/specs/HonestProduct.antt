-- An execution that the holder of a good key runs, under challenges: the opened sums pass the product check. Assumes nothing.
use Rattle.std.specs.Prelude.{◌≡◌, List, ltb}
use Rattle.std.proofs.Common.{sym, ◌∙◌, ap₂, lt-ltb, le-ltb}
use Rattle.std.proofs.Math.Path.{ap}
use Prim.Native.Nat.{ℕ, suc, ◌+◌, ◌-◌, ◌*◌, ◌≤◌, ◌<◌}
use native.Mathlib.Omega.{arith}
use Rattle.std.proofs.Math.Decide.{dec_lt}
use Rattle.std.specs.Int.Bits.{bit_xor, xor_comm}
use Rattle.std.proofs.lemmas.Nat.{xor_lt}
use Rattle.slices.specs.Bytes.{Bytes, Sized}
use Rattle.slices.specs.Xor.{xor_cancel}
use Rattle.slices.specs.Numbers.{number_at, numbers_bytes}
use Rattle.slices.proofs.Numbers.{number_at_numbers_lt}
use Rattle.poly.specs.Field.{BinaryField}
use Rattle.poly.specs.Index.{at}
use Rattle.poly.specs.Sum.{sum, sum_cong, sum_mul, sum_at, sum_choose, sum_each, elem_sum}
use Rattle.poly.specs.Lagrange.{lagrange, eval_interpolate}
use Rattle.poly.specs.Balance.{values_s, values_t, values_p, products, Values}
use Rattle.poly.proofs.ProductCheck.{values, product_complete}
use Rattle.banquet.specs.Scheme.{Scheme, GoodKey, wide_ops, wide_mul, Wide}
use Rattle.banquet.specs.Execution.{Committed, Challenge, challenge, tape_product, product_at, opened_c, opened_a, opened_b}
use Rattle.banquet.specs.Signer.{
  own_committed,
  true_input,
  true_inverse,
  true_extra_s,
  true_extra_t,
  true_p,
  product_offset_at,
  product_offsets,
}
use Rattle.theorems.specs.Laws.{Laws}
use Rattle.theorems.specs.Wide.{wide_field, wide_points, wide_number}
use Rattle.theorems.specs.Shares.{IsTape, tape_bytes}
use Rattle.theorems.specs.Opened.{WideChallenge, sum_through, sum_product_offset}
use Rattle.theorems.specs.Honest.{honest_inputs, honest_inverses, honest_ones}

module _ (𝓢 : Scheme) (L : Laws 𝓢) (f key ct : List ℕ) (tapes : ℕ → List ℕ) (ts : (i : ℕ) → i < 𝓢.shape.parties → IsTape 𝓢 L (tapes i))
    (sf : Sized 𝓢.shape.front f) (sk : Sized 16 key) (g : GoodKey 𝓢 f ct key) where
  open 𝓢.shape use {parties, wide, m1, m2}

  F : BinaryField (wide_ops 𝓢) (Wide 𝓢)
  F = wide_field 𝓢 L

  abbrev x : Committed
  x = own_committed 𝓢 tapes f key

  module _ (first_bytes : List ℕ) (R : ℕ) (first_bytes_lem : Bytes first_bytes) (wide_R : Wide 𝓢 R) where
    abbrev r : ℕ → ℕ
    r j = number_at wide j first_bytes

    abbrev S : ℕ → ℕ → ℕ
    S = values_s (wide_ops 𝓢) m2 r (true_input 𝓢 f key) (true_extra_s 𝓢 tapes)

    abbrev T : ℕ → ℕ → ℕ
    T = values_t m2 (true_inverse 𝓢 f key) (true_extra_t 𝓢 tapes)

    abbrev P : ℕ → ℕ
    P = true_p 𝓢 tapes f key first_bytes

    abbrev d : Challenge
    d = challenge 𝓢 first_bytes (product_offsets 𝓢 tapes f key first_bytes) R

    pub honest_wide : WideChallenge 𝓢 L d
    unfolding product_offsets
    honest_wide = record {
      wide_first = λ j. wide_number 𝓢 L j first_bytes_lem;
      wide_offset = λ k. wide_number 𝓢 L _ (numbers_bytes wide (suc m2) _);
      wide_second = wide_R;
    }

    wide_P : (u : ℕ) → Wide 𝓢 (P u)
    wide_P u = elem_sum F m1 _ (λ j l. L.field.ring.lt _ _)

    wide_tapes : (k : ℕ) → Wide 𝓢 (sum (wide_ops 𝓢) parties (λ i. tape_product 𝓢 (tapes i) k))
    wide_tapes k = elem_sum F parties _ (λ i l. wide_number 𝓢 L _ (tape_bytes 𝓢 L (ts i l) 3))

    offset_at : (k : ℕ) → m2 ≤ k → k < suc (2 * m2) → d.product_offset k ≡ bit_xor (P k) (sum (wide_ops 𝓢) parties (λ i. tape_product 𝓢 (tapes i) k))
    unfolding product_offsets product_offset_at
    offset_at k h l =
        number_at_numbers_lt wide (suc m2) (λ n. product_offset_at 𝓢 tapes f key first_bytes (m2 + n)) (k - m2) (omega arith)
        (xor_lt (8 * wide) _ _ (wide_P _) (wide_tapes _))
        ∙ ap (product_offset_at 𝓢 tapes f key first_bytes) same
      where
        same : m2 + (k - m2) ≡ k
        same = omega arith

    pub sum_products : (k : ℕ) → m2 ≤ k → k < suc (2 * m2) → sum (wide_ops 𝓢) parties (λ i. product_at 𝓢 i (tapes i) d k) ≡ P k
    unfolding product_at
    sum_products k h l =
        let q : ℕ = sum (wide_ops 𝓢) parties (λ i. tape_product 𝓢 (tapes i) k) in
        sum_product_offset 𝓢 L (λ i. tape_product 𝓢 (tapes i) k) (d.product_offset k) ∙ ap (bit_xor q) (offset_at k h l ∙ xor_comm (P k) q)
        ∙ xor_cancel q (P k)

    pub sum_c : sum (wide_ops 𝓢) parties (λ i. opened_c 𝓢 i (tapes i) d)
        ≡ lagrange (wide_ops 𝓢) (λ k. k) (suc (2 * m2)) (values_p m2 (sum (wide_ops 𝓢) m1 r) P) R
    unfolding opened_c
    sum_c = sum_through 𝓢 L (suc (2 * m2)) _ _ R (λ k l. go k l (dec_lt k m2))
      where
        go : (k : ℕ) → k < suc (2 * m2) → Dec (k < m2)
            → sum (wide_ops 𝓢) parties (λ i. values_p m2 (at i 0 (sum (wide_ops 𝓢) m1 r) 0) (product_at 𝓢 i (tapes i) d) k)
            ≡ values_p m2 (sum (wide_ops 𝓢) m1 r) P k
        go k l (yes h) =
            sum_choose (wide_ops 𝓢) (ltb k m2) parties _ _ ∙ rw (lt-ltb k m2 h) (sum_at F parties 0 (sum (wide_ops 𝓢) m1 r) L.some_party)
        go k l (no h) = sum_choose (wide_ops 𝓢) (ltb k m2) parties _ _ ∙ rw (le-ltb k m2 (omega arith)) (sum_products k (omega arith) l)

    pub sum_a : (j : ℕ) → sum (wide_ops 𝓢) parties (λ i. opened_a 𝓢 x i (tapes i) d j) ≡ lagrange (wide_ops 𝓢) (λ k. k) (suc m2) (S j) R
    unfolding opened_a
    sum_a j =
        sum_through 𝓢 L (suc m2) (S j) _ R
        (λ k l. sum_each (wide_ops 𝓢) k m2 parties _ _ ∙ ap (at k m2 _)
        (sum_mul F parties (r j) _ ∙ ap (wide_mul 𝓢 (r j)) (honest_inputs 𝓢 L f key ct tapes ts sf sk g j k)))

    pub sum_b : (j : ℕ) → sum (wide_ops 𝓢) parties (λ i. opened_b 𝓢 x i (tapes i) d j) ≡ lagrange (wide_ops 𝓢) (λ k. k) (suc m2) (T j) R
    unfolding opened_b
    sum_b j =
        sum_through 𝓢 L (suc m2) (T j) _ R
        (λ k l. sum_each (wide_ops 𝓢) k m2 parties _ _ ∙ ap (at k m2 _) (honest_inverses 𝓢 L f key ct tapes ts sf sk g j k))

    vs : Values (wide_ops 𝓢) (Wide 𝓢) m1 m2 r (true_input 𝓢 f key) (true_inverse 𝓢 f key) S T
        (values_p m2 (sum (wide_ops 𝓢) m1 r) P)
    vs =
        values F m1 m2 r _ _ _ _ P (λ j l. wide_number 𝓢 L j first_bytes_lem) (λ j k l h. L.embedding.lt _) (λ j k l h. L.embedding.lt _)
        (λ j l. elem_sum F parties _ (λ i h. wide_number 𝓢 L _ (tape_bytes 𝓢 L (ts i h) 2)))
        (λ j l. elem_sum F parties _ (λ i h. wide_number 𝓢 L _ (tape_bytes 𝓢 L (ts i h) 2))) (λ k l h. wide_P k)

    P-products : (u : ℕ) → P u ≡ products (wide_ops 𝓢) m1 m2 (λ k. k) S T u
    P-products u =
        sum_cong (wide_ops 𝓢) m1
        (λ j l. ap₂ (wide_mul 𝓢) (eval_interpolate F (λ k. k) (suc m2) (S j) u) (eval_interpolate F (λ k. k) (suc m2) (T j) u))

    pub honest_product : sum (wide_ops 𝓢) parties (λ i. opened_c 𝓢 i (tapes i) d)
        ≡ sum (wide_ops 𝓢) m1 (λ j.
        wide_mul 𝓢 (sum (wide_ops 𝓢) parties (λ i. opened_a 𝓢 x i (tapes i) d j)) (sum (wide_ops 𝓢) parties (λ i. opened_b 𝓢 x i (tapes i) d j)))
    honest_product =
        sum_c ∙ product_complete F m1 m2 (wide_points 𝓢 L) vs (honest_ones 𝓢 L f key ct tapes ts sf sk g)
        (λ k h l. rw (le-ltb k m2 h) (P-products k)) R
        ∙ sym (sum_cong (wide_ops 𝓢) m1 (λ j l. ap₂ (wide_mul 𝓢) (sum_a j) (sum_b j)))
