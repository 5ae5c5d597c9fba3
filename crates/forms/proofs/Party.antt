-- Where the numbers in hand are right (specs/Party), so is a party's row. Assumes nothing.
use Rattle.std.specs.Prelude.{◌≡◌, refl}
use Rattle.std.proofs.Math.Path.{sym, ap, ap₂}
use Rattle.std.proofs.Common.{◌∙◌}
use mathlib.Core.List.{List, ◌++◌}
use Prim.Native.Nat.{ℕ, suc, ◌+◌, ◌-◌, ◌*◌, ◌<◌}
use native.Mathlib.Omega.{arith}
use Rattle.std.proofs.Math.Decide.{ℕ_discrete}
use Rattle.std.specs.Int.Bits.{bit_xor}
use Rattle.std.proofs.lemmas.Nat.{xor_comm}
use Rattle.std.proofs.Math.ListN.{get_or}
use Rattle.slices.specs.Tab.{get_d_tab, rows_cong}
use Rattle.slices.specs.Bytes.{Bytes}
use Rattle.slices.specs.Numbers.{bytes_of, number_at}
use Rattle.poly.specs.Field.{BinaryField, mul_comm, zero_mul}
use Rattle.poly.specs.Index.{at, at_same, at_other}
use Rattle.poly.specs.Sum.{sum, sum_cong}
use Rattle.field.specs.Ring.{mul}
use Rattle.lagrange.specs.Values.{dot_product}
use Rattle.banquet.specs.declared.Shape.{Shape}
use Rattle.banquet.specs.Scheme.{wide_ops, Wide}
use Rattle.banquet.specs.Sets.{scheme_of}
use Rattle.banquet.specs.Execution.{
  Committed,
  Challenge,
  challenge,
  tape_part,
  tape_s,
  tape_t,
  inverse_shares,
  input_shares,
  output_share,
  input_at,
  inverse_at,
  product_at,
  opened_c,
  opened_a,
  opened_b,
}
use Rattle.theorems.specs.Wide.{wide_field}
use Rattle.sets.specs.Valid.{Valid}
use Rattle.sets.specs.Laws.{laws}
use Rattle.forms.specs.Point.{near, far, row_at, value_s, value_t, sum_xor_lem}
use Rattle.forms.specs.Values.{tabled_row_lem, S-value, T-value, P-value}
use Rattle.forms.specs.Linear.{number_at_zip}
use Rattle.forms.specs.Party.{share_row, own, own_products, worked_c, worked_a, worked_b, worked_row, Right}

module _ {S : Shape} (v : Valid S) (first_bytes product_offsets : List ℕ) (R : ℕ) (h : Wide (scheme_of S) R) where
  open S use {wide, low, m1, m2}

  abbrev d : Challenge
  d = challenge (scheme_of S) first_bytes product_offsets R

  F : BinaryField (wide_ops (scheme_of S)) (Wide (scheme_of S))
  F = wide_field (scheme_of S) (laws v)

  module _ {first fars : List ℕ} {given : ℕ} {tables : List ℕ} {last : ℕ} (g : Right v first_bytes product_offsets R h first fars given tables last) where
    last_twenty : last ≡ near S R m2
    last_twenty = g.last_is ∙ ap (near S R) (sym v.twenty)

    module _ (x : Committed) (i : ℕ) (t : List ℕ) where
      A-right : (j : ℕ) → j < m1 → Bytes (input_shares (scheme_of S) x i t)
          → worked_a S first tables last t (input_shares (scheme_of S) x i t) j ≡ opened_a (scheme_of S) x i t d j
      unfolding worked_a opened_a input_at
      A-right j l b =
          ap₂ (λ r u. value_s S r u (tape_s (scheme_of S) t j) last)
          (ap (λ s. get_or s j 0) g.first_is ∙ get_d_tab (λ j. number_at wide j first_bytes) m1 j 0 l) (tabled_row_lem v R b g.tables_is j)
          ∙ ap (value_s S (d.first j) (row_at S (input_shares (scheme_of S) x i t) j R) (tape_s (scheme_of S) t j)) last_twenty
          ∙ sym (S-value v R h (input_shares (scheme_of S) x i t) j d.first (tape_s (scheme_of S) t))

      B-right : (j : ℕ) → Bytes (inverse_shares (scheme_of S) x i t)
          → worked_b S first tables last t (inverse_shares (scheme_of S) x i t) j ≡ opened_b (scheme_of S) x i t d j
      unfolding worked_b opened_b inverse_at
      B-right j b =
          ap₂ (λ u z. value_t S u (tape_t (scheme_of S) t j) z) (tabled_row_lem v R b g.tables_is j) last_twenty
          ∙ sym (T-value v R h (inverse_shares (scheme_of S) x i t) j (tape_t (scheme_of S) t))

      module _ (p : Bytes (tape_part (scheme_of S) 3 t)) (q : Bytes product_offsets) where
        -- the product share at point 20 + n
        product_right : (n : ℕ)
            → number_at wide n (own i (tape_part (scheme_of S) 3 t) product_offsets) ≡ product_at (scheme_of S) i t d (m2 + n)
        unfolding product_at
        product_right n = go (ℕ_discrete i 0)
          where
            back : m2 + n - m2 ≡ n
            back = omega arith

            go : Dec (i ≡ 0) → number_at wide n (own i (tape_part (scheme_of S) 3 t) product_offsets)
                ≡ at i 0 (bit_xor (number_at wide (m2 + n - m2) (tape_part (scheme_of S) 3 t)) (number_at wide (m2 + n - m2) product_offsets))
                (number_at wide (m2 + n - m2) (tape_part (scheme_of S) 3 t))
            go (yes e) = rw back (simp at_same (number_at_zip wide n p q))
            go (no ne) = rw back (simp at_other refl)

        -- the points from 20 on
        dot_right : dot_product (8 * wide) low (own_products S product_offsets i t) fars
            ≡ sum (wide_ops (scheme_of S)) (suc m2) (λ n. mul (8 * wide) low (product_at (scheme_of S) i t d (m2 + n)) (far S R (m2 + n)))
        unfolding dot_product
        dot_right =
            sum_cong (wide_ops (scheme_of S)) 21
            (λ n l. ap₂ (mul (8 * wide) low)
            (get_d_tab (λ n. number_at wide n (own i (tape_part (scheme_of S) 3 t) product_offsets)) 21 n 0 l ∙ product_right n)
            (ap (λ s. get_or s n 0) g.far_is ∙ get_d_tab (λ n. far S R (20 + n)) 21 n 0 l ∙ ap (λ m. far S R (m + n)) (sym v.twenty)))
            ∙ ap (λ m. sum (wide_ops (scheme_of S)) (suc m)
            (λ n. mul (8 * wide) low (product_at (scheme_of S) i t d (m2 + n)) (far S R (m2 + n)))) (sym v.twenty)

        -- the public ones, of party 0
        given_right : given ≡ mul (8 * wide) low (sum (wide_ops (scheme_of S)) m1 d.first) (sum (wide_ops (scheme_of S)) m2 (far S R))
        given_right =
            g.given_is ∙ mul_comm F _ _
            ∙ ap₂ (mul (8 * wide) low)
            (sym (sum_xor_lem (8 * wide) low m1 d.first))
            (sym (sum_xor_lem (8 * wide) low 20 (far S R)) ∙ ap (λ m. sum (wide_ops (scheme_of S)) m (far S R)) (sym v.twenty))

        C-right : worked_c S product_offsets fars given i t ≡ opened_c (scheme_of S) i t d
        unfolding worked_c opened_c
        C-right = go (ℕ_discrete i 0)
          where
            dots : ℕ
            dots = sum (wide_ops (scheme_of S)) (suc m2) (λ n. mul (8 * wide) low (product_at (scheme_of S) i t d (m2 + n)) (far S R (m2 + n)))

            public : ℕ → ℕ
            public a = mul (8 * wide) low a (sum (wide_ops (scheme_of S)) m2 (far S R))

            go : Dec (i ≡ 0) → worked_c S product_offsets fars given i t ≡ opened_c (scheme_of S) i t d
            go (yes e) =
                at_same i 0 _ _ e ∙ ap₂ bit_xor dot_right given_right ∙ xor_comm dots (public (sum (wide_ops (scheme_of S)) m1 d.first))
                ∙ ap (λ a. bit_xor (public a) dots) (sym (at_same i 0 (sum (wide_ops (scheme_of S)) m1 d.first) 0 e))
                ∙ sym (P-value v R h (at i 0 (sum (wide_ops (scheme_of S)) m1 d.first) 0) (product_at (scheme_of S) i t d))
            go (no n) =
                at_other i 0 _ _ n ∙ dot_right ∙ ap (λ z. bit_xor z dots) (sym (zero_mul F _))
                ∙ ap (λ a. bit_xor (public a) dots) (sym (at_other i 0 (sum (wide_ops (scheme_of S)) m1 d.first) 0 n))
                ∙ sym (P-value v R h (at i 0 (sum (wide_ops (scheme_of S)) m1 d.first) 0) (product_at (scheme_of S) i t d))

        pub row_right : Bytes (input_shares (scheme_of S) x i t) → Bytes (inverse_shares (scheme_of S) x i t)
            → worked_row S x product_offsets first fars given tables last i t ≡ share_row (scheme_of S) x d i t
        unfolding worked_row share_row
        row_right b b' =
            ap (output_share (scheme_of S) x i t ++◌)
            (ap₂ ◌++◌ (ap (bytes_of wide) C-right)
            (ap₂ ◌++◌ (rows_cong m1 (λ j l. ap (bytes_of wide) (A-right j l b))) (rows_cong m1 (λ j l. ap (bytes_of wide) (B-right j b')))))
