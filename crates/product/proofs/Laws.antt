-- The product check, from the numbers that are loaded. Assumes nothing.
use mathlib.Core.Path.{◌≡◌, ap, ap₂, ◌∙◌}
use mathlib.Core.List.{List}
use Prim.Native.Nat.{ℕ, ◌*◌}
use native.Mathlib.Omega.{arith}
use lib.Dec.{eqb}
use lib.ListN.{length}
use lib.Seq.{take_all}
use Rattle.slices.specs.Lists.{tab, part}
use Rattle.slices.specs.Tab.{length_tab, get_d_tab}
use Rattle.slices.specs.Numbers.{number, number_at}
use Rattle.poly.specs.Sum.{sum, sum_cong}
use Rattle.field.specs.Ring.{mul}
use Rattle.lagrange.specs.Values.{dot_product}
use Rattle.banquet.specs.declared.Shape.{Shape}
use Rattle.banquet.specs.Scheme.{wide_ops}
use Rattle.banquet.specs.Sets.{scheme_of}
use Rattle.sets.specs.Valid.{Valid}
use Rattle.forms.specs.Sums.{bytes_product_holds}

module _ {S : Shape} (v : Valid S) where
  open S use {wide, low, m1}

  dot_sum : (s t : List ℕ) {a b : List ℕ} → a ≡ tab (λ k. number_at wide k s) m1 → b ≡ tab (λ k. number_at wide k t) m1
      → dot_product (8 * wide) low a b
      ≡ sum (wide_ops (scheme_of S)) m1 (λ j. mul (8 * wide) low (number_at wide j s) (number_at wide j t))
  unfolding dot_product
  dot_sum s t {a} {b} e f =
      let n : length a ≡ m1 = ap length e ∙ length_tab _ m1 in
      rw (n, e, f)
      (sum_cong (wide_ops (scheme_of S)) m1
      (λ j l. ap₂ (mul (8 * wide) low) (get_d_tab (λ k. number_at wide k s) m1 j 0 l) (get_d_tab (λ k. number_at wide k t) m1 j 0 l)))

  pub product_right : (c a b : List ℕ) {x y : List ℕ} {n d k k' : ℕ} → length c ≡ wide → n ≡ number (part 0 wide c) → k ≡ m1 → k' ≡ m1
      → x ≡ tab (λ k. number_at wide k a) k → y ≡ tab (λ k. number_at wide k b) k' → d ≡ dot_product (8 * wide) low x y
      → eqb n d ≡ bytes_product_holds S c a b
  unfolding bytes_product_holds
  product_right c a b h n e e' f g d =
      ap₂ eqb (n ∙ ap number (take_all wide c (omega (arith, h))))
      (d ∙ dot_sum a b (f ∙ ap (tab (λ k. number_at wide k a)) e) (g ∙ ap (tab (λ k. number_at wide k b)) e'))
