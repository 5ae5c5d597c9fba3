-- A sum of products from two lists; a row's. Assumes nothing.
use mathlib.Core.Path.{◌≡◌, ap, ap₂, ◌∙◌}
use mathlib.Core.List.{List}
use Prim.Native.Nat.{ℕ, ◌+◌, ◌-◌, ◌*◌}
use lib.Bits.{bit_xor}
use lib.ListN.{take, drop}
use Rattle.slices.specs.Lists.{tab, row}
use Rattle.slices.specs.Tab.{length_tab, get_d_tab}
use Rattle.slices.proofs.Rows.{row_cut}
use Rattle.poly.specs.Sum.{sum, sum_cong}
use Rattle.field.specs.Ring.{mul}
use Rattle.field.specs.Wide.{ops}
use Rattle.lagrange.specs.Values.{dot_product}
use Rattle.banquet.specs.declared.Shape.{Shape}
use Rattle.forms.specs.Point.{product_value}

-- the dot product of n values with n others
pub dot_right : (w low n : ℕ) (f g : ℕ → ℕ) {s t : List ℕ} {r : ℕ} → s ≡ tab f n → t ≡ tab g n → r ≡ dot_product w low s t
    → r ≡ sum (ops w low) n (λ j. mul w low (f j) (g j))
unfolding dot_product
dot_right w low n f g p q e =
    e ∙ rw (p, q, length_tab f n) (sum_cong (ops w low) n (λ j l. ap₂ (mul w low) (get_d_tab f n j 0 l) (get_d_tab g n j 0 l)))

-- row k of both, as the code takes them; a share is added
pub row_product : (S : Shape) (first extra us vs : List ℕ) (k last share : ℕ) {r : ℕ}
    → let a = k * S.m1 in
    r ≡ product_value S first extra (take (a + S.m1 - a) (drop a us)) (take (a + S.m1 - a) (drop a vs)) last
    → bit_xor r share ≡ bit_xor (product_value S first extra (row S.m1 k us) (row S.m1 k vs) last) share
row_product S first extra us vs k last share e =
    ap (λ p. bit_xor p share) (e ∙ ap₂ (λ u v. product_value S first extra u v last) (row_cut k S.m1 us) (row_cut k S.m1 vs))
