-- A row's fields, and the end of the check case by case. Assumes nothing.
use Rattle.std.specs.Prelude.{Err}
use mathlib.Core.Path.{◌≡◌, sym, ap, ◌∙◌}
use mathlib.Core.Bool.{Bool, true, false}
use mathlib.Core.List.{List}
use Prim.Native.Nat.{ℕ, ◌*◌, ◌^◌, ◌<◌, ◌≤◌}
use native.Mathlib.Omega.{arith}
use lib.ListN.{length, get_or, take}
use Rattle.slices.specs.Lists.{row, sum_xor, same}
use Rattle.slices.specs.Layout.{total, field, length_field}
use Rattle.banquet.specs.declared.Shape.{Shape}
use Rattle.banquet.specs.declared.Refusal.TheVariants.{ShareDiffers, ProductDiffers}
use Rattle.banquet.specs.Answer.{Answer, accepted, require}
use Rattle.sets.specs.Valid.{Valid}
use Rattle.sets.specs.Bounds.{row_sizes}
use Rattle.sets.proofs.Bounds.{row_most}
use Rattle.forms.specs.Sums.{bytes_product_holds, row_product_holds, sums_answer}

-- ---- fields of a row

module _ {S : Shape} (v : Valid S) {sizes : List ℕ} (s : List ℕ) (e : sizes ≡ row_sizes S) (h : length s ≡ total (row_sizes S)) where
  pub shares_fit : (k : ℕ) → k < 4 → (k < length sizes) × (total sizes ≤ length s) × (total sizes < 2 ^ 63)
  shares_fit k l = rw e (omega arith, omega arith, omega (arith, row_most v))

  share_size : {f : List ℕ} (k : ℕ) → f ≡ field sizes k s → length f ≡ get_or (row_sizes S) k 0
  share_size k is = rw (is, e) (length_field (row_sizes S) k s h)

  -- the fields of c, a and b
  module _ {c a b : List ℕ} (c_is : c ≡ field sizes 1 s) (a_is : a ≡ field sizes 2 s) (b_is : b ≡ field sizes 3 s) where
    pub shares_sized : Valid S × (length c ≡ S.wide) × (length a ≡ S.m1 * S.wide) × (length b ≡ S.m1 * S.wide)
    shares_sized = (v, share_size 1 c_is, share_size 2 a_is, share_size 3 b_is)

    pub row_product : {holds : Bool} → holds ≡ bytes_product_holds S c a b → holds ≡ row_product_holds S s
    row_product p = p ∙ rw (c_is, a_is, b_is, e)

-- ---- the end of the check: the answer, and the sums as they are left

module _ (S : Shape) (rows ciphertext : List ℕ) (e : ℕ) {sums : List ℕ} {len : ℕ} {test : Bool} (size : len ≡ total (row_sizes S))
    (is : sums ≡ sum_xor S.parties (λ i. row len i rows)) (tested : test ≡ same (take 16 sums) ciphertext) where
  abbrev all : List ℕ
  all = sum_xor S.parties (λ i. row (total (row_sizes S)) i rows)

  abbrev answer : Answer
  answer = sums_answer S ciphertext e all

  summed : sums ≡ all
  summed = is ∙ ap (λ n. sum_xor S.parties (λ i. row n i rows)) size

  answered : answer ≡ require test (ShareDiffers S.parties) (require (row_product_holds S sums) (ProductDiffers e) accepted)
  unfolding sums_answer field
  answered = rw (tested, summed)

  pub outputs_miss : test ≡ false → (Err (ShareDiffers S.parties) ≡ answer) × (sums ≡ all)
  unfolding require
  outputs_miss h = (sym (answered ∙ simp h), summed)

  module _ {holds : Bool} (p : holds ≡ row_product_holds S sums) where
    pub product_misses : test ≡ true → holds ≡ false → (Err (ProductDiffers e) ≡ answer) × (sums ≡ all)
    unfolding require
    product_misses h f = (sym (answered ∙ simp (h, ← p, f)), summed)

    pub both_hold : test ≡ true → holds ≡ true → (accepted ≡ answer) × (sums ≡ all)
    unfolding require
    both_hold h f = (sym (answered ∙ simp (h, ← p, f)), summed)
