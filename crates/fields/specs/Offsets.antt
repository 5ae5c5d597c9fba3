-- Where field k of a layout lies: it begins where the sizes before it end. Assumes nothing.
use Rattle.std.specs.Prelude.{◌≡◌, refl, List, [], ◌∷◌, ℕ, zero, suc, ◌+◌, ◌-◌, ◌^◌, ◌≤◌, ◌<◌, length, get_or, take, drop}
use Rattle.std.proofs.Common.{sym, ap, ◌∙◌, add-one, arith, length-drop, drop-drop, length-take-le}
use Rattle.slices.specs.Lists.{part}
use Rattle.slices.specs.Layout.{field, total}

-- ---- the offsets

-- field k ends where the next begins
pub total_take_suc : (sizes : List ℕ) (k : ℕ) → total (take (suc k) sizes) ≡ total (take k sizes) + get_or sizes k 0
total_take_suc [] zero = refl
total_take_suc [] (suc k) = refl
total_take_suc (n ∷ sizes) zero = omega arith
total_take_suc (n ∷ sizes) (suc k) = omega (arith, total_take_suc sizes k)

pub total_take_le : (sizes : List ℕ) (k : ℕ) → total (take k sizes) ≤ total sizes
total_take_le [] zero = omega arith
total_take_le [] (suc k) = omega arith
total_take_le (n ∷ sizes) zero = omega arith
total_take_le (n ∷ sizes) (suc k) = omega (arith, total_take_le sizes k)

-- field k ends within the whole
pub total_take_fits : (sizes : List ℕ) (k : ℕ) → total (take k sizes) + get_or sizes k 0 ≤ total sizes
total_take_fits sizes k = omega (arith, total_take_suc sizes k, total_take_le sizes (suc k))

-- the last ends where the whole does
pub total_take_all : (sizes : List ℕ) (k : ℕ) → length sizes ≤ k → total (take k sizes) ≡ total sizes
total_take_all [] zero h = refl
total_take_all [] (suc k) h = refl
total_take_all (n ∷ sizes) zero h = absurd (omega arith)
total_take_all (n ∷ sizes) (suc k) h = ap (n +◌) (total_take_all sizes k (omega arith))

-- ---- sizes that were worked out, where those of the layout have a bounded total

module _ {sizes layout : List ℕ} {most : ℕ} (is : sizes ≡ layout) (bound : total layout ≤ most) where
  pub sizes_fit : most < 2 ^ 63 → total sizes < 2 ^ 63
  sizes_fit h = rw is (omega (arith, bound, h))

  -- where field k begins, or the last ends
  pub offset_is : {n : ℕ} (k : ℕ) → n ≡ total (take k sizes) → (n ≡ total (take k layout)) × (n ≤ most)
  offset_is k h =
      let e = h ∙ ap (λ s. total (take k s)) is in
      (e, rw e (omega (arith, total_take_le layout k, bound)))

-- ---- the field

pub field_part : (sizes : List ℕ) (k : ℕ) (s : List ℕ) → field sizes k s ≡ part (total (take k sizes)) (get_or sizes k 0) s
unfolding field
field_part [] k s = refl
field_part (n ∷ sizes) zero s = refl
field_part (n ∷ sizes) (suc k) s = field_part sizes k (drop n s) ∙ ap (take (get_or sizes k 0)) (drop-drop (total (take k sizes)) n s)

-- the part from where it begins to where the next begins
module _ (sizes : List ℕ) (k : ℕ) {a e : ℕ} (begin : a ≡ total (take k sizes)) (end : e ≡ total (take (k + 1) sizes)) where
  pub field_end : e ≡ a + get_or sizes k 0
  field_end = end ∙ ap (λ (n : ℕ). total (take n sizes)) (add-one k) ∙ total_take_suc sizes k ∙ ap (◌+ get_or sizes k 0) (sym begin)

  pub field_order : a ≤ e
  field_order = omega (arith, field_end)

  pub field_fits : e ≤ total sizes
  field_fits = rw end (total_take_le sizes (k + 1))

  pub field_between : (s : List ℕ) → part a (e - a) s ≡ field sizes k s
  field_between s =
      let n : e - a ≡ get_or sizes k 0 = omega (arith, field_end) in
      rw (n, begin) (sym (field_part sizes k s))

-- a list that has all of them, and maybe more
pub length_field_fits : (sizes : List ℕ) (k : ℕ) (s : List ℕ) → total sizes ≤ length s → length (field sizes k s) ≡ get_or sizes k 0
length_field_fits sizes k s h =
    let room : get_or sizes k 0 ≤ length (drop (total (take k sizes)) s) =
    omega (arith, total_take_fits sizes k, length-drop (total (take k sizes)) s) in
    ap length (field_part sizes k s) ∙ length-take-le (get_or sizes k 0) (drop (total (take k sizes)) s) room
