-- A loop that adds a list at each turn. Assumes nothing.
use mathlib.Core.Path.{◌≡◌, refl, sym, ap, ◌∙◌}
use mathlib.Core.List.{List}
use Prim.Native.Nat.{ℕ, zero, suc, ◌+◌, ◌<◌}
use native.Mathlib.Numerals.{add-one}
use native.Mathlib.Omega.{arith}
use lib.ListN.{length, replicate, length-replicate}
use Rattle.slices.specs.Lists.{zip_xor, sum_xor}
use Rattle.slices.specs.Sums.{length_zip, zip_zeros}

-- the sum of the first n lists of f, of len elements each; of none it is len zeros
unfoldable pub begun : (ℕ → List ℕ) → ℕ → ℕ → List ℕ
begun f len zero = replicate len 0
begun f len (suc n) = sum_xor (suc n) f

-- that sum is l
pub record Summing (f : ℕ → List ℕ) (len n : ℕ) (l : List ℕ) : Type 0 where
  pub long : length l ≡ len
  pub is : l ≡ begun f len n

pub summing_none : {f : ℕ → List ℕ} {len : ℕ} {l : List ℕ} → l ≡ replicate len 0 → Summing f len 0 l
unfolding begun
summing_none {f} {len} e = record { long = rw e (length-replicate len 0); is = e }

begun_more : (f : ℕ → List ℕ) (len n : ℕ) → length (f n) ≡ len → zip_xor (begun f len n) (f n) ≡ begun f len (suc n)
unfolding begun sum_xor zip_xor
begun_more f len zero h = zip_zeros len (f 0) h
begun_more f len (suc n) h = refl

-- the next list is added
pub summing_more : {f : ℕ → List ℕ} {len n : ℕ} {l r s : List ℕ} → Summing f len n l → s ≡ f n → length (f n) ≡ len → r ≡ zip_xor l s
    → Summing f len (n + 1) r
summing_more {f} {len} {n} {l} w g h e =
    let added = e ∙ ap (zip_xor l) g in
    record {
      long = ap length added ∙ length_zip len l (f n) w.long h;
      is = added ∙ ap (λ (s : List ℕ). zip_xor s (f n)) w.is ∙ begun_more f len n h ∙ ap (begun f len) (sym (add-one n));
    }

begun_all : (f : ℕ → List ℕ) (len n : ℕ) → 0 < n → begun f len n ≡ sum_xor n f
unfolding begun
begun_all f len zero h = absurd (omega arith)
begun_all f len (suc n) h = refl

pub summing_all : {f : ℕ → List ℕ} {len n m : ℕ} {l : List ℕ} → Summing f len n l → n ≡ m → 0 < m → l ≡ sum_xor m f
summing_all {f} {len} {n} {m} w e h = w.is ∙ ap (begun f len) e ∙ begun_all f len m h
