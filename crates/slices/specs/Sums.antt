-- Laws of sums of lists, `zip_xor` and `sum_xor`. Assumes nothing.
use Rattle.std.specs.Prelude.{◌≡◌, refl, List, [], ◌∷◌, ◌++◌, ℕ, zero, suc, ◌<◌, ◌≤◌, max, length, get_or, drop, replicate}
use Rattle.std.proofs.Common.{sym, ap, ap₂, ◌∙◌, arith}
use Rattle.std.specs.Int.Bits.{bit_xor, xor_zero_r, xor_self}
use Rattle.std.proofs.lemmas.Nat.{xor_comm, xor_lt}
use Rattle.slices.specs.Lists.{tab, zip_xor, sum_xor}
use Rattle.slices.specs.Xor.{xor_assoc}
use Rattle.slices.specs.Tab.{tab_list, tab_sized}
use Rattle.slices.specs.Bytes.{Bytes, Sized, nil_bytes}

-- ---- two lists

pub get_d_zip : (xs ys : List ℕ) (i : ℕ) → get_or (zip_xor xs ys) i 0 ≡ bit_xor (get_or xs i 0) (get_or ys i 0)
unfolding zip_xor
get_d_zip [] ys i = refl
get_d_zip (x ∷ xs) [] i = sym (xor_zero_r (get_or (x ∷ xs) i 0))
get_d_zip (x ∷ xs) (y ∷ ys) zero = refl
get_d_zip (x ∷ xs) (y ∷ ys) (suc i) = get_d_zip xs ys i

pub zip_nil : (xs : List ℕ) → zip_xor xs [] ≡ xs
unfolding zip_xor
zip_nil [] = refl
zip_nil (x ∷ xs) = refl

pub zip_comm : (xs ys : List ℕ) → zip_xor xs ys ≡ zip_xor ys xs
unfolding zip_xor
zip_comm [] [] = refl
zip_comm [] (y ∷ ys) = refl
zip_comm (x ∷ xs) [] = refl
zip_comm (x ∷ xs) (y ∷ ys) = ap₂ ◌∷◌ (xor_comm x y) (zip_comm xs ys)

pub length_zip_max : (xs ys : List ℕ) → length (zip_xor xs ys) ≡ max (length xs) (length ys)
unfolding zip_xor
length_zip_max [] ys = omega arith
length_zip_max (x ∷ xs) [] = omega arith
length_zip_max (x ∷ xs) (y ∷ ys) = omega (arith, length_zip_max xs ys)

pub length_zip : (n : ℕ) (xs ys : List ℕ) → length xs ≡ n → length ys ≡ n → length (zip_xor xs ys) ≡ n
length_zip n xs ys e h = omega (arith, length_zip_max xs ys)

pub zip_tab : (f g : ℕ → ℕ) (n : ℕ) → tab (λ i. bit_xor (f i) (g i)) n ≡ zip_xor (tab f n) (tab g n)
unfolding zip_xor
zip_tab f g zero = refl
zip_tab f g (suc n) = ap (bit_xor (f 0) (g 0) ∷◌) (zip_tab (λ i. f (suc i)) (λ i. g (suc i)) n)

-- by the elements, of lists of one length
pub tab_zip : (xs ys : List ℕ) → length xs ≡ length ys → tab (λ k. bit_xor (get_or xs k 0) (get_or ys k 0)) (length xs) ≡ zip_xor xs ys
tab_zip xs ys e = zip_tab (λ k. get_or xs k 0) (λ k. get_or ys k 0) (length xs) ∙ ap₂ zip_xor (tab_list xs) (tab_sized ys (sym e))

pub zip_append : (xs ys us vs : List ℕ) → length xs ≡ length ys → zip_xor xs ys ++ zip_xor us vs ≡ zip_xor (xs ++ us) (ys ++ vs)
unfolding zip_xor
zip_append [] [] us vs e = refl
zip_append [] (y ∷ ys) us vs e = absurd (omega arith)
zip_append (x ∷ xs) [] us vs e = absurd (omega arith)
zip_append (x ∷ xs) (y ∷ ys) us vs e = ap (bit_xor x y ∷◌) (zip_append xs ys us vs (omega arith))

pub drop_zip : (n : ℕ) (xs ys : List ℕ) → drop n (zip_xor xs ys) ≡ zip_xor (drop n xs) (drop n ys)
unfolding zip_xor
drop_zip zero xs ys = refl
drop_zip (suc n) [] ys = refl
drop_zip (suc n) (x ∷ xs) [] = sym (zip_nil (drop n xs))
drop_zip (suc n) (x ∷ xs) (y ∷ ys) = drop_zip n xs ys

-- zeros, as many as the list is long, add nothing
pub zip_zeros : (n : ℕ) (xs : List ℕ) → length xs ≡ n → zip_xor (replicate n 0) xs ≡ xs
unfolding zip_xor
zip_zeros zero xs h = refl
zip_zeros (suc n) [] h = absurd (omega arith)
zip_zeros (suc n) (x ∷ xs) h = ap (x ∷◌) (zip_zeros n xs (omega arith))

pub zip_bytes : {xs ys : List ℕ} → Bytes xs → Bytes ys → Bytes (zip_xor xs ys)
zip_bytes {xs} {ys} p q = record { lt = λ i. rw (get_d_zip xs ys i) (xor_lt 8 (get_or xs i 0) (get_or ys i 0) (p.lt i) (q.lt i)) }

pub sized_zip : {n : ℕ} {xs ys : List ℕ} → Sized n xs → Sized n ys → Sized n (zip_xor xs ys)
sized_zip {n} {xs} {ys} p q = record { size = length_zip n xs ys p.size q.size; bytes = zip_bytes p.bytes q.bytes }

-- what is added twice is gone
pub zip_twice : (xs ys : List ℕ) → length ys ≤ length xs → zip_xor (zip_xor xs ys) ys ≡ xs
unfolding zip_xor
zip_twice [] [] h = refl
zip_twice [] (y ∷ ys) h = absurd (omega arith)
zip_twice (x ∷ xs) [] h = refl
zip_twice (x ∷ xs) (y ∷ ys) h =
    ap₂ ◌∷◌ (xor_assoc x y y ∙ ap (bit_xor x) (xor_self y) ∙ xor_zero_r x) (zip_twice xs ys (omega arith))

pub zip_undo : {n : ℕ} {xs ys : List ℕ} → Sized n xs → Sized n ys → zip_xor (zip_xor xs ys) ys ≡ xs
zip_undo {n} {xs} {ys} p q = zip_twice xs ys (omega (arith, p.size, q.size))

-- ---- many lists

pub sum_xor_cong : (n : ℕ) {f g : ℕ → List ℕ} → ((i : ℕ) → i < n → f i ≡ g i) → sum_xor n f ≡ sum_xor n g
unfolding sum_xor
sum_xor_cong zero h = refl
sum_xor_cong (suc n) h = ap₂ zip_xor (sum_xor_cong n (λ i l. h i (omega arith))) (h n (omega arith))

pub sum_bytes : (n : ℕ) {f : ℕ → List ℕ} → ((j : ℕ) → j < n → Bytes (f j)) → Bytes (sum_xor n f)
unfolding sum_xor
sum_bytes zero h = nil_bytes
sum_bytes (suc n) h = zip_bytes (sum_bytes n (λ j l. h j (omega arith))) (h n (omega arith))

pub sized_sum : {size : ℕ} (n : ℕ) {f : ℕ → List ℕ} → 0 < n → ((i : ℕ) → i < n → Sized size (f i)) → Sized size (sum_xor n f)
unfolding sum_xor zip_xor
sized_sum zero l h = absurd (omega arith)
sized_sum (suc zero) l h = h 0 l
sized_sum (suc (suc n)) l h = sized_zip (sized_sum (suc n) (omega arith) (λ i k. h i (omega arith))) (h (suc n) (omega arith))

length_sum_le : (size n : ℕ) (f : ℕ → List ℕ) → ((i : ℕ) → i < n → length (f i) ≤ size) → length (sum_xor n f) ≤ size
unfolding sum_xor
length_sum_le size zero f h = omega arith
length_sum_le size (suc n) f h =
    rw (length_zip_max (sum_xor n f)) (omega (arith, length_sum_le size n f (λ i l. h i (omega arith)), h n (omega arith)))

-- lists of at most size elements added to one of size elements
pub length_zip_sum : (size n : ℕ) (s : List ℕ) (f : ℕ → List ℕ) → length s ≡ size → ((i : ℕ) → i < n → length (f i) ≤ size)
    → length (zip_xor s (sum_xor n f)) ≡ size
length_zip_sum size n s f e h = rw (length_zip_max s) (omega (arith, length_sum_le size n f h))
