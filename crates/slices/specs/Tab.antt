-- Laws of `tab`, `part` and `rows`. Assumes nothing.
use Rattle.std.specs.Prelude.{◌≡◌, refl, List, [], ◌∷◌, ◌++◌, map, ℕ, zero, suc, ◌+◌, ◌*◌, ◌<◌, ◌≤◌, length, get_or, take, drop, replicate}
use Rattle.std.proofs.Common.{sym, ap, ap₂, ◌∙◌, le_of_suc-le-suc, not-suc-le-zero, mul-le-mul_right, suc-mul, zero-mul, arith, length-append, length-drop, get_or-append-add, get_or-take, get_or-drop, take-add, drop-drop, length-take-le}
use Rattle.std.proofs.Math.Decide.{ℕ_discrete}
use Rattle.std.proofs.Math.Arith.{digits_lt}
use Rattle.std.proofs.Math.ListN.{get_or-append}
use Rattle.slices.specs.Lists.{tab, rows, part, row}

-- ---- tab

pub length_tab : {A : Type 0} (f : ℕ → A) (n : ℕ) → length (tab f n) ≡ n
length_tab f zero = refl
length_tab f (suc n) = ap suc (length_tab (λ k. f (suc k)) n)

pub get_d_tab : {A : Type 0} (f : ℕ → A) (n i : ℕ) (d : A) → i < n → get_or (tab f n) i d ≡ f i
get_d_tab f zero i d h = absurd (not-suc-le-zero h)
get_d_tab f (suc n) zero d h = refl
get_d_tab f (suc n) (suc i) d h = get_d_tab (λ k. f (suc k)) n i d (le_of_suc-le-suc h)

pub tab_cong : {A : Type 0} {f g : ℕ → A} (n : ℕ) → ((i : ℕ) → i < n → f i ≡ g i) → tab f n ≡ tab g n
tab_cong zero h = refl
tab_cong (suc n) h = ap₂ ◌∷◌ (h 0 (omega arith)) (tab_cong n (λ i l. h (suc i) (omega arith)))

-- the elements of a list
pub tab_list : (s : List ℕ) → tab (λ k. get_or s k 0) (length s) ≡ s
tab_list [] = refl
tab_list (x ∷ s) = ap (x ∷◌) (tab_list s)

-- where its length is known as n
pub tab_sized : {n : ℕ} (s : List ℕ) → length s ≡ n → tab (λ k. get_or s k 0) n ≡ s
tab_sized s e = ap (tab (λ k. get_or s k 0)) (sym e) ∙ tab_list s

pub tab_map : (f : ℕ → ℕ) (s : List ℕ) → tab (λ k. f (get_or s k 0)) (length s) ≡ map f s
tab_map f [] = refl
tab_map f (x ∷ s) = ap (f x ∷◌) (tab_map f s)

pub tab_same : (x n : ℕ) → tab (λ k. x) n ≡ replicate n x
tab_same x zero = refl
tab_same x (suc n) = ap (x ∷◌) (tab_same x n)

-- one more at the end
pub tab_snoc : {A : Type 0} (f : ℕ → A) (n : ℕ) (xs : List A) → tab f n ++ (f n ∷ xs) ≡ tab f (suc n) ++ xs
tab_snoc f zero xs = refl
tab_snoc f (suc n) xs = ap (f 0 ∷◌) (tab_snoc (λ k. f (suc k)) n xs)

-- ---- parts

pub length_part : (a n : ℕ) (s : List ℕ) → a + n ≤ length s → length (part a n s) ≡ n
length_part a n s h = length-take-le n (drop a s) (omega (arith, length-drop a s))

-- a part by its elements
pub part_tab : (k a : ℕ) (s : List ℕ) → a + k ≤ length s → part a k s ≡ tab (λ i. get_or s (a + i) 0) k
part_tab k a s h =
    sym (tab_sized (part a k s) (length_part a k s h)) ∙ tab_cong k (λ i l. get_or-take k (drop a s) i 0 l ∙ get_or-drop a s i 0)

-- one part behind the other
pub part_append : (j n m : ℕ) (s : List ℕ) → part j (n + m) s ≡ part j n s ++ part (j + n) m s
part_append j n m s = take-add n m (drop j s) ∙ ap (λ t. part j n s ++ take m t) (drop-drop n j s)

-- ---- rows

-- row i of n rows of k elements fits
pub row_fits : (k : ℕ) {i n : ℕ} → i < n → i * k + k ≤ n * k
row_fits k {i} {n} h = let e : suc i * k ≤ n * k = mul-le-mul_right k h in omega (arith, e, suc-mul i k)

pub length_rows : (k : ℕ) (f : ℕ → List ℕ) (n : ℕ) → ((j : ℕ) → j < n → length (f j) ≡ k) → length (rows f n) ≡ n * k
length_rows k f zero h = sym (zero-mul k)
length_rows k f (suc n) h =
    length-append (rows f n) (f n) ∙ ap₂ ◌+◌ (length_rows k f n (λ j l. h j (omega arith))) (h n (omega arith)) ∙ sym (suc-mul n k)

pub rows_cong : {f g : ℕ → List ℕ} (n : ℕ) → ((j : ℕ) → j < n → f j ≡ g j) → rows f n ≡ rows g n
rows_cong zero h = refl
rows_cong (suc n) h = ap₂ ◌++◌ (rows_cong n (λ j l. h j (omega arith))) (h n (omega arith))

-- element i of row j
pub get_d_rows : (k : ℕ) (f : ℕ → List ℕ) (n : ℕ) → ((j : ℕ) → j < n → length (f j) ≡ k) → (j i : ℕ) → j < n → i < k
    → get_or (rows f n) (j * k + i) 0 ≡ get_or (f j) i 0
get_d_rows k f zero s j i h l = absurd (not-suc-le-zero h)
get_d_rows k f (suc n) s j i h l = go (ℕ_discrete j n) (λ m. get_d_rows k f n (λ j m. s j (omega arith)) j i m l)
  where
    size : length (rows f n) ≡ n * k
    size = length_rows k f n (λ j m. s j (omega arith))

    go : Dec (j ≡ n) → (j < n → get_or (rows f n) (j * k + i) 0 ≡ get_or (f j) i 0) → get_or (rows f n ++ f n) (j * k + i) 0 ≡ get_or (f j) i 0
    go (yes e) r = rw (e, ← size) (get_or-append-add (rows f n) (f n) i 0)
    go (no ne) r =
        let m : j < n = omega arith in
        get_or-append (rows f n) (f n) 0 (j * k + i) (rw size (digits_lt m l)) ∙ r m

-- row i
pub row_of_rows : (k : ℕ) (f : ℕ → List ℕ) (n : ℕ) → ((j : ℕ) → j < n → length (f j) ≡ k) → (i : ℕ) → i < n → row k i (rows f n) ≡ f i
row_of_rows k f n s i l =
    part_tab k (i * k) (rows f n) (rw (length_rows k f n s) (row_fits k l))
    ∙ tab_cong k (λ b m. get_d_rows k f n s i b l m) ∙ tab_sized (f i) (s i l)

-- a list is its rows
pub rows_of : (k n : ℕ) (s : List ℕ) → take (n * k) s ≡ rows (λ i. row k i s) n
rows_of k zero s = ap (λ m. take m s) (zero-mul k)
rows_of k (suc n) s = ap (λ m. take m s) (suc-mul n k) ∙ take-add (n * k) k s ∙ ap (◌++ row k n s) (rows_of k n s)
