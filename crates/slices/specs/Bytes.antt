-- Lists whose elements are bytes. Assumes nothing.
use Rattle.std.specs.Prelude.{◌≡◌, List, [], ◌∷◌, ◌++◌, ℕ, zero, suc, ◌<◌, T, ltb, length, get_or, take, drop, replicate}
use Rattle.std.proofs.Common.{arith, ltb→lt, lit<, Fits}
use Rattle.std.proofs.Math.Pow.{are_bytes}
use Rattle.std.specs.Int.{w8}
use Rattle.slices.specs.Lists.{tab, rows, part}
use Rattle.slices.specs.Tests.{both}

-- every element is below 256
pub record Bytes (xs : List ℕ) : Type 0 where
  pub lt : (i : ℕ) → get_or xs i 0 < 256

-- n bytes
pub record Sized (n : ℕ) (xs : List ℕ) : Type 0 where
  pub size : length xs ≡ n
  pub bytes : Bytes xs

-- what is known of a slice of u8
pub bytes_of : {xs : List ℕ} → ((i : ℕ) → Fits w8 (get_or xs i 0)) → Bytes xs
bytes_of h = record { lt = λ i. (h i).fits }

-- ---- one element and the rest

pub nil_bytes : Bytes []
nil_bytes = record { lt = λ i. lit< tt }

pub cons_bytes : {x : ℕ} {xs : List ℕ} → x < 256 → Bytes xs → Bytes (x ∷ xs)
cons_bytes {x} {xs} h p = record { lt = go }
  where
    go : (i : ℕ) → get_or (x ∷ xs) i 0 < 256
    go zero = h
    go (suc i) = p.lt i

pub tail_bytes : {x : ℕ} {xs : List ℕ} → Bytes (x ∷ xs) → Bytes xs
tail_bytes p = record { lt = λ i. p.lt (suc i) }

pub one_byte : {x : ℕ} → x < 256 → Bytes (x ∷ [])
one_byte h = cons_bytes h nil_bytes

-- for a list that is written out pass `tt`: the test is computed
pub tested_bytes : (xs : List ℕ) → T (are_bytes xs) → Bytes xs
tested_bytes [] t = nil_bytes
tested_bytes (x ∷ xs) t =
    let ts = both (ltb x 256) (are_bytes xs) t in
    cons_bytes (ltb→lt x 256 ts.0) (tested_bytes xs ts.1)

-- ---- lists made of others

pub append_bytes : {xs ys : List ℕ} → Bytes xs → Bytes ys → Bytes (xs ++ ys)
append_bytes {xs} {ys} p q = record { lt = go xs p.lt }
  where
    go : (xs : List ℕ) → ((i : ℕ) → get_or xs i 0 < 256) → (i : ℕ) → get_or (xs ++ ys) i 0 < 256
    go [] p i = q.lt i
    go (x ∷ xs) p zero = p 0
    go (x ∷ xs) p (suc i) = go xs (λ j. p (suc j)) i

pub tab_bytes : {f : ℕ → ℕ} (n : ℕ) → ((i : ℕ) → i < n → f i < 256) → Bytes (tab f n)
tab_bytes zero h = nil_bytes
tab_bytes (suc n) h = cons_bytes (h 0 (omega arith)) (tab_bytes n (λ i l. h (suc i) (omega arith)))

pub rows_bytes : (f : ℕ → List ℕ) (n : ℕ) → ((j : ℕ) → j < n → Bytes (f j)) → Bytes (rows f n)
rows_bytes f zero h = nil_bytes
rows_bytes f (suc n) h = append_bytes (rows_bytes f n (λ j l. h j (omega arith))) (h n (omega arith))

pub replicate_bytes : (n : ℕ) {x : ℕ} → x < 256 → Bytes (replicate n x)
replicate_bytes zero h = nil_bytes
replicate_bytes (suc n) h = cons_bytes h (replicate_bytes n h)

pub take_bytes : (n : ℕ) (xs : List ℕ) → Bytes xs → Bytes (take n xs)
take_bytes zero xs p = nil_bytes
take_bytes (suc n) [] p = nil_bytes
take_bytes (suc n) (x ∷ xs) p = cons_bytes (p.lt 0) (take_bytes n xs (tail_bytes p))

pub drop_bytes : (n : ℕ) (xs : List ℕ) → Bytes xs → Bytes (drop n xs)
drop_bytes zero xs p = p
drop_bytes (suc n) [] p = p
drop_bytes (suc n) (x ∷ xs) p = drop_bytes n xs (tail_bytes p)

pub part_bytes : (at n : ℕ) (xs : List ℕ) → Bytes xs → Bytes (part at n xs)
part_bytes at n xs p = take_bytes n (drop at xs) (drop_bytes at xs p)
