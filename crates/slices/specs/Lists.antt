-- Lists, of bytes for the most part: made from their elements, cut into parts and rows, written into, added, compared.
use Rattle.std.specs.Prelude.{Bool, true, false, ◌&&◌, Option, Some, None, nat_lt, List, [], ◌∷◌, ◌++◌, ℕ, zero, suc, ◌+◌, ◌*◌, eqb, length, take, drop}
use Rattle.std.specs.Int.Bits.{bit_xor}

-- a where the test holds, else b
abbrev pub choose : {A : Type 0} → Bool → A → A → A
choose true a b = a
choose false a b = b

-- i if it is below n, where n stands for none
abbrev pub found : ℕ → ℕ → Option ℕ
found n i = choose (nat_lt i n) (Some i) None

-- f 0, f 1, .. f (n - 1)
abbrev pub tab : {A : Type 0} → (ℕ → A) → ℕ → List A
tab f zero = []
tab f (suc n) = f 0 ∷ tab (λ k. f (suc k)) n

-- f 0, then f 1, .. then f (n - 1), one list after the other
abbrev pub rows : (ℕ → List ℕ) → ℕ → List ℕ
rows f zero = []
rows f (suc n) = rows f n ++ f n

-- n elements from index at on
abbrev pub part : ℕ → ℕ → List ℕ → List ℕ
part at n s = take n (drop at s)

-- row i of a list of rows of n elements each
abbrev pub row : ℕ → ℕ → List ℕ → List ℕ
row n i s = part (i * n) n s

-- the list d with s in place of its elements from index at on
unfoldable pub put : List ℕ → ℕ → List ℕ → List ℕ
put d at s = take at d ++ (s ++ drop (at + length s) d)

-- "Adding is XOR throughout": the sum of two lists, element by element; where one ends, the rest of the other
unfoldable pub zip_xor : List ℕ → List ℕ → List ℕ
zip_xor [] ys = ys
zip_xor (x ∷ xs) [] = x ∷ xs
zip_xor (x ∷ xs) (y ∷ ys) = bit_xor x y ∷ zip_xor xs ys

-- f 0 + f 1 + .. + f (n - 1)
unfoldable pub sum_xor : ℕ → (ℕ → List ℕ) → List ℕ
sum_xor zero f = []
sum_xor (suc n) f = zip_xor (sum_xor n f) (f n)

-- of one length, and equal element by element
unfoldable pub same : List ℕ → List ℕ → Bool
same [] [] = true
same [] (b ∷ t) = false
same (a ∷ s) [] = false
same (a ∷ s) (b ∷ t) = eqb a b && same s t
