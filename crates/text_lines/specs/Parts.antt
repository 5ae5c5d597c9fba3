-- A part of a list by where it begins and ends, as `s[a..b]` lends it; the sizes of the lines that are left, and lists whose entries
-- are all the same. Assumes nothing.
use Rattle.std.specs.Prelude.{◌≡◌, refl, List, ◌∷◌, ◌++◌, ℕ, zero, suc, ◌+◌, ◌-◌, ◌*◌, ◌<◌, ◌≤◌, length, take, drop, get_or, replicate}
use Rattle.std.proofs.Common.{sym, ap, ◌∙◌, zero-mul, suc-mul, add-one, arith, take_at, drop_at, drop-cons}
use Rattle.slices.specs.Layout.{total}

pub middle : (a b : ℕ) (before x after : List ℕ) {s : List ℕ} → s ≡ before ++ (x ++ after) → length before ≡ a → a + length x ≡ b
    → take (b - a) (drop a s) ≡ x
middle a b before x after e h k =
    ap (λ (s : List ℕ). take (b - a) (drop a s)) e ∙ ap (take (b - a)) (drop_at before (x ++ after) a h) ∙ take_at x after (b - a) (omega arith)

pub sizes_left : (sizes : List ℕ) (i : ℕ) → i < length sizes → drop i sizes ≡ get_or sizes i 0 ∷ drop (i + 1) sizes
sizes_left sizes i h = drop-cons sizes i 0 h ∙ simp add-one

pub total_replicate : (n size : ℕ) → total (replicate n size) ≡ n * size
total_replicate zero size = sym (zero-mul size)
total_replicate (suc n) size = ap (size +◌) (total_replicate n size) ∙ omega (arith, suc-mul n size)

pub take_replicate : (n m x : ℕ) → n ≤ m → take n (replicate m x) ≡ replicate n x
take_replicate zero m x h = refl
take_replicate (suc n) zero x h = absurd (omega arith)
take_replicate (suc n) (suc m) x h = ap (x ∷◌) (take_replicate n m x (omega arith))
