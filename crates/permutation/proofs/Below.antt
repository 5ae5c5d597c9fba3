-- Lists of numbers of w bits. Assumes nothing.
use mathlib.Core.List.{List, [], ◌∷◌}
use Prim.Native.Nat.{ℕ, zero, suc, ◌^◌, ◌<◌}
use lib.ListN.{get_or}
use lib.Pow.{pow_pos}
use Rattle.slices.specs.Lists.{tab}

pub record Below (w : ℕ) (l : List ℕ) : Type 0 where
  pub lt : (k : ℕ) → get_or l k 0 < 2 ^ w

-- the same one by one, for a list that is written out
abbrev pub Each : ℕ → List ℕ → Type 0
Each w [] = Unit {0}
Each w (x ∷ l) = (x < 2 ^ w) × Each w l

pub each_below : (w : ℕ) (l : List ℕ) → Each w l → Below w l
each_below w l h = record { lt = go l h }
  where
    go : (l : List ℕ) → Each w l → (k : ℕ) → get_or l k 0 < 2 ^ w
    go [] h k = pow_pos w
    go (x ∷ l) h zero = h.0
    go (x ∷ l) h (suc k) = go l h.1 k

pub tab_below : (w : ℕ) (f : ℕ → ℕ) (n : ℕ) → ((i : ℕ) → f i < 2 ^ w) → Below w (tab f n)
tab_below w f n h = record { lt = go f n h }
  where
    go : (f : ℕ → ℕ) (n : ℕ) → ((i : ℕ) → f i < 2 ^ w) → (k : ℕ) → get_or (tab f n) k 0 < 2 ^ w
    go f zero h k = pow_pos w
    go f (suc n) h zero = h 0
    go f (suc n) h (suc k) = go (λ i. f (suc i)) n (λ i. h (suc i)) k
