-- A loop that stores f i at each index i of a slice: what the slice holds after i turns, for any f. Assumes nothing.
use Rattle.std.proofs.Common.{◌≡◌, refl, ap, ◌∙◌, List, ◌++◌, append-nil, ℕ, suc, ◌+◌, ◌<◌, ◌≤◌, add-one, arith, length, drop, get_or, set, length-set, drop-cons}
use Rattle.std.proofs.Math.Seq.{drop-length, set_at, get_or_at}
use Rattle.slices.specs.Lists.{tab}
use Rattle.slices.specs.Tab.{length_tab, tab_snoc}

-- l is d, of m elements, with its first i replaced
pub record Filling (f : ℕ → ℕ) (m : ℕ) (d : List ℕ) (i : ℕ) (l : List ℕ) : Type 0 where
  pub upto : i ≤ m
  pub size : length d ≡ m
  pub long : length l ≡ m
  pub is : l ≡ tab f i ++ drop i d

pub filling_none : {f : ℕ → ℕ} {m : ℕ} {d : List ℕ} → length d ≡ m → Filling f m d 0 d
filling_none h = record { upto = omega arith; size = h; long = h; is = refl }

-- a turn: the next element is replaced
pub filling_more : {f : ℕ → ℕ} {m : ℕ} {d l : List ℕ} {i v : ℕ} → Filling f m d i l → i < m → v ≡ f i → Filling f m d (i + 1) (set l i v)
filling_more {f} {m} {d} {l} {i} {v} w h e =
    record { upto = omega arith; size = w.size; long = length-set l i v ∙ w.long; is = next }
  where
    next : set l i v ≡ tab f (i + 1) ++ drop (i + 1) d
    next =
        rw (w.is, e, drop-cons d i 0 (rw w.size h), add-one)
        (set_at (tab f i) (get_or d i 0) (drop (suc i) d) (f i) i (length_tab f i) ∙ tab_snoc f i (drop (suc i) d))

-- what is not replaced yet is there still
pub filling_at : {f : ℕ → ℕ} {m : ℕ} {d l : List ℕ} {i : ℕ} → Filling f m d i l → i < m → get_or l i 0 ≡ get_or d i 0
filling_at {f} {m} {d} {l} {i} w h =
    rw (w.is, drop-cons d i 0 (rw w.size h)) (get_or_at (tab f i) (get_or d i 0) (drop (suc i) d) 0 i (length_tab f i))

pub filling_all : {f : ℕ → ℕ} {m : ℕ} {d l : List ℕ} {i : ℕ} → Filling f m d i l → m ≤ i → l ≡ tab f m
filling_all {f} {m} {d} {l} {i} w h =
    let e : i ≡ length d = omega (arith, w.size, w.upto) in
    simp (w.is, e, drop-length) (append-nil (tab f (length d))) ∙ ap (tab f) w.size
