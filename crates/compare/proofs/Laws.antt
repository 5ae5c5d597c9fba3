-- What one turn of each loop says: two lists compared up to index e, from k on, and the test of a row. Assumes nothing.
use mathlib.Core.Path.{◌≡◌, sym, ap, ap₂, ◌∙◌}
use mathlib.Core.Bool.{Bool, true, false, ◌||◌}
use mathlib.Core.List.{List}
use mathlib.Core.Logic.{◌≢◌}
use Prim.Native.Nat.{ℕ, ◌+◌, ◌*◌, ◌<◌, ◌≤◌}
use native.Mathlib.Numerals.{add-one}
use lib.Dec.{eqb}
use lib.ListN.{length, get_or, take, drop}
use lib.Seq.{slice, take-add, drop_at, get_or-take, length-take-le}
use borrow.Author.Tests.{eq-eqb, ne_eqb}
use Rattle.slices.specs.Lists.{part, row, same}
use Rattle.slices.specs.Compare.{same_here, same_next, same_end}

-- a part ends where it ends in the whole
part_slice : (at n : ℕ) (s : List ℕ) → at ≤ length s → part at n s ≡ slice at (at + n) s
part_slice at n s h = sym (ap (drop at) (take-add at n s) ∙ drop_at (take at s) (part at n s) at (length-take-le at s h))

-- whether the lists are the same from k up to e
abbrev pub alike : List ℕ → List ℕ → ℕ → ℕ → Bool
alike a b e k = same (slice k e a) (slice k e b)

module _ (a b : List ℕ) {e : ℕ} (la : e ≤ length a) (lb : e ≤ length b) where
  in_a : {k : ℕ} → k < e → k < length (take e a)
  in_a h = rw (length-take-le e a la) h

  in_b : {k : ℕ} → k < e → k < length (take e b)
  in_b h = rw (length-take-le e b lb) h

  pub alike_here : {k : ℕ} → k < e → get_or a k 0 ≢ get_or b k 0 → alike a b e k ≡ false
  alike_here {k} h d =
      same_here (take e a) (take e b) k (in_a h) (in_b h) (λ q. d (sym (get_or-take e a k 0 h) ∙ q ∙ get_or-take e b k 0 h))

  pub alike_next : {k : ℕ} → k < e → get_or a k 0 ≡ get_or b k 0 → alike a b e k ≡ alike a b e (k + 1)
  alike_next {k} h q =
      rw add-one
      (same_next (take e a) (take e b) k (in_a h) (in_b h) (get_or-take e a k 0 h ∙ q ∙ sym (get_or-take e b k 0 h)))

  pub alike_end : {k : ℕ} → e ≤ k → alike a b e k ≡ true
  alike_end {k} h = same_end (take e a) (take e b) k (rw (length-take-le e a la) h) (rw (length-take-le e b lb) h)

-- a row, from its first element on
pub alike_row : (len i : ℕ) (a b : List ℕ) → i * len ≤ length a → i * len ≤ length b
    → same (row len i a) (row len i b) ≡ alike a b (i * len + len) (i * len)
alike_row len i a b la lb = ap₂ same (part_slice (i * len) len a la) (part_slice (i * len) len b lb)

-- ---- the test of a row: it is hidden, or x

module _ (i hidden : ℕ) (x : Bool) where
  pub hidden_passes : i ≡ hidden → (eqb i hidden || x) ≡ true
  hidden_passes e = simp (eq-eqb i hidden e)

  pub shown_tested : i ≢ hidden → (eqb i hidden || x) ≡ x
  shown_tested n = simp (ne_eqb i hidden n)
