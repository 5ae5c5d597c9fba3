-- Rows of one length in a slice, the length and the count being variables: where row i lies, and a loop that writes a row at each turn.
-- The products i * k and n * k are atoms to `omega`: cite `row_fits` and it closes the rest. Assumes nothing.
use Rattle.std.proofs.Common.{◌≡◌, refl, sym, ap, ap₂, ◌∙◌, List, ◌++◌, ℕ, suc, ◌+◌, ◌-◌, ◌*◌, ◌≤◌, zero-mul, suc-mul, add-one, arith, length, take, drop, length-drop, take_all, length-take-le}
use Rattle.std.proofs.Math.Seq.{drop-append-le, take-append-le}
use borrow.Rule.Slice.PartMut.{put_mid}
use Rattle.slices.specs.Lists.{put, rows, row}
pub use Rattle.slices.specs.Tab.{row_fits}
use Rattle.slices.proofs.Put.{length_put, take_put, put_mid_lem}

-- ---- where a row lies

-- (i + 1) * k, as the code reaches it
pub row_next : (i k : ℕ) → (i + 1) * k ≡ i * k + k
row_next i k = rw add-one (suc-mul i k)

-- what the code writes `&s[i * k..i * k + k]`
row_size : (i k : ℕ) → i * k + k - i * k ≡ k
row_size i k = omega arith

pub row_long : (i k : ℕ) (s : List ℕ) → i * k + k ≤ length s → length (take (i * k + k - i * k) (drop (i * k) s)) ≡ k
row_long i k s h = rw (row_size i k) (length-take-le k (drop (i * k) s) (omega (arith, length-drop (i * k) s)))

pub row_cut : (i k : ℕ) (s : List ℕ) → take (i * k + k - i * k) (drop (i * k) s) ≡ row k i s
row_cut i k s = rw (row_size i k)

-- a row of the front
pub row_front : (k i : ℕ) (x y : List ℕ) → i * k + k ≤ length x → row k i (x ++ y) ≡ row k i x
row_front k i x y h =
    ap (take k) (drop-append-le (i * k) x y (omega arith)) ∙ take-append-le k (drop (i * k) x) y (omega (arith, length-drop (i * k) x))

-- ---- a loop that writes a row at each turn: l has m elements, and its first n rows are those of f

pub record Stacking (f : ℕ → List ℕ) (k n m : ℕ) (l : List ℕ) : Type 0 where
  pub long : length l ≡ m
  pub is : take (n * k) l ≡ rows f n

pub stacking_none : (f : ℕ → List ℕ) (k : ℕ) {m : ℕ} {l : List ℕ} → length l ≡ m → Stacking f k 0 m l
stacking_none f k {m} {l} h = record { long = h; is = ap (λ (x : ℕ). take x l) (zero-mul k) }

-- the next row is written
pub stacking_more : {f : ℕ → List ℕ} {k n m : ℕ} {l l' s : List ℕ} → Stacking f k n m l → length s ≡ k → s ≡ f n → n * k + k ≤ m
    → l' ≡ put l (n * k) s → Stacking f k (n + 1) m l'
stacking_more {f} {k} {n} {m} {l} {l'} {s} w h e room p =
    let fits : n * k + length s ≤ length l = rw (h, w.long) room in
    let end : suc n * k ≡ n * k + length s = suc-mul n k ∙ ap (λ (x : ℕ). n * k + x) (sym h) in
    rw (add-one, p)
    (record {
      long = length_put l (n * k) s fits ∙ w.long;
      is = ap (λ (x : ℕ). take x (put l (n * k) s)) end ∙ take_put l (n * k) s (omega arith) ∙ ap₂ ◌++◌ w.is e;
    })

-- the next row is lent to a call and comes back as y
pub stacking_lent : {f : ℕ → List ℕ} {k n m : ℕ} {l y : List ℕ} → Stacking f k n m l → n * k + k ≤ m → y ≡ f n
    → length y ≡ length (take (n * k + k - n * k) (drop (n * k) l)) → Stacking f k (n + 1) m (put_mid (n * k) (n * k + k - n * k) l y)
stacking_lent {f} {k} {n} {m} {l} {y} w room e kept =
    let size : length y ≡ k = kept ∙ row_long n k l (omega (arith, w.long)) in
    let long : length (f n) ≡ k = ap length (sym e) ∙ size in
    stacking_more w long refl room (put_mid_lem (n * k) (n * k + k - n * k) l y (f n) e (row_size n k ∙ sym long))

pub stacking_all : {f : ℕ → List ℕ} {k n m : ℕ} {l : List ℕ} → Stacking f k n m l → m ≤ n * k → l ≡ rows f n
stacking_all {f} {k} {n} {m} {l} w h = sym (take_all (n * k) l (rw w.long h)) ∙ w.is
