-- A loop that works rows over, one at each turn: the first n of them are done, and the rest is as it was. Assumes nothing.
use Rattle.std.specs.Prelude.{◌≡◌, refl, List, ◌++◌, ℕ, ◌+◌, ◌-◌, ◌*◌, ◌≤◌, length, take, drop}
use Rattle.std.proofs.Common.{ap, ◌∙◌, append_assoc, arith, length-append, drop-drop, drop_at, length-take-le}
use borrow.Rule.Slice.PartMut.{put_mid}
use Rattle.slices.specs.Lists.{rows, row}
use Rattle.slices.proofs.Rows.{Stacking, stacking_none, stacking_lent, stacking_all, row_next, row_cut, row_long}

-- the first n rows of k elements of l are those of g, and what stands behind them is l₀'s
pub record Reworking (g : ℕ → List ℕ) (k n m : ℕ) (l₀ l : List ℕ) : Type 0 where
  pub done : Stacking g k n m l
  pub rest : drop (n * k) l ≡ drop (n * k) l₀

pub reworking_none : (g : ℕ → List ℕ) (k : ℕ) {m : ℕ} {l : List ℕ} → length l ≡ m → Reworking g k 0 m l l
reworking_none g k h = record { done = stacking_none g k h; rest = refl }

module _ {g : ℕ → List ℕ} {k n m : ℕ} {l₀ l : List ℕ} (w : Reworking g k n m l₀ l) where
  -- the next row, which is lent as `&mut l[n * k..n * k + k]`, is l₀'s
  pub reworking_row : take (n * k + k - n * k) (drop (n * k) l) ≡ row k n l₀
  reworking_row = row_cut n k l ∙ ap (take k) w.rest

  -- it comes back as y
  pub reworking_lent : {y : List ℕ} → n * k + k ≤ m → y ≡ g n → length y ≡ length (take (n * k + k - n * k) (drop (n * k) l))
      → Reworking g k (n + 1) m l₀ (put_mid (n * k) (n * k + k - n * k) l y)
  reworking_lent {y} room e kept = record { done = stacking_lent w.done room e kept; rest = behind }
    where
      size : length y ≡ k
      size = kept ∙ row_long n k l (omega (arith, w.done.long))

      behind : drop ((n + 1) * k) (put_mid (n * k) (n * k + k - n * k) l y) ≡ drop ((n + 1) * k) l₀
      behind =
          let front : length (take (n * k) l) ≡ n * k = length-take-le (n * k) l (omega (arith, w.done.long)) in
          let end : (n + 1) * k ≡ n * k + k = row_next n k in
          let both : length (take (n * k) l ++ y) ≡ n * k + k = length-append (take (n * k) l) y ∙ omega (arith, front, size) in
          let one : n * k + k - n * k ≡ k = omega arith in
          rw (end, one, ← append_assoc (take (n * k) l) y (drop k (drop (n * k) l)))
          (drop_at (take (n * k) l ++ y) (drop k (drop (n * k) l)) (n * k + k) both
          ∙ ap (drop k) w.rest ∙ drop-drop k (n * k) l₀)

  pub reworking_all : m ≤ n * k → l ≡ rows g n
  reworking_all h = stacking_all w.done h
