-- A front written over zeros. The count of zeros stays a variable here, so that nothing writes them out. Assumes nothing.
use mathlib.Core.Path.{◌≡◌, sym, ap, ◌∙◌}
use mathlib.Core.List.{List, ◌++◌}
use Prim.Native.Nat.{ℕ, zero, suc, ◌-◌, ◌≤◌}
use native.Mathlib.Nat.{sub-zero, zero-sub}
use native.Mathlib.Omega.{arith}
use lib.ListN.{length, take, drop, replicate}
use lib.Seq.{length-take-le}
use borrow.Rule.Slice.PartMut.{put_mid}

zeros_left : (k n : ℕ) → drop {A = ℕ} k (replicate n 0) ≡ replicate (n - k) 0
zeros_left zero n = sym (ap (λ m. replicate {A = ℕ} m 0) (sub-zero n))
zeros_left (suc k) zero = sym (ap (λ m. replicate {A = ℕ} m 0) (zero-sub (suc k)))
zeros_left (suc k) (suc n) =
    let e : n - k ≡ suc n - suc k = omega arith in
    zeros_left k n ∙ ap (λ m. replicate {A = ℕ} m 0) e

-- a front of d that is lent as `&mut d[0..k]`
pub front_long : (d : List ℕ) {k m : ℕ} → k ≡ m → m ≤ length d → length (take (k - 0) d) ≡ m
front_long d {k} {m} e h =
    let f : k - 0 ≡ m = omega arith in
    rw f (length-take-le m d h)

-- a front of zeros comes back as y
pub zeros_behind : (n : ℕ) {k m : ℕ} {y l : List ℕ} → k ≡ m → y ≡ l → put_mid 0 (k - 0) (replicate n 0) y ≡ l ++ replicate (n - m) 0
zeros_behind n {k} {m} e f =
    let g : k - 0 ≡ m = omega arith in
    rw (f, g, zeros_left m n)
