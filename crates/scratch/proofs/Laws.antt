-- The front of the work slice, which lent leaves the rest alone, and over which zeros are written; and the front of the output. The count of zeros
-- stays a variable here, so that nothing writes them out. Assumes nothing.
use mathlib.Core.Path.{◌≡◌, ap, ◌∙◌}
use mathlib.Core.List.{List, ◌++◌}
use Prim.Native.Nat.{ℕ, ◌+◌, ◌-◌, ◌≤◌}
use native.Mathlib.Nat.{sub-zero}
use native.Mathlib.Omega.{arith}
use lib.ListN.{length, take, drop, replicate}
use lib.Seq.{length-take-le, drop-append-add, drop-drop}
use borrow.Rule.Slice.PartMut.{put_mid, same_len_mid}
use Rattle.slices.proofs.Put.{front_long}
use Rattle.banquet.specs.Shape.{work_length}
use Rattle.banquet.specs.Answer.{accepted, cleared, output_after}
use Rattle.scratch.specs.Scratch.{Scratch}

-- what stands behind a front of k elements that is lent is there still
behind : (n k : ℕ) (w y : List ℕ) → k ≤ n → length y ≡ k → drop n (y ++ drop k w) ≡ drop n w
behind n k w y l h =
    let e : n ≡ length y + (n - k) = omega arith in
    let f : k + (n - k) ≡ n = omega arith in
    ap (λ m. drop m (y ++ drop k w)) e ∙ drop-append-add y (drop k w) (n - k) ∙ drop-drop (n - k) k w ∙ ap (λ m. drop m w) f

pub scratch_front : (k : ℕ) (w y : List ℕ) → k ≤ work_length → work_length ≤ length w → length y ≡ length (take (k - 0) w)
    → Scratch w (put_mid 0 (k - 0) w y)
scratch_front k w y l h kept = record {
  long = same_len_mid 0 (k - 0) w y kept;
  rest = rw sub-zero (behind work_length k w y l (kept ∙ front_long k w (omega arith)));
}

zeros : (n : ℕ) (w z : List ℕ) → z ≡ replicate (length (take n w)) 0 → n ≤ length w → put_mid 0 n w z ≡ replicate n 0 ++ drop n w
zeros n w z e h = rw (e, length-take-le n w h)

pub front_cleared : (w : List ℕ) {z : List ℕ} → z ≡ replicate (length (take work_length w)) 0 → work_length ≤ length w → put_mid 0 work_length w z ≡ cleared w
unfolding cleared
front_cleared w {z} e h = zeros work_length w z e h

-- ---- the output's front, which is lent and comes back

pub front_output : (n : ℕ) (d : List ℕ) {y s : List ℕ} → y ≡ s → length y ≡ n → put_mid 0 (n - 0) d y ≡ output_after accepted s d
unfolding output_after
front_output n d {y} {s} e h = let z : n - 0 ≡ length s = omega (arith, h, ap length e) in rw (z, e)
