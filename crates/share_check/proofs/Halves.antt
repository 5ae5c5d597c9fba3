-- Two halves of one slice, written one after the other and read back. Assumes nothing.
use mathlib.Core.Path.{◌≡◌, ◌∙◌}
use mathlib.Core.List.{List, ◌++◌}
use Prim.Native.Nat.{ℕ, ◌*◌, ◌/◌, ◌-◌}
use native.Mathlib.Nat.{sub-zero}
use native.Mathlib.Omega.{arith}
use lib.ListN.{length, take, drop, length-append, length-take, length-drop}
use lib.Seq.{take_all, take_at, drop_at}
use borrow.Rule.Slice.PartMut.{put_mid}
use Rattle.slices.proofs.Put.{put_pair, front_long}

module _ (w : List ℕ) (n : ℕ) (long : length w ≡ 2 * n) where
  -- lent and written one after the other
  pub first_lent : length (take (length w / 2 - 0) w) ≡ n
  first_lent =
      let half : length w / 2 ≡ n = omega arith in
      front_long (length w / 2) w (omega arith) ∙ half

  pub second_lent : (l : List ℕ) → length l ≡ length w → length (take (length w - length w / 2) (drop (length w / 2) l)) ≡ n
  second_lent l h = simp (length-take, length-drop) (omega arith)

  pub halves_put : {y y' z z' : List ℕ} → y ≡ y' → length y' ≡ n → z ≡ z'
      → put_mid (length w / 2) (length w - length w / 2) (put_mid 0 (length w / 2 - 0) w y) z ≡ y' ++ z'
  halves_put e h f = rw sub-zero (put_pair (length w / 2) (length w - length w / 2) w e (omega arith) f (omega arith))

-- read
pub halves_read : (n : ℕ) {w a b : List ℕ} → w ≡ a ++ b → length a ≡ n → length b ≡ n
    → (take (length w - length w / 2) (drop (length w / 2) w) ≡ b) × (take (length w / 2 - 0) w ≡ a)
halves_read n {w} {a} {b} is h k =
    let long : length w ≡ 2 * n = rw (is, length-append a b) (omega arith) in
    let half : length w / 2 ≡ n = omega arith in
    let rest : length w - length w / 2 ≡ n = omega arith in
    let second : drop n w ≡ b = rw is (drop_at a b n h) in (
      rw (rest, half, second) (take_all n b (omega arith)),
      rw (sub-zero, half, is) (take_at a b n h),
    )
