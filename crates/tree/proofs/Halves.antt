-- A subtree's output, of which one half is lent after the other, and the siblings' seeds without the first. Assumes nothing.
use mathlib.Core.Path.{◌≡◌, ap, ◌∙◌}
use mathlib.Core.List.{List}
use Prim.Native.Nat.{ℕ, ◌-◌, ◌*◌, ◌/◌, ◌^◌}
use native.Mathlib.Omega.{arith}
use borrow.Rule.Slice.PartMut.{put_mid}
use lib.ListN.{length, take, drop, length-drop}
use lib.Seq.{take_all, length-take-le}
use Rattle.nodes.proofs.Halves.{Halved, rest_long}

-- the output
module _ {v n : ℕ} (b : Halved v n) (d : List ℕ) (size : length d ≡ 16 * 2 ^ n) where
  pub first_half : length (take (length d / 2 - 0) d) ≡ 16 * 2 ^ (n - 1)
  first_half = length-take-le (length d / 2 - 0) d (omega arith) ∙ omega arith

  pub second_half : (y : List ℕ) → length y ≡ length (take (length d / 2 - 0) d)
      → length (take (length d - length d / 2) (drop (length d / 2) (put_mid 0 (length d / 2 - 0) d y))) ≡ 16 * 2 ^ (n - 1)
  second_half y kept = rest_long d y (length d / 2) (omega arith) kept ∙ omega arith

  pub middle : length d / 2 / 16 ≡ 2 ^ (n - 1)
  middle = omega arith

-- the rest of the siblings' seeds, as the code writes it
pub rest : (s : List ℕ) → take (length s - 16) (drop 16 s) ≡ drop 16 s
rest s = take_all (length s - 16) (drop 16 s) (omega (arith, length-drop 16 s))

pub seeds_long : (d : ℕ) (s : List ℕ) → length s ≡ d * 16 → length (take (length s - 16) (drop 16 s)) ≡ (d - 1) * 16
seeds_long d s e = ap length (rest s) ∙ length-drop 16 s ∙ omega arith
