-- Halving, for the crates above: a subtree's numbers, its two seeds, and a slice that is lent in two parts. Assumes nothing.
use mathlib.Core.Path.{◌≡◌, refl, sym, ap, ◌∙◌}
use mathlib.Core.List.{List, ◌++◌}
use Prim.Native.Nat.{ℕ, zero, suc, ◌+◌, ◌-◌, ◌*◌, ◌^◌, ◌≤◌}
use native.Mathlib.Nat.{pow-succ', mul_assoc, mul-le-mul_right, le-mul_of_pos_right}
use native.Mathlib.Omega.{arith}
use lib.Pow.{pow_pos}
use borrow.Rule.Slice.PartMut.{put_mid, same_len_mid}
use lib.ListN.{length, take, drop, length-drop}
use lib.Seq.{length-take-le}
use Rattle.slices.proofs.Put.{put_pair}
use Rattle.shake.specs.Shake128.{shake128}
use Rattle.shake.proofs.Laws.{length_shake}
use Rattle.banquet.specs.Hash.{children}

-- of a node v at depth d, where the tree has at most 128 leaves, and of the two nodes below it
pub record Halved (v d : ℕ) : Type 0 where
  pub small : v ≤ 254
  pub deep : 1 ≤ d
  pub few : 2 ^ (d - 1) ≤ 256
  pub two : 2 ^ d ≡ 2 * 2 ^ (d - 1)
  pub left : (2 * v + 1 + 2) * 2 ^ (d - 1) ≤ 256
  pub right : (2 * v + 2 + 2) * 2 ^ (d - 1) ≤ 256

pub halved : (v d : ℕ) → 1 ≤ d → (v + 2) * 2 ^ d ≤ 256 → Halved v d
halved v zero n h = absurd (omega arith)
halved v (suc d) n h =
    let e : suc d - 1 ≡ d = omega arith in
    let twice : 2 * v + 2 + 2 ≡ (v + 2) * 2 = omega arith in
    let right : (2 * v + 2 + 2) * 2 ^ d ≡ (v + 2) * 2 ^ suc d =
    ap (◌* 2 ^ d) twice ∙ mul_assoc (v + 2) 2 (2 ^ d) ∙ ap ((v + 2) *◌) (sym (pow-succ' 2 d)) in
    let left : (2 * v + 1 + 2) * 2 ^ d ≤ (2 * v + 2 + 2) * 2 ^ d = mul-le-mul_right (2 ^ d) (omega arith) in
    let one : 1 * 2 ^ d ≤ (2 * v + 1 + 2) * 2 ^ d = mul-le-mul_right (2 ^ d) (omega arith) in
    record {
      small = omega (arith, le-mul_of_pos_right {m = 2 ^ suc d} (v + 2) (pow_pos (suc d)));
      deep = n;
      few = rw e (omega (arith, one));
      two = rw e (pow-succ' 2 d);
      left = rw e (omega arith);
      right = rw e (omega arith);
    }

-- p has the seeds of the two nodes below v
module _ (salt : List ℕ) (e v : ℕ) (seed : List ℕ) {p : List ℕ} (pair : p ≡ children shake128 salt e v seed) where
  pair_long : length p ≡ 32
  unfolding children
  pair_long = ap length pair ∙ length_shake _ 32

  pub both_long : (length (take 16 p) ≡ 16) × (length (take 16 (drop 16 p)) ≡ 16)
  both_long = (length-take-le 16 p (omega (arith, pair_long)), length-take-le 16 (drop 16 p) (omega (arith, length-drop 16 p, pair_long)))

-- ---- a slice in two parts

-- the first h elements were lent and came back as y
module _ (d y : List ℕ) (h : ℕ) (fits : h ≤ length d) (kept : length y ≡ length (take (h - 0) d)) where
  same : h - 0 ≡ h
  same = omega arith

  -- the others are lent
  pub rest_long : length (take (length d - h) (drop h (put_mid 0 (h - 0) d y))) ≡ length d - h
  rest_long =
      let whole = put_mid 0 (h - 0) d y in
      let size : length whole ≡ length d = same_len_mid 0 (h - 0) d y kept in
      length-take-le (length d - h) (drop h whole) (omega (arith, length-drop h whole))

  -- and come back as z
  pub join : (z : List ℕ) → put_mid h (length d - h) (put_mid 0 (h - 0) d y) z ≡ y ++ z
  join z =
      let long : length y ≡ h = kept ∙ length-take-le (h - 0) d (omega arith) ∙ same in
      rw same (put_pair h (length d - h) d {y = y} {y' = y} {z = z} {z' = z} refl long refl (omega arith))
