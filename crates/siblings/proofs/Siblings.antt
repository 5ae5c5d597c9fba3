-- The seeds of a leaf's siblings, from those that were computed for one half. Assumes nothing.
use mathlib.Core.Path.{◌≡◌, refl, ap, ◌∙◌}
use mathlib.Core.List.{List, [], ◌∷◌, ◌++◌, append-nil}
use Prim.Native.Nat.{ℕ, zero, suc, ◌+◌, ◌-◌, ◌*◌, ◌%◌, ◌^◌, ◌<◌, ◌≤◌}
use native.Mathlib.Omega.{arith}
use native.Mathlib.Decide.{dec_lt}
use borrow.Author.Tests.{lt-ltb, le-ltb}
use lib.Pow.{pow_mono}
use lib.ListN.{length, take, drop, drop_of_length-le}
use borrow.Rule.Slice.PartMut.{put_mid}
use Rattle.slices.specs.Lists.{put}
use Rattle.slices.specs.Layout.{layout}
use Rattle.slices.proofs.Put.{Wrote, wrote_none, wrote_more, wrote_lent, wrote_all}
use Rattle.shake.specs.Shake128.{shake128}
use Rattle.banquet.specs.Hash.{children}
use Rattle.banquet.specs.Tree.{siblings, sibling_seeds}
use Rattle.nodes.proofs.Halves.{Halved, both_long}

-- what the code writes `1 << (d - 1)`
shallow : (n : ℕ) → 2 ^ n ≤ 256 → n < 64
shallow n h = go (dec_lt n 64)
  where
    go : Dec (n < 64) → n < 64
    go (yes l) = l
    go (no l) = let m : 2 ^ 64 ≤ 2 ^ n = pow_mono {i = 64} {j = n} (omega arith) in absurd (omega arith)

pub shift_lt : {v d : ℕ} → Halved v d → d - 1 < 64
shift_lt {v} {d} b = shallow (d - 1) b.few

pub shift_is : {v d : ℕ} → Halved v d → 1 * 2 ^ (d - 1) % 18446744073709551616 ≡ 2 ^ (d - 1)
shift_is {v} {d} b = omega (arith, b.few)

-- p has the seeds of the two nodes below v, h is the hidden leaf, and m half of the leaves
module _ (salt : List ℕ) (e v : ℕ) (seed : List ℕ) {p : List ℕ} (pair : p ≡ children shake128 salt e v seed) (h : ℕ) where
  siblings_left : (d : ℕ) {m : ℕ} {y z : List ℕ} → 1 ≤ d → m ≡ 2 ^ (d - 1) → h < m → y ≡ take 16 (drop 16 p)
      → z ≡ sibling_seeds shake128 salt e (d - 1) (2 * v + 1) (take 16 p) h → y ++ z ≡ sibling_seeds shake128 salt e d v seed h
  unfolding siblings layout
  siblings_left zero n w l f g = absurd (omega arith)
  siblings_left (suc d) n w l f g = let k : suc d - 1 ≡ d = omega arith in rw (f, g, pair, k, lt-ltb h (2 ^ d) (rw (w, k) at l))

  siblings_right : (d : ℕ) {m : ℕ} {y z : List ℕ} → 1 ≤ d → m ≡ 2 ^ (d - 1) → m ≤ h → y ≡ take 16 p
      → z ≡ sibling_seeds shake128 salt e (d - 1) (2 * v + 2) (take 16 (drop 16 p)) (h - m) → y ++ z ≡ sibling_seeds shake128 salt e d v seed h
  unfolding siblings layout
  siblings_right zero n w l f g = absurd (omega arith)
  siblings_right (suc d) n w l f g = let k : suc d - 1 ≡ d = omega arith in rw (f, g, pair, w, k, le-ltb h (2 ^ d) (rw (w, k) at l))

-- the seed at index o, as the code reads it
abbrev pub seed_at : ℕ → List ℕ → List ℕ
seed_at o p = take (o + 16 - o) (drop o p)

-- a step down from v to its child c, which has leaf f hidden; in the pair p its seed is at index o, and the sibling's at 16 - o
pub record Step (salt : List ℕ) (e v : ℕ) (seed p : List ℕ) (h d c f o : ℕ) : Type 0 where
  pub place : o ≤ 16
  pub own : length (seed_at o p) ≡ 16
  pub other : length (seed_at (16 - o) p) ≡ 16
  pub fits : (c + 2) * 2 ^ (d - 1) ≤ 256
  pub joined : {z : List ℕ} → z ≡ sibling_seeds shake128 salt e (d - 1) c (seed_at o p) f
      → seed_at (16 - o) p ++ z ≡ sibling_seeds shake128 salt e d v seed h

module _ (salt : List ℕ) (e v : ℕ) (seed : List ℕ) {p : List ℕ} (pair : p ≡ children shake128 salt e v seed) (h : ℕ) {d m c f o : ℕ} (b : Halved v d)
    (half : m ≡ 2 ^ (d - 1)) where
  pub step_left : h < m → c ≡ 2 * v + 1 → f ≡ h → o ≡ 0 → Step salt e v seed p h d c f o
  step_left l is leaf at =
      let both = both_long salt e v seed pair in
      let sibling : seed_at (16 - o) p ≡ take 16 (drop 16 p) = rw at in
      record {
        place = omega arith;
        own = rw at both.0;
        other = rw at both.1;
        fits = rw is b.left;
        joined = λ g. siblings_left salt e v seed pair h d b.deep half l sibling (g ∙ rw (is, leaf, at));
      }

  pub step_right : m ≤ h → c ≡ 2 * v + 1 + 1 → f ≡ h - m → o ≡ 16 → Step salt e v seed p h d c f o
  step_right l next leaf at =
      let both = both_long salt e v seed pair in
      let sibling : seed_at (16 - o) p ≡ take 16 p = rw at in
      let is : c ≡ 2 * v + 2 = omega arith in
      record {
        place = omega arith;
        own = rw at both.1;
        other = rw at both.0;
        fits = rw is b.right;
        joined = λ g. siblings_right salt e v seed pair h d b.deep half l sibling (g ∙ rw (is, leaf, at));
      }

-- ---- the output: a seed, and the others

-- the seed s is written
pub first : (s : List ℕ) {d l : List ℕ} → length s ≡ 16 → l ≡ put d 0 s → length l ≡ length d → Wrote d s 16 l
first s {d} = wrote_more s (wrote_none d)

-- and z behind it
pub both : (s z : List ℕ) {d l : List ℕ} → Wrote d s 16 l → 16 ≤ length d → length z ≡ length (take (length d - 16) (drop 16 l))
    → put_mid 16 (length d - 16) l z ≡ s ++ z
both s z {d} {l} w room kept =
    wrote_all (wrote_lent z (length d) w room (omega arith) refl kept)
    ∙ ap (λ (r : List ℕ). (s ++ z) ++ r) (drop_of_length-le d {i = length d} (omega arith)) ∙ append-nil (s ++ z)

pub siblings_none : (salt : List ℕ) (e v : ℕ) (seed : List ℕ) (h d : ℕ) (y : List ℕ) → d ≡ 0 → length y ≡ d * 16
    → y ≡ sibling_seeds shake128 salt e d v seed h
unfolding siblings layout
siblings_none salt e v seed h d [] w f = rw w
siblings_none salt e v seed h d (b ∷ y) w f = absurd (omega arith)
