-- The seeds of a subtree's leaves, from what was computed for the halves. Assumes nothing.
use mathlib.Core.Path.{◌≡◌, sym, ◌∙◌}
use mathlib.Core.List.{List, ◌++◌, append-nil}
use Prim.Native.Nat.{ℕ, zero, suc, ◌+◌, ◌-◌, ◌*◌, ◌^◌, ◌<◌, ◌≤◌}
use native.Mathlib.Omega.{arith}
use borrow.Author.Tests.{lt-ltb, le-ltb}
use lib.ListN.{length, take, drop, replicate}
use Rattle.slices.specs.Layout.{layout}
use Rattle.shake.specs.Shake128.{shake128}
use Rattle.banquet.specs.Hash.{children}
use Rattle.banquet.specs.Tree.{node_seeds, left, leaves, shown_leaves}
use Rattle.tree.specs.Rows.{seeds_append}
use Rattle.tree.proofs.Halves.{rest}

-- p has the seeds of the two nodes below v
module _ (salt : List ℕ) (e v : ℕ) (seed : List ℕ) {p : List ℕ} (pair : p ≡ children shake128 salt e v seed) where
  pub leaves_from : (d : ℕ) {y z : List ℕ} → 1 ≤ d → y ≡ node_seeds (leaves shake128 salt e (d - 1) (2 * v + 1) (take 16 p))
      → z ≡ node_seeds (leaves shake128 salt e (d - 1) (2 * v + 2) (take 16 (drop 16 p))) → y ++ z ≡ node_seeds (leaves shake128 salt e d v seed)
  unfolding leaves
  leaves_from zero n f g = absurd (omega arith)
  leaves_from (suc d) n f g =
      let k : suc d - 1 ≡ d = omega arith in
      rw (f, g, pair, k) (sym (seeds_append (leaves shake128 salt e d (2 * v + 1) (left shake128 salt e v seed)) _))

pub leaves_none : (salt : List ℕ) (e v : ℕ) (seed : List ℕ) (d : ℕ) {y : List ℕ} → d ≡ 0 → y ≡ seed
    → y ≡ node_seeds (leaves shake128 salt e d v seed)
unfolding leaves layout
leaves_none salt e v seed d w f = f ∙ rw w (sym (append-nil seed))

-- h is the hidden leaf, and m half of the leaves
module _ (salt : List ℕ) (e v : ℕ) (seeds : List ℕ) (h : ℕ) where
  pub shown_none : (d n : ℕ) {y : List ℕ} → d ≡ 0 → n ≡ 16 * 2 ^ d → y ≡ replicate n 0 → y ≡ node_seeds (shown_leaves shake128 salt e d v seeds h)
  unfolding shown_leaves layout
  shown_none d n w f g = g ∙ rw (f, w)

  pub shown_left : (d : ℕ) {m : ℕ} {y z : List ℕ} → 1 ≤ d → m ≡ 2 ^ (d - 1) → h < m
      → y ≡ node_seeds (shown_leaves shake128 salt e (d - 1) (2 * v + 1) (take (length seeds - 16) (drop 16 seeds)) h)
      → z ≡ node_seeds (leaves shake128 salt e (d - 1) (2 * v + 2) (take 16 seeds)) → y ++ z ≡ node_seeds (shown_leaves shake128 salt e d v seeds h)
  unfolding shown_leaves
  shown_left zero n w l f g = absurd (omega arith)
  shown_left (suc d) n w l f g =
      let k : suc d - 1 ≡ d = omega arith in
      rw (f, g, rest seeds, k, lt-ltb h (2 ^ d) (rw (w, k) at l)) (sym (seeds_append (shown_leaves shake128 salt e d (2 * v + 1) (drop 16 seeds) h) _))

  pub shown_right : (d : ℕ) {m : ℕ} {y z : List ℕ} → 1 ≤ d → m ≡ 2 ^ (d - 1) → m ≤ h
      → y ≡ node_seeds (leaves shake128 salt e (d - 1) (2 * v + 1) (take 16 seeds))
      → z ≡ node_seeds (shown_leaves shake128 salt e (d - 1) (2 * v + 2) (take (length seeds - 16) (drop 16 seeds)) (h - m))
      → y ++ z ≡ node_seeds (shown_leaves shake128 salt e d v seeds h)
  unfolding shown_leaves
  shown_right zero n w l f g = absurd (omega arith)
  shown_right (suc d) n w l f g =
      let k : suc d - 1 ≡ d = omega arith in
      rw (f, g, rest seeds, w, k, le-ltb h (2 ^ d) (rw (w, k) at l)) (sym (seeds_append (leaves shake128 salt e d (2 * v + 1) (take 16 seeds)) _))
