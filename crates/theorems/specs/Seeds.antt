-- The sibling seeds of a hidden leaf give all other leaves. Assumes nothing.
use Rattle.std.specs.Prelude.{◌≡◌, ◌≢◌, take, drop}
use Rattle.std.proofs.Math.Path.{refl}
use Rattle.std.proofs.Common.{sym, ap, ◌∙◌, arith, lt-ltb, le-ltb, length-take, get_or-append-add}
use mathlib.Core.List.{List, [], ◌++◌}
use Prim.Native.Nat.{ℕ, zero, suc, ◌+◌, ◌-◌, ◌*◌, ◌^◌, ◌<◌, ◌≤◌}
use Rattle.std.proofs.Math.Nat.{pow-succ'}
use Rattle.std.proofs.Math.Decide.{dec_lt}
use Rattle.std.proofs.Math.ListN.{length, length-append, length-drop, get_or-append}
use Rattle.std.proofs.Math.Seq.{take_at, drop_at}
use Rattle.slices.specs.Lists.{part}
use Rattle.slices.specs.Bytes.{Bytes, Sized, nil_bytes, append_bytes, part_bytes}
use Rattle.slices.specs.Layout.{layout}
use Rattle.banquet.specs.Hash.{children}
use Rattle.banquet.specs.Tree.{Node, seed_at, left, right, leaves, siblings, sibling_seeds, shown_leaves}

-- a leaf of two halves a and b, where a has n
left_leaf : (n : ℕ) (a b : List Node) → length a ≡ n → (i : ℕ) → i < n → seed_at (a ++ b) i ≡ seed_at a i
left_leaf n a b e i l = ap (λ (x : Node). x.1) (get_or-append a b (0, []) i (omega arith))

right_leaf : (n : ℕ) (a b : List Node) → length a ≡ n → (i : ℕ) → n ≤ i → seed_at (a ++ b) i ≡ seed_at b (i - n)
right_leaf n a b e i l = ap (seed_at (a ++ b)) (sym split) ∙ ap (λ (x : Node). x.1) (get_or-append-add a b (i - n) (0, []))
  where
    split : length a + (i - n) ≡ i
    split = omega arith

module _ (hash : List ℕ → ℕ → List ℕ) (hash_sized : (m : List ℕ) (n : ℕ) → Sized n (hash m n)) (salt : List ℕ) (e : ℕ) where
  pub length_left : (v : ℕ) (seed : List ℕ) → length (left hash salt e v seed) ≡ 16
  unfolding children
  length_left v seed = rw (length-take, (hash_sized _ 32).size)

  pub length_right : (v : ℕ) (seed : List ℕ) → length (right hash salt e v seed) ≡ 16
  unfolding children
  length_right v seed = rw (length-take, length-drop, (hash_sized _ 32).size)

  pub length_leaves : (d v : ℕ) (seed : List ℕ) → length (leaves hash salt e d v seed) ≡ 2 ^ d
  unfolding leaves
  length_leaves zero v seed = refl
  length_leaves (suc d) v seed =
      length-append (leaves hash salt e d (2 * v + 1) (left hash salt e v seed)) _
      ∙ omega (arith, length_leaves d (2 * v + 1) (left hash salt e v seed), length_leaves d (2 * v + 2) (right hash salt e v seed), pow-succ' 2 d)

  pub length_shown_leaves : (d v : ℕ) (seeds : List ℕ) (h : ℕ) → length (shown_leaves hash salt e d v seeds h) ≡ 2 ^ d
  unfolding shown_leaves
  length_shown_leaves zero v seeds h = refl
  length_shown_leaves (suc d) v seeds h = go (dec_lt h (2 ^ d)) (length_shown_leaves d)
    where
      go : Dec (h < 2 ^ d) → ((v : ℕ) (seeds : List ℕ) (h : ℕ) → length (shown_leaves hash salt e d v seeds h) ≡ 2 ^ d)
          → length (shown_leaves hash salt e (suc d) v seeds h) ≡ 2 ^ suc d
      go (yes l) ih =
          rw (lt-ltb h (2 ^ d) l, length-append)
          (omega (arith, ih (2 * v + 1) (drop 16 seeds) h, length_leaves d (2 * v + 2) (take 16 seeds), pow-succ' 2 d))
      go (no l) ih =
          rw (le-ltb h (2 ^ d) (omega arith), length-append)
          (omega (arith, length_leaves d (2 * v + 1) (take 16 seeds), ih (2 * v + 2) (drop 16 seeds) (h - 2 ^ d), pow-succ' 2 d))

  pub length_sibling_seeds : (d v : ℕ) (seed : List ℕ) (h : ℕ) → length (sibling_seeds hash salt e d v seed h) ≡ d * 16
  unfolding siblings layout
  length_sibling_seeds zero v seed h = refl
  length_sibling_seeds (suc d) v seed h = go (dec_lt h (2 ^ d)) (length_sibling_seeds d)
    where
      go : Dec (h < 2 ^ d) → ((v : ℕ) (seed : List ℕ) (h : ℕ) → length (sibling_seeds hash salt e d v seed h) ≡ d * 16)
          → length (sibling_seeds hash salt e (suc d) v seed h) ≡ suc d * 16
      go (yes l) ih = rw (lt-ltb h (2 ^ d) l, length-append) (omega (arith, length_right v seed, ih (2 * v + 1) (left hash salt e v seed) h))
      go (no l) ih =
          rw (le-ltb h (2 ^ d) (omega arith), length-append)
          (omega (arith, length_left v seed, ih (2 * v + 2) (right hash salt e v seed) (h - 2 ^ d)))

  children_bytes : (at v : ℕ) (seed : List ℕ) → Bytes (part at 16 (children hash salt e v seed))
  unfolding children
  children_bytes at v seed = part_bytes at 16 _ (hash_sized _ 32).bytes

  pub sibling_seeds_bytes : (d v : ℕ) (seed : List ℕ) (h : ℕ) → Bytes (sibling_seeds hash salt e d v seed h)
  unfolding siblings layout
  sibling_seeds_bytes zero v seed h = nil_bytes
  sibling_seeds_bytes (suc d) v seed h = go (dec_lt h (2 ^ d)) (sibling_seeds_bytes d)
    where
      go : Dec (h < 2 ^ d) → ((v : ℕ) (seed : List ℕ) (h : ℕ) → Bytes (sibling_seeds hash salt e d v seed h))
          → Bytes (sibling_seeds hash salt e (suc d) v seed h)
      go (yes l) ih = rw (lt-ltb h (2 ^ d) l) (append_bytes (children_bytes 16 v seed) (ih (2 * v + 1) (left hash salt e v seed) h))
      go (no l) ih =
          rw (le-ltb h (2 ^ d) (omega arith))
          (append_bytes (children_bytes 0 v seed) (ih (2 * v + 2) (right hash salt e v seed) (h - 2 ^ d)))

  -- the leaves shown, where leaf h is in the left half and where it is in the right
  module _ (d v : ℕ) (seed : List ℕ) (h : ℕ) where
    abbrev a : List ℕ
    a = left hash salt e v seed

    abbrev b : List ℕ
    b = right hash salt e v seed

    shown_left : h < 2 ^ d → shown_leaves hash salt e (suc d) v (sibling_seeds hash salt e (suc d) v seed h) h
        ≡ shown_leaves hash salt e d (2 * v + 1) (sibling_seeds hash salt e d (2 * v + 1) a h) h ++ leaves hash salt e d (2 * v + 2) b
    unfolding shown_leaves siblings layout
    shown_left p = rw (lt-ltb h (2 ^ d) p, drop_at b _ 16 (length_right v seed), take_at b _ 16 (length_right v seed)) refl

    shown_right : 2 ^ d ≤ h → shown_leaves hash salt e (suc d) v (sibling_seeds hash salt e (suc d) v seed h) h
        ≡ leaves hash salt e d (2 * v + 1) a
        ++ shown_leaves hash salt e d (2 * v + 2) (sibling_seeds hash salt e d (2 * v + 2) b (h - 2 ^ d)) (h - 2 ^ d)
    unfolding shown_leaves siblings layout
    shown_right p = rw (le-ltb h (2 ^ d) p, drop_at a _ 16 (length_left v seed), take_at a _ 16 (length_left v seed)) refl

  -- the statement at depth d
  abbrev Shown : ℕ → Type 0
  Shown d =
      (v : ℕ) (seed : List ℕ) (h i : ℕ) → h < 2 ^ d → i < 2 ^ d → i ≢ h
      → seed_at (shown_leaves hash salt e d v (sibling_seeds hash salt e d v seed h) h) i ≡ seed_at (leaves hash salt e d v seed) i

  pub shown_siblings : (d : ℕ) → Shown d
  unfolding leaves
  shown_siblings zero v seed h i lh li ne = absurd (ne (omega arith))
  shown_siblings (suc d) v seed h i lh li ne = go (dec_lt h (2 ^ d)) (dec_lt i (2 ^ d)) (shown_siblings d)
    where
      half : 2 ^ suc d ≡ 2 * 2 ^ d
      half = pow-succ' 2 d

      A : List Node
      A = leaves hash salt e d (2 * v + 1) (left hash salt e v seed)

      B : List Node
      B = leaves hash salt e d (2 * v + 2) (right hash salt e v seed)

      -- the half with h, shown
      C : List Node
      C = shown_leaves hash salt e d (2 * v + 1) (sibling_seeds hash salt e d (2 * v + 1) (left hash salt e v seed) h) h

      D : List Node
      D = shown_leaves hash salt e d (2 * v + 2) (sibling_seeds hash salt e d (2 * v + 2) (right hash salt e v seed) (h - 2 ^ d)) (h - 2 ^ d)

      size_C : length C ≡ 2 ^ d
      size_C = length_shown_leaves d (2 * v + 1) _ h

      size_A : length A ≡ 2 ^ d
      size_A = length_leaves d (2 * v + 1) (left hash salt e v seed)

      go : Dec (h < 2 ^ d) → Dec (i < 2 ^ d) → Shown d
          → seed_at (shown_leaves hash salt e (suc d) v (sibling_seeds hash salt e (suc d) v seed h) h) i ≡ seed_at (A ++ B) i
      go (yes p) (yes q) ih =
          ap (λ (l : List Node). seed_at l i) (shown_left d v seed h p) ∙ left_leaf (2 ^ d) C B size_C i q
          ∙ ih (2 * v + 1) (left hash salt e v seed) h i p q ne ∙ sym (left_leaf (2 ^ d) A B size_A i q)
      go (yes p) (no q) ih =
          ap (λ (l : List Node). seed_at l i) (shown_left d v seed h p)
          ∙ right_leaf (2 ^ d) C B size_C i (omega arith) ∙ sym (right_leaf (2 ^ d) A B size_A i (omega arith))
      go (no p) (yes q) ih =
          ap (λ (l : List Node). seed_at l i) (shown_right d v seed h (omega arith)) ∙ left_leaf (2 ^ d) A D size_A i q
          ∙ sym (left_leaf (2 ^ d) A B size_A i q)
      go (no p) (no q) ih =
          ap (λ (l : List Node). seed_at l i) (shown_right d v seed h (omega arith)) ∙ right_leaf (2 ^ d) A D size_A i (omega arith)
          ∙ ih (2 * v + 2) (right hash salt e v seed) (h - 2 ^ d) (i - 2 ^ d) (omega arith) (omega arith) (λ z. ne (omega arith))
          ∙ sym (right_leaf (2 ^ d) A B size_A i (omega arith))
