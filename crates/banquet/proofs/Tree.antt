-- The numbers of the leaves in the tree of seeds, whatever the seeds are. Assumes nothing.
use Rattle.std.specs.Prelude.{◌≡◌, Bool, ltb, take, drop}
use Rattle.std.proofs.Math.Path.{refl, sym, ap₂}
use Rattle.std.proofs.Common.{◌∙◌}
use Rattle.std.proofs.Math.Bool.{true, false}
use mathlib.Core.List.{List, ◌++◌, map-append}
use Prim.Native.Nat.{ℕ, zero, suc, ◌+◌, ◌-◌, ◌*◌, ◌^◌}
use Rattle.slices.specs.Lists.{choose}
use Rattle.banquet.specs.Tree.{Node, node_numbers, left, right, leaves, shown_leaves}

module _ (hash : List ℕ → ℕ → List ℕ) (salt : List ℕ) (e : ℕ) where
  abbrev below : ℕ → ℕ → List ℕ → List Node
  below = leaves hash salt e

  abbrev shown : ℕ → ℕ → List ℕ → ℕ → List Node
  shown = shown_leaves hash salt e

  abbrev fore : ℕ → List ℕ → List ℕ
  fore = left hash salt e

  abbrev aft : ℕ → List ℕ → List ℕ
  aft = right hash salt e

  leaves_numbers : (d v : ℕ) (seed seed' : List ℕ) → node_numbers (leaves hash salt e d v seed) ≡ node_numbers (leaves hash salt e d v seed')
  unfolding leaves
  leaves_numbers zero v seed seed' = refl
  leaves_numbers (suc d) v seed seed' =
      map-append _ (below d (2 * v + 1) (fore v seed)) _
      ∙ ap₂ ◌++◌ (leaves_numbers d (2 * v + 1) (fore v seed) (fore v seed')) (leaves_numbers d (2 * v + 2) (aft v seed) (aft v seed'))
      ∙ sym (map-append _ (below d (2 * v + 1) (fore v seed')) _)

  -- those shown are the same
  pub shown_numbers : (d v : ℕ) (seeds : List ℕ) (h : ℕ) (seed : List ℕ)
      → node_numbers (shown_leaves hash salt e d v seeds h) ≡ node_numbers (leaves hash salt e d v seed)
  unfolding shown_leaves leaves
  shown_numbers zero v seeds h seed = refl
  shown_numbers (suc d) v seeds h seed = go (ltb h (2 ^ d)) (shown_numbers d)
    where
      go : (t : Bool) → ((v : ℕ) (seeds : List ℕ) (h : ℕ) (seed : List ℕ) → node_numbers (shown d v seeds h) ≡ node_numbers (below d v seed))
          → node_numbers (choose t (shown d (2 * v + 1) (drop 16 seeds) h ++ below d (2 * v + 2) (take 16 seeds))
          (below d (2 * v + 1) (take 16 seeds) ++ shown d (2 * v + 2) (drop 16 seeds) (h - 2 ^ d)))
          ≡ node_numbers (below d (2 * v + 1) (fore v seed) ++ below d (2 * v + 2) (aft v seed))
      go true ih =
          map-append _ (shown d (2 * v + 1) (drop 16 seeds) h) _
          ∙ ap₂ ◌++◌ (ih (2 * v + 1) (drop 16 seeds) h (fore v seed)) (leaves_numbers d (2 * v + 2) (take 16 seeds) (aft v seed))
          ∙ sym (map-append _ (below d (2 * v + 1) (fore v seed)) _)
      go false ih =
          map-append _ (below d (2 * v + 1) (take 16 seeds)) _
          ∙ ap₂ ◌++◌ (leaves_numbers d (2 * v + 1) (take 16 seeds) (fore v seed)) (ih (2 * v + 2) (drop 16 seeds) (h - 2 ^ d) (aft v seed))
          ∙ sym (map-append _ (below d (2 * v + 1) (fore v seed)) _)
