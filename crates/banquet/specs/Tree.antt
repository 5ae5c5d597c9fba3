-- The tree of seeds: "Root is node 0, party i is node 15+i", which is leaf i below the root.
use Rattle.std.specs.Prelude.{◌≡◌, ltb, get_or, take, drop, replicate}
use Rattle.std.proofs.Math.Path.{refl}
use mathlib.Core.List.{List, [], ◌∷◌, ◌++◌, map}
use Prim.Native.Nat.{ℕ, zero, suc, ◌+◌, ◌-◌, ◌*◌, ◌^◌}
use Rattle.slices.specs.Lists.{choose, tab, part}
use Rattle.slices.specs.Layout.{layout}
use Rattle.banquet.specs.Hash.{children}

-- a node's number and seed
abbrev pub Node : Type 0
Node = ℕ × List ℕ

abbrev pub node_numbers : List Node → List ℕ
node_numbers nodes = map (λ (n : Node). n.0) nodes

-- the seeds of a list of nodes, one after the other, and that of node i in the list
abbrev pub node_seeds : List Node → List ℕ
node_seeds nodes = layout (map (λ (n : Node). n.1) nodes)

abbrev pub seed_at : List Node → ℕ → List ℕ
seed_at nodes i = (get_or nodes i (0, [])).1

module _ (hash : List ℕ → ℕ → List ℕ) (salt : List ℕ) (e : ℕ) where
  -- the seeds of nodes 2v+1 and 2v+2, from that of node v
  abbrev pub left : ℕ → List ℕ → List ℕ
  left v seed = part 0 16 (children hash salt e v seed)

  abbrev pub right : ℕ → List ℕ → List ℕ
  right v seed = part 16 16 (children hash salt e v seed)

  -- The 2^d leaves below node v: "A subtree is expanded by expanding its two halves."
  unfoldable pub leaves : ℕ → ℕ → List ℕ → List Node
  leaves zero v seed = (v, seed) ∷ []
  leaves (suc d) v seed = leaves d (2 * v + 1) (left v seed) ++ leaves d (2 * v + 2) (right v seed)

  -- The siblings of the nodes on the way from node v to leaf h, "from the top down".
  unfoldable pub siblings : ℕ → ℕ → List ℕ → ℕ → List Node
  siblings zero v seed h = []
  siblings (suc d) v seed h =
      choose (ltb h (2 ^ d)) ((2 * v + 2, right v seed) ∷ siblings d (2 * v + 1) (left v seed) h)
      ((2 * v + 1, left v seed) ∷ siblings d (2 * v + 2) (right v seed) (h - 2 ^ d))

  abbrev pub sibling_seeds : ℕ → ℕ → List ℕ → ℕ → List ℕ
  sibling_seeds d v seed h = node_seeds (siblings d v seed h)

  -- The leaves that leaf h's sibling seeds "expand to": the first seed is that of the half without h, and the others are for the half with h. Leaf h
  -- itself has none: zeros stand there, which no check looks at.
  unfoldable pub shown_leaves : ℕ → ℕ → List ℕ → ℕ → List Node
  shown_leaves zero v seeds h = (v, replicate 16 0) ∷ []
  shown_leaves (suc d) v seeds h =
      choose (ltb h (2 ^ d)) (shown_leaves d (2 * v + 1) (drop 16 seeds) h ++ leaves d (2 * v + 2) (take 16 seeds))
      (leaves d (2 * v + 1) (take 16 seeds) ++ shown_leaves d (2 * v + 2) (drop 16 seeds) (h - 2 ^ d))

  -- ---- laws: the leaves' numbers, whatever the seeds are

  -- "party i is node 15+i"
  pub party_nodes : (root : List ℕ) → node_numbers (leaves 4 0 root) ≡ tab (λ i. 15 + i) 16
  unfolding leaves
  party_nodes root = refl
