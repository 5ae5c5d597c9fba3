-- The seeds of nodes stand in rows of 16 bytes: row i is the seed of node i in the list. Assumes nothing.
use Rattle.std.specs.Prelude.{◌≡◌, refl, Bool, true, false, List, [], ◌∷◌, ◌++◌, ltb, take, drop}
use Rattle.std.proofs.Common.{sym, ap, ◌∙◌, append_assoc, suc-mul, arith, length-append, length-drop, take_at}
use Prim.Native.Nat.{ℕ, zero, suc, ◌+◌, ◌-◌, ◌*◌, ◌^◌, ◌<◌}
use Rattle.std.proofs.Math.ListN.{length}
use Rattle.std.proofs.Math.Seq.{drop-append-add, length-take-le}
use Rattle.slices.specs.Lists.{choose, row}
use Rattle.slices.specs.Bytes.{Sized}
use Rattle.slices.specs.Layout.{layout}
use Rattle.shake.specs.Shake128.{shake128}
use Rattle.shake.proofs.Laws.{sized_shake}
use Rattle.banquet.specs.Tree.{Node, node_seeds, seed_at, left, leaves, shown_leaves}
use Rattle.theorems.specs.Seeds.{length_left, length_right, length_leaves, length_shown_leaves}

-- ---- any nodes

pub seeds_append : (a b : List Node) → node_seeds (a ++ b) ≡ node_seeds a ++ node_seeds b
unfolding layout
seeds_append [] b = refl
seeds_append (n ∷ a) b = ap (n.1 ++◌) (seeds_append a b) ∙ sym (append_assoc n.1 (node_seeds a) (node_seeds b))

-- every seed has 16 bytes
abbrev pub SeedSized : List Node → Type 0
SeedSized [] = Unit {0}
SeedSized (n ∷ nodes) = (length n.1 ≡ 16) × SeedSized nodes

sized_append : (a b : List Node) → SeedSized a → SeedSized b → SeedSized (a ++ b)
sized_append [] b p q = q
sized_append (n ∷ a) b p q = (p.0, sized_append a b p.1 q)

sized_choose : (t : Bool) (a b : List Node) → SeedSized a → SeedSized b → SeedSized (choose t a b)
sized_choose true a b p q = p
sized_choose false a b p q = q

pub length_seeds : (nodes : List Node) → SeedSized nodes → length (node_seeds nodes) ≡ length nodes * 16
unfolding layout
length_seeds [] p = refl
length_seeds (n ∷ nodes) p = length-append n.1 (node_seeds nodes) ∙ omega (arith, p.0, length_seeds nodes p.1)

pub row_seed : (nodes : List Node) → SeedSized nodes → (i : ℕ) → i < length nodes → row 16 i (node_seeds nodes) ≡ seed_at nodes i
unfolding layout
row_seed [] p i l = absurd (omega arith)
row_seed (n ∷ nodes) p zero l = take_at n.1 (node_seeds nodes) 16 p.0
row_seed (n ∷ nodes) p (suc i) l =
    ap (λ (k : ℕ). take 16 (drop k (n.1 ++ node_seeds nodes))) next
    ∙ ap (take 16) (drop-append-add n.1 (node_seeds nodes) (i * 16))
    ∙ row_seed nodes p.1 i (omega arith)
  where
    next : suc i * 16 ≡ length n.1 + i * 16
    next = omega (arith, suc-mul i 16, p.0)

-- ---- leaves, all of them and those shown, for any hash that gives as many bytes as are asked for

module _ (hash : List ℕ → ℕ → List ℕ) (hash_sized : (m : List ℕ) (n : ℕ) → Sized n (hash m n)) (salt : List ℕ) (e : ℕ) where
  pub sized_leaves : (d v : ℕ) (seed : List ℕ) → length seed ≡ 16 → SeedSized (leaves hash salt e d v seed)
  unfolding leaves
  sized_leaves zero v seed h = (h, tt)
  sized_leaves (suc d) v seed h =
      sized_append (leaves hash salt e d (2 * v + 1) (left hash salt e v seed)) _
      (sized_leaves d (2 * v + 1) _ (length_left hash hash_sized salt e v seed))
      (sized_leaves d (2 * v + 2) _ (length_right hash hash_sized salt e v seed))

  pub sized_shown : (d v : ℕ) (seeds : List ℕ) (h : ℕ) → length seeds ≡ d * 16 → SeedSized (shown_leaves hash salt e d v seeds h)
  unfolding shown_leaves
  sized_shown zero v seeds h k = (refl, tt)
  sized_shown (suc d) v seeds h k =
      sized_choose (ltb h (2 ^ d)) _ _
      (sized_append (shown_leaves hash salt e d (2 * v + 1) (drop 16 seeds) h) _ (sized_shown d (2 * v + 1) (drop 16 seeds) h rest)
      (sized_leaves d (2 * v + 2) (take 16 seeds) first))
      (sized_append (leaves hash salt e d (2 * v + 1) (take 16 seeds)) _ (sized_leaves d (2 * v + 1) (take 16 seeds) first)
      (sized_shown d (2 * v + 2) (drop 16 seeds) (h - 2 ^ d) rest))
    where
      first : length (take 16 seeds) ≡ 16
      first = length-take-le 16 seeds (omega arith)

      rest : length (drop 16 seeds) ≡ d * 16
      rest = length-drop 16 seeds ∙ omega arith

-- ---- for SHAKE128

module _ (salt : List ℕ) (e d v : ℕ) where
  module _ (seed : List ℕ) (h : length seed ≡ 16) where
    sized : SeedSized (leaves shake128 salt e d v seed)
    sized = sized_leaves shake128 sized_shake salt e d v seed h

    long : length (leaves shake128 salt e d v seed) ≡ 2 ^ d
    long = length_leaves shake128 sized_shake salt e d v seed

    pub length_leaf_seeds : length (node_seeds (leaves shake128 salt e d v seed)) ≡ 2 ^ d * 16
    length_leaf_seeds = length_seeds (leaves shake128 salt e d v seed) sized ∙ ap (◌* 16) long

    pub row_leaf : (i : ℕ) → i < 2 ^ d → row 16 i (node_seeds (leaves shake128 salt e d v seed)) ≡ seed_at (leaves shake128 salt e d v seed) i
    row_leaf i l = row_seed (leaves shake128 salt e d v seed) sized i (rw long l)

  module _ (seeds : List ℕ) (h : ℕ) (k : length seeds ≡ d * 16) where
    sized_all : SeedSized (shown_leaves shake128 salt e d v seeds h)
    sized_all = sized_shown shake128 sized_shake salt e d v seeds h k

    long_all : length (shown_leaves shake128 salt e d v seeds h) ≡ 2 ^ d
    long_all = length_shown_leaves shake128 sized_shake salt e d v seeds h

    pub length_shown_seeds : length (node_seeds (shown_leaves shake128 salt e d v seeds h)) ≡ 2 ^ d * 16
    length_shown_seeds = length_seeds (shown_leaves shake128 salt e d v seeds h) sized_all ∙ ap (◌* 16) long_all

    pub row_shown : (i : ℕ) → i < 2 ^ d
        → row 16 i (node_seeds (shown_leaves shake128 salt e d v seeds h)) ≡ seed_at (shown_leaves shake128 salt e d v seeds h) i
    row_shown i l = row_seed (shown_leaves shake128 salt e d v seeds h) sized_all i (rw long_all l)
