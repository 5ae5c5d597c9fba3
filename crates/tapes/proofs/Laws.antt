-- The parts of a tape: what they are, and how long. Assumes nothing.
use mathlib.Core.Path.{◌≡◌, ap, ◌∙◌}
use mathlib.Core.List.{List}
use Prim.Native.Nat.{ℕ, ◌*◌, ◌^◌, ◌<◌, ◌≤◌}
use native.Mathlib.Omega.{arith}
use lib.ListN.{length, get_or}
use Rattle.slices.specs.Layout.{field, total, length_field}
use Rattle.banquet.specs.declared.Shape.{Shape}
use Rattle.banquet.specs.Shape.{tape_sizes}
use Rattle.banquet.specs.Sets.{scheme_of}
use Rattle.banquet.specs.Execution.{tape_part}
use Rattle.sets.specs.Valid.{Valid}
use Rattle.sets.proofs.Bounds.{tape_most}

module _ {S : Shape} (v : Valid S) where
  pub sizes_fit : {k : ℕ} {sizes : List ℕ} (t : List ℕ) → sizes ≡ tape_sizes S → k < 4 → length t ≡ total (tape_sizes S)
      → (k < length sizes) × (total sizes ≤ length t) × (total sizes < 2 ^ 63)
  sizes_fit t e h l = rw e (h, omega arith, omega (arith, tape_most v))

  pub part_is : (k : ℕ) (t : List ℕ) {sizes r : List ℕ} → sizes ≡ tape_sizes S → r ≡ field sizes k t → r ≡ tape_part (scheme_of S) k t
  unfolding tape_part
  part_is k t e h = h ∙ ap (λ s. field s k t) e

  pub part_long : (k : ℕ) (t : List ℕ) {r : List ℕ} → length t ≡ total (tape_sizes S) → r ≡ tape_part (scheme_of S) k t
      → length r ≡ get_or (tape_sizes S) k 0
  unfolding tape_part
  part_long k t l h = ap length h ∙ length_field (tape_sizes S) k t l

  -- numbers of a part that are loaded
  pub load_fits : (k : ℕ) {n m : ℕ} → n ≡ k → k * S.wide ≤ m → (S.wide ≤ 8) × (n * S.wide ≤ m)
  load_fits k e h = (omega (arith, v.wide_most), rw e h)
