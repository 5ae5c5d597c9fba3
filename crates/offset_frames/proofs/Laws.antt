-- A frame with its product offsets, from what the steps leave. Assumes nothing.
use mathlib.Core.Path.{◌≡◌, ap₂, ◌∙◌}
use mathlib.Core.List.{List}
use Prim.Native.Nat.{ℕ, ◌+◌, ◌-◌}
use native.Mathlib.Omega.{arith}
use lib.ListN.{take, drop}
use Rattle.slices.specs.Lists.{put}
use Rattle.slices.specs.Layout.{total}
use Rattle.banquet.specs.declared.Shape.{Shape}
use Rattle.banquet.specs.Shape.{tape_sizes}
use Rattle.forms.specs.Offsets.{worked_offsets}
use Rattle.signing.specs.Steps.{offsets_at, witness_length, offset_frame}

module _ (S : Shape) (frame : List ℕ) {o p size : ℕ} (from : o ≡ offsets_at S) (behind : p ≡ offsets_at S + witness_length S)
    (z : size ≡ total (tape_sizes S)) where
  sum_size : o + size - o ≡ total (tape_sizes S)
  sum_size = omega (arith, z)

  -- the product offsets are written over its product shares
  pub offset_made : (us vs lasts first : List ℕ) {products out : List ℕ}
      → products ≡ worked_offsets S us vs lasts (take (o + size - o) (drop o frame)) first
      → out ≡ put frame p products → out ≡ offset_frame S us vs lasts first frame
  unfolding offset_frame
  offset_made us vs lasts first made e =
      e ∙ ap₂ (put frame) behind (made ∙ ap₂ (λ k b. worked_offsets S us vs lasts (take k (drop b frame)) first) sum_size from)
