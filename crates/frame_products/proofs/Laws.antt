-- The parts c, a and b of frame e, and its product check. Assumes nothing.
use mathlib.Core.Path.{◌≡◌, ap, ◌∙◌}
use mathlib.Core.Bool.{Bool}
use mathlib.Core.List.{List}
use Prim.Native.Nat.{ℕ, ◌*◌, ◌<◌}
use lib.ListN.{length}
use Rattle.slices.specs.Layout.{total}
use Rattle.banquet.specs.declared.Shape.{Shape}
use Rattle.banquet.specs.Shape.{frame_sizes, signature_length}
use Rattle.banquet.specs.Sets.{scheme_of}
use Rattle.banquet.specs.Signature.{frame_of, frame_part, frame_holds}
use Rattle.sets.specs.Valid.{Valid}
use Rattle.frames.specs.Frames.{part_long, length_frame}
use Rattle.forms.specs.Sums.{bytes_product_holds}

module _ {S : Shape} (v : Valid S) (s : List ℕ) (e : ℕ) (h : length s ≡ signature_length S) (l : e < S.executions) {frame : List ℕ}
    (f : frame ≡ frame_of (scheme_of S) s e) where
  pub long : length frame ≡ total (frame_sizes S)
  long = ap length f ∙ length_frame S s h l

  -- "c (4), a (40), b (40)"
  module _ {c a b : List ℕ} (c_is : c ≡ frame_part (scheme_of S) frame 5) (a_is : a ≡ frame_part (scheme_of S) frame 6)
      (b_is : b ≡ frame_part (scheme_of S) frame 7) where
    pub parts_sized : Valid S × (length c ≡ S.wide) × (length a ≡ S.m1 * S.wide) × (length b ≡ S.m1 * S.wide)
    parts_sized = (v, part_long S frame 5 long c_is, part_long S frame 6 long a_is, part_long S frame 7 long b_is)

    pub product_is : {holds : Bool} → holds ≡ bytes_product_holds S c a b → holds ≡ frame_holds (scheme_of S) (frame_of (scheme_of S) s e)
    unfolding frame_holds bytes_product_holds
    product_is p = p ∙ rw (c_is, a_is, b_is, f)
