-- The three answers of `frame`. Assumes nothing.
use mathlib.Core.Path.{◌≡◌, sym, ap, ◌∙◌}
use mathlib.Core.Logic.{◌≢◌}
use mathlib.Core.List.{List, []}
use Prim.Native.Nat.{ℕ, ◌+◌, ◌-◌, ◌*◌, ◌<◌, ◌≤◌}
use native.Mathlib.Omega.{arith}
use lib.ListN.{length, take}
use lib.Seq.{drop-drop}
use borrow.Author.Tests.{eq-eqb, ne_eqb, le-ltb}
use Rattle.slices.specs.Lists.{part}
use Rattle.slices.specs.Layout.{total}
use Rattle.banquet.specs.declared.Shape.{Shape}
use Rattle.banquet.specs.Shape.{head_length, frame_sizes, signature_length}
use Rattle.banquet.specs.Sets.{scheme_of}
use Rattle.banquet.specs.Signature.{frame_of}
use Rattle.frames.specs.Frames.{frame_is, frame_room}

-- ---- "or an empty part if e is over 40 or the file hasn't exactly a seal's length"

module _ (S : Shape) (s : List ℕ) (e : ℕ) {whole size : ℕ} (w : whole ≡ signature_length S) (z : size ≡ total (frame_sizes S)) where
  open S use {executions}

  pub of_another_length : length s ≢ whole → [] ≡ frame_of (scheme_of S) s e
  unfolding frame_of
  of_another_length h = rw (ne_eqb (length s) (signature_length S) (λ x. h (x ∙ sym w)))

  module _ (h : length s ≡ whole) where
    pub none_such : executions ≤ e → [] ≡ frame_of (scheme_of S) s e
    unfolding frame_of
    none_such l = rw (eq-eqb (length s) (signature_length S) (h ∙ w), le-ltb e executions l)

    -- "that part of the caller's own file"
    module _ (l : e < executions) where
      pub ends_within : head_length + e * size + size ≤ length s
      ends_within = rw z (omega (arith, frame_room S s (h ∙ w) l))

      pub framed : part (head_length + e * size) (head_length + e * size + size - (head_length + e * size)) s ≡ frame_of (scheme_of S) s e
      framed =
          let n : head_length + e * size + size - (head_length + e * size) ≡ size = omega arith in
          rw (n, z) (sym (frame_is S s (h ∙ w) l ∙ ap (take (total (frame_sizes S))) (drop-drop (e * total (frame_sizes S)) head_length s)))
