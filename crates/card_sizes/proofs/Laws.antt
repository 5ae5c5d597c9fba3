-- The lines of a card are the first of those that are laid out. Assumes nothing.
use mathlib.Core.Path.{◌≡◌, ap, ap₂, ◌∙◌}
use mathlib.Core.List.{List, ◌∷◌}
use Prim.Native.Nat.{ℕ, suc, ◌≤◌}
use native.Mathlib.Omega.{arith}
use lib.ListN.{take, replicate}
use Rattle.slices.specs.Layout.{total}
use Rattle.banquet.specs.declared.Shape.{Shape}
use Rattle.banquet.specs.Shape.{public_key_length, head_length, frame_sizes}
use Rattle.banquet.specs.Card.{card_sizes}
use Rattle.text_lines.specs.Parts.{take_replicate}
use Rattle.card_sizes.specs.Lines.{lines_of}

pub sizes_are : (S : Shape) (m : ℕ) {key frame : ℕ} → S.executions ≤ 41 → key ≡ public_key_length S → frame ≡ total (frame_sizes S)
    → take (lines_of S) (key ∷ m ∷ head_length ∷ replicate 41 frame) ≡ card_sizes S m
sizes_are S m {key} {frame} few k f =
    let three : lines_of S ≡ suc (suc (suc S.executions)) = omega arith in
    ap (λ (n : ℕ). take n (key ∷ m ∷ head_length ∷ replicate 41 frame)) three
    ∙ ap (λ (l : List ℕ). key ∷ m ∷ head_length ∷ l) (take_replicate S.executions 41 frame few)
    ∙ ap₂ (λ (k f : ℕ). k ∷ m ∷ head_length ∷ replicate S.executions f) k f
