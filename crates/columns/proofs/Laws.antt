-- Of row i the len elements from index at on. Assumes nothing.
use mathlib.Core.Path.{◌≡◌, refl, sym, ap, ◌∙◌}
use mathlib.Core.List.{List, [], ◌∷◌}
use Prim.Native.Nat.{ℕ, zero, suc, ◌+◌, ◌-◌, ◌*◌, ◌≤◌}
use native.Mathlib.Omega.{arith}
use lib.ListN.{length, take, drop, length-take, length-drop}
use lib.Seq.{take-take, drop-drop}
use Rattle.slices.specs.Lists.{row, part}

-- a part of a front
part_take : (at len n : ℕ) (s : List ℕ) → at + len ≤ n → part at len (take n s) ≡ part at len s
part_take zero len n s h = take-take len n s (omega arith)
part_take (suc at) len zero s h = absurd (omega arith)
part_take (suc at) len (suc n) [] h = refl
part_take (suc at) len (suc n) (x ∷ s) h = part_take at len n s (omega arith)

-- a part of a part
part_part : (at len from n : ℕ) (s : List ℕ) → at + len ≤ n → part at len (part from n s) ≡ part (from + at) len s
part_part at len from n s h = part_take at len n (drop from s) h ∙ ap (take len) (drop-drop at from s)

-- what the code writes `&s[i * stride + at..i * stride + at + len]`
pub cell_cut : (stride at len i : ℕ) (s : List ℕ) → at + len ≤ stride
    → take (i * stride + at + len - (i * stride + at)) (drop (i * stride + at) s) ≡ part at len (row stride i s)
cell_cut stride at len i s h =
    let e : i * stride + at + len - (i * stride + at) ≡ len = omega arith in
    rw e (sym (part_part at len (i * stride) stride s h))

pub cell_long : (stride at len i : ℕ) (s : List ℕ) → i * stride + at + len ≤ length s
    → length (take (i * stride + at + len - (i * stride + at)) (drop (i * stride + at) s)) ≡ len
cell_long stride at len i s h = simp (length-take, length-drop) (omega arith)
