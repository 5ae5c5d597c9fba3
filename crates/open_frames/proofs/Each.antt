-- What one execution is given of what all executions have: how it is cut out, and that it is there. Assumes nothing.
use mathlib.Core.Path.{◌≡◌, sym, ap, ◌∙◌}
use mathlib.Core.List.{List}
use Prim.Native.Nat.{ℕ, ◌+◌, ◌-◌, ◌*◌, ◌<◌, ◌≤◌}
use native.Mathlib.Omega.{arith}
use lib.ListN.{take, drop}
use Rattle.slices.specs.Lists.{row}
use Rattle.slices.specs.Numbers.{number_at}
use Rattle.slices.specs.Layout.{total}
use Rattle.slices.proofs.Rows.{row_fits, row_cut}
use Rattle.banquet.specs.declared.Shape.{Shape}
use Rattle.banquet.specs.Shape.{frame_sizes, first_challenge_length}
use Rattle.banquet.specs.Hash.{evaluation_point}
use Rattle.sets.specs.Valid.{Valid}
use Rattle.sets.proofs.Bounds.{firsts_most}
use Rattle.frames.specs.Frames.{frames_most}

-- what an execution makes of the front, the salt, its root, its number, its challenges and its frame
abbrev pub Step : Type 0
Step = Shape → List ℕ → List ℕ → List ℕ → ℕ → List ℕ → ℕ → List ℕ → List ℕ

-- of execution e
abbrev pub each : Step → Shape → (salt roots front firsts seconds frames : List ℕ) → ℕ → List ℕ
each f S salt roots front firsts seconds frames e =
    f S front salt (row 16 e roots) e (row (first_challenge_length S) e firsts) (evaluation_point S.m2 (number_at S.wide e seconds))
    (row (total (frame_sizes S)) e frames)

module _ {S : Shape} (v : Valid S) {len : ℕ} (size : len ≡ total (frame_sizes S)) where
  open S use {executions, wide}

  pub frames_whole : {n : ℕ} → n ≡ executions * total (frame_sizes S) → n ≡ executions * len
  frames_whole h = h ∙ ap (executions *◌) (sym size)

  module _ {e : ℕ} (l : e < executions) where
    pub first_most : e * first_challenge_length S + first_challenge_length S ≤ 2460
    first_most = omega (arith, row_fits (first_challenge_length S) l, firsts_most v)

    pub frame_most : e * len + len ≤ 25092
    frame_most = omega (arith, row_fits len l, frames_most v, ap (executions *◌) size)

  -- as the code cuts it out
  pub each_cut : (salt roots front firsts seconds frames : List ℕ) (e : ℕ) {second : ℕ} {frame : List ℕ}
      → second ≡ evaluation_point S.m2 (number_at wide e seconds) → frame ≡ row len e frames → (f : Step)
      → f S front salt (take (e * 16 + 16 - e * 16) (drop (e * 16) roots)) e
      (take (e * first_challenge_length S + first_challenge_length S - e * first_challenge_length S) (drop (e * first_challenge_length S) firsts)) second frame
      ≡ each f S salt roots front firsts seconds frames e
  each_cut salt roots front firsts seconds frames e p q f =
      rw (row_cut e 16 roots, row_cut e (first_challenge_length S) firsts, p, q ∙ ap (λ z. row z e frames) size)
