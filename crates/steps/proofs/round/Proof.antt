-- `steps::round` is the composition of its steps. Assumes nothing.
use mathlib.Core.Path.{◌∙◌, ap}
use mathlib.Core.List.{List}
use Prim.Native.Nat.{ℕ}
use native.Mathlib.Omega.{arith}
use borrow.Author.Rules.{rules}
use Rattle.aes.specs.Aes.{add, mix_columns}
use Rattle.steps.proofs.round.Statement.{statement}
use Rattle.steps.proofs.round.Tie as tie

last : tie.Need-returns-then-n-eq9
last c =
    let b = c in
    (λ l. absurd (omega arith), λ e. c.add_blocks.ensures ∙ ap (λ (x : List ℕ). add 16 x b.args.k) b.shift_rows-shifted.ensures)

other : tie.Need-returns
other c =
    let m = c in
    let b = m in (
      λ l. c.add_blocks-2.ensures ∙ ap (λ (x : List ℕ). add 16 x b.args.k) (m.mix_columns.ensures ∙ ap mix_columns b.shift_rows-shifted.ensures),
      λ e. absurd (omega arith),
    )

pub round_spec : {M : Type 1} → statement M
round_spec = tie.close (tie.spec (λ c κs. search rules) (λ c κs. search rules) last (λ c κs. search rules) (λ c κs. search rules) other)
