-- `steps::mix_columns` is MixColumns(). Assumes nothing.
use mathlib.Core.Path.{◌≡◌, ◌∙◌, ap, ap₂}
use mathlib.Core.List.{List}
use Prim.Native.Nat.{ℕ}
use borrow.Author.Rules.{rules}
use Rattle.slices.proofs.Array.{array_bytes}
use Rattle.aes.specs.Aes.{add}
use Rattle.steps.specs.Steps.{below, doubled_plus, mix_columns_by_blocks}
use Rattle.steps.proofs.mix_columns.Statement.{statement}
use Rattle.steps.proofs.mix_columns.Tie as tie

returns : tie.Need-returns
returns c =
    let two = c in
    let plus = two in
    let s = plus.args.s in
    let t = plus.below-t.ensures in
    let u : plus.add_blocks-u.result ≡ add 16 s (below s) = plus.add_blocks-u.ensures ∙ ap (add 16 s) t in
    c.doubled_plus.ensures ∙ ap₂ (λ (u t : List ℕ). doubled_plus u t two.below-2.result) u t
    ∙ ap (doubled_plus (add 16 s (below s)) (below s)) (two.below-2.ensures ∙ ap below (two.below.ensures ∙ ap below u))
    ∙ mix_columns_by_blocks (array_bytes 16 s _ plus.well_formed.0)

pub mix_columns_spec : {M : Type 1} → statement M
mix_columns_spec =
    tie.close
    (tie.spec (λ c κs. search rules) (λ c κs. search rules) (λ c κs. search rules) (λ c κs. search rules) (λ c κs. search rules) returns)
