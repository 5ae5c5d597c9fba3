-- `frames::frame_sizes` meets its contract: every product fits. Assumes nothing.
use mathlib.Core.Path.{refl}
use native.Mathlib.Numerals.{add-one}
use native.Mathlib.Omega.{arith}
use borrow.Author.Rules.{rules}
use Rattle.sets.specs.Bounds.{all_sboxes, columns_most, by_points}
use Rattle.frames.proofs.frame_sizes.Statement.{statement}
use Rattle.frames.proofs.frame_sizes.Tie as tie

returns : tie.Need-returns
returns c = rw add-one refl

pub frame_sizes_spec : {M : Type 1} → statement M
frame_sizes_spec =
    tie.close
    (tie.spec
    (λ c. omega (arith, columns_most c.args.set.valid))
    (λ c. search rules)
    (λ c. let v = c.args.set.valid in omega (arith, all_sboxes v, v.columns))
    (λ c. search rules)
    (λ c. let s = c in omega (arith, by_points s.args.set.valid s.args.set.shape.wide))
    returns)
