-- `frames::part` meets its contract. Assumes nothing.
use mathlib.Core.Path.{ap, ◌∙◌}
use native.Mathlib.Omega.{arith}
use borrow.Author.Rules.{rules}
use Rattle.slices.specs.Layout.{field}
use Rattle.frames.specs.Frames.{frame_most}
use Rattle.frames.proofs.part.Statement.{statement}
use Rattle.frames.proofs.part.Tie as tie

field-requires : tie.Need-field-requires
field-requires c κs =
    let s = c in
    rw c.frame_sizes-sizes.ensures (omega (arith, s.requires.0), omega (arith, s.requires.1), omega (arith, frame_most s.args.set.valid))

returns : tie.Need-returns
returns c =
    let s = c in
    c.field.ensures ∙ ap (λ sizes. field sizes s.args.k s.args.frame.now) c.frame_sizes-sizes.ensures

pub part_spec : {M : Type 1} → statement M
part_spec = tie.close (tie.spec (λ c κs. search rules) (λ c. search rules) field-requires returns)
