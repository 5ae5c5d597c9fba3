-- `tapes::tape_part` meets its contract. Assumes nothing.
use borrow.Author.Rules.{rules}
use Rattle.tapes.proofs.Laws.{sizes_fit, part_is}
use Rattle.tapes.proofs.tape_part.Statement.{statement}
use Rattle.tapes.proofs.tape_part.Tie as tie

field-requires : tie.Need-field-requires
field-requires c κs =
    let s = c in
    sizes_fit s.args.set.valid s.args.tape.now c.tape_sizes-sizes.ensures s.requires.0 s.requires.1

returns : tie.Need-returns
returns c =
    let s = c in
    part_is s.args.set.valid s.args.k s.args.tape.now c.tape_sizes-sizes.ensures c.field.ensures

pub tape_part_spec : {M : Type 1} → statement M
tape_part_spec =
    tie.close (tie.spec (λ c κs. search rules) (λ c. search rules) field-requires returns)
