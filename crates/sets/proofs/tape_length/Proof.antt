-- `sets::tape_length` meets its contract. Assumes nothing.
use native.Mathlib.Omega.{arith}
use lib.Dec.{lit<}
use borrow.Author.Rules.{rules}
use Rattle.fields.specs.Offsets.{sizes_fit, offset_is}
use Rattle.sets.proofs.Bounds.{tape_most}
use Rattle.sets.proofs.tape_length.Statement.{statement}
use Rattle.sets.proofs.tape_length.Tie as tie

offset-requires : tie.Need-offset-requires
offset-requires c κs =
    let e = c.tape_sizes.ensures in (rw e (omega arith), sizes_fit e (tape_most c.args.set.valid) (lit< tt))

returns : tie.Need-returns
returns c = offset_is c.tape_sizes.ensures (tape_most c.args.set.valid) 4 c.offset.ensures

pub tape_length_spec : {M : Type 1} → statement M
tape_length_spec = tie.close (tie.spec (λ c κs. search rules) (λ c. search rules) offset-requires returns)
