-- `opening_sizes::transcript_length` meets its contract. Assumes nothing.
use native.Mathlib.Omega.{arith}
use lib.Dec.{lit<}
use borrow.Author.Rules.{rules}
use Rattle.fields.specs.Offsets.{sizes_fit, offset_is}
use Rattle.sets.proofs.Bounds.{transcript_most}
use Rattle.opening_sizes.proofs.transcript_length.Statement.{statement}
use Rattle.opening_sizes.proofs.transcript_length.Tie as tie

offset-requires : tie.Need-offset-requires
offset-requires c κs =
    let e = c.transcript_sizes.ensures in (rw e (omega arith), sizes_fit e (transcript_most c.args.set.valid) (lit< tt))

returns : tie.Need-returns
returns c = offset_is c.transcript_sizes.ensures (transcript_most c.args.set.valid) 12 c.offset.ensures

pub transcript_length_spec : {M : Type 1} → statement M
transcript_length_spec = tie.close (tie.spec (λ c κs. search rules) (λ c. search rules) offset-requires returns)
