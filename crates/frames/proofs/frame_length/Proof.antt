-- `frames::frame_length` meets its contract. Assumes nothing.
use native.Mathlib.Omega.{arith}
use lib.Dec.{lit<}
use borrow.Author.Rules.{rules}
use Rattle.fields.specs.Offsets.{sizes_fit, offset_is}
use Rattle.frames.specs.Frames.{frame_most}
use Rattle.frames.proofs.frame_length.Statement.{statement}
use Rattle.frames.proofs.frame_length.Tie as tie

offset-requires : tie.Need-offset-requires
offset-requires c κs =
    let e = c.frame_sizes.ensures in (rw e (omega arith), sizes_fit e (frame_most c.args.set.valid) (lit< tt))

returns : tie.Need-returns
returns c = offset_is c.frame_sizes.ensures (frame_most c.args.set.valid) 8 c.offset.ensures

pub frame_length_spec : {M : Type 1} → statement M
frame_length_spec = tie.close (tie.spec (λ c κs. search rules) (λ c. search rules) offset-requires returns)
