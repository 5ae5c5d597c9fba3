-- `frames::offset` meets its contract. Assumes nothing.
use native.Mathlib.Omega.{arith}
use lib.Dec.{lit<}
use borrow.Author.Rules.{rules}
use Rattle.fields.specs.Offsets.{sizes_fit, offset_is}
use Rattle.frames.specs.Frames.{frame_most}
use Rattle.frames.proofs.offset.Statement.{statement}
use Rattle.frames.proofs.offset.Tie as tie

offset-requires : tie.Need-offset-requires
offset-requires c κs =
    let s = c in
    let e = c.frame_sizes.ensures in
    (rw e (omega (arith, s.requires)), sizes_fit e (frame_most s.args.set.valid) (lit< tt))

returns : tie.Need-returns
returns c =
    let s = c in
    offset_is c.frame_sizes.ensures (frame_most s.args.set.valid) s.args.k c.offset.ensures

pub offset_spec : {M : Type 1} → statement M
offset_spec = tie.close (tie.spec (λ c κs. search rules) (λ c. search rules) offset-requires returns)
