-- `permutation::round::add` meets its contract: both sides compute to the same list. Assumes nothing.
use mathlib.Core.Path.{refl}
use Rattle.slices.specs.Lists.{zip_xor}
use Rattle.permutation.specs.State.{plane}
use Rattle.permutation.proofs.round.add.Statement.{statement}
use Rattle.permutation.proofs.round.add.Tie as tie

returns : tie.Need-returns
unfolding plane zip_xor
returns c = refl

pub add_spec : {M : Type 1} → statement M
add_spec = tie.close (tie.spec returns)
