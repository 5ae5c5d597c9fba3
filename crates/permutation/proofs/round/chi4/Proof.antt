-- `permutation::round::chi4` meets its contract, by a test on bits. Assumes nothing.
use mathlib.Core.Path.{refl}
use mathlib.Core.List.{[], ◌∷◌}
use Rattle.slices.specs.Lists.{zip_xor}
use Rattle.permutation.specs.State.{plane, chi_plane}
use Rattle.permutation.proofs.Bitwise.{neg, and, or, xor, eval}
use Rattle.permutation.proofs.Chi.{chi_masked, A, E, I, O, U}
use Rattle.permutation.proofs.round.chi4.Statement.{statement}
use Rattle.permutation.proofs.round.chi4.Tie as tie

returns : tie.Need-returns
unfolding plane chi_plane zip_xor eval
returns c =
    let a = c.args in
    let f = c.ranges in
    chi_masked 4 (xor A (and (neg E) I) ∷ xor (neg E) (or I O) ∷ xor I (and O U) ∷ xor O (or U A) ∷ xor U (and A E) ∷ [])
    refl a.a a.e a.i a.o a.u f.a.fits f.e.fits f.i.fits f.o.fits f.u.fits

pub chi4_spec : {M : Type 1} → statement M
chi4_spec = tie.close (tie.spec returns)
