-- `permutation::round::rotate` meets its contract, by what `rotated` ensures of the five lanes. Assumes nothing.
use mathlib.Core.Path.{refl}
use Rattle.permutation.specs.State.{plane, rho_plane}
use Rattle.permutation.proofs.round.rotate.Statement.{statement}
use Rattle.permutation.proofs.round.rotate.Tie as tie

returns : tie.Need-returns
unfolding plane rho_plane
returns c =
    let d = c in
    let e = d in
    let f = e in
    let g = f in
    rw (c.rotated-5.ensures, d.rotated-4.ensures, e.rotated-3.ensures, f.rotated-2.ensures, g.rotated.ensures) refl

pub rotate_spec : {M : Type 1} → statement M
rotate_spec = tie.close (tie.spec (λ c κs. tt) (λ c κs. tt) (λ c κs. tt) (λ c κs. tt) (λ c κs. tt) returns)
