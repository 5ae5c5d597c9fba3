-- `permutation::round::theta_rho` meets its contract, by what `add` and `rotate` ensure. Assumes nothing.
use mathlib.Core.Path.{◌∙◌, ap}
use Rattle.permutation.specs.State.{rho_plane}
use Rattle.permutation.proofs.round.theta_rho.Statement.{statement}
use Rattle.permutation.proofs.round.theta_rho.Tie as tie

returns : tie.Need-returns
returns c = c.rotate.ensures ∙ ap (rho_plane _) c.add.ensures

pub theta_rho_spec : {M : Type 1} → statement M
theta_rho_spec = tie.close (tie.spec (λ c κs. tt) (λ c κs. tt) returns)
