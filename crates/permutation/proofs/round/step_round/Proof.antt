-- `permutation::round::step_round` meets its contract, by what the steps ensure of each plane and by what they do with the mask. Assumes nothing.
use mathlib.Core.Path.{sym, ◌∙◌, ap}
use native.Mathlib.Omega.{arith}
use Rattle.slices.specs.Lists.{zip_xor}
use Rattle.keccak.specs.Keccak.{round, iota, chi, pi, offsets}
use Rattle.permutation.specs.State.{plane, state, masked, chi_mask}
use Rattle.permutation.proofs.Below.{Each, each_below}
use Rattle.permutation.proofs.Steps.{joined_cong, theta_rho, pi_chi, through, iota_masked}
use Rattle.permutation.proofs.round.step_round.Statement.{statement}
use Rattle.permutation.proofs.round.step_round.Tie as tie

each_lane : (c : tie.Start) → Each 64 (state c.args.s)
unfolding state plane
each_lane c = omega (arith, c.well_formed.0)

returns : tie.Need-returns
unfolding round plane state masked zip_xor iota offsets
returns c =
    let m0 = c in
    let m4 = m0 in
    let m3 = m4 in
    let m1 = m3 in
    let m2 = m1 in
    let t2 = m2 in
    let t4 = t2 in
    let t3 = t4 in
    let t1 = t3 in
    let t0 = t1 in
    let d = t0 in
    let start = d.before.before.before.before.before.before.before.before.before.before.before.before.before.before.before.before.before in
    let args = start.args in
    iota_masked args.rc m0.chi0-c0.result m1.chi1-c1.result m2.chi2-c2.result m3.chi3-c3.result m4.chi4-c4.result
    ∙ ap
    (iota args.rc)
    (joined_cong m0.chi0-c0.ensures m1.chi1-c1.ensures m2.chi2-c2.ensures m3.chi3-c3.ensures m4.chi4-c4.ensures
    ∙ pi_chi t0.theta_rho-b0.result t1.theta_rho-b1.result t2.theta_rho-b2.result t3.theta_rho-b3.result t4.theta_rho-b4.result
    ∙ ap
    (λ b. chi (zip_xor (pi b) chi_mask))
    (joined_cong t0.theta_rho-b0.ensures t1.theta_rho-b1.ensures t2.theta_rho-b2.ensures t3.theta_rho-b3.ensures t4.theta_rho-b4.ensures
    ∙ theta_rho args.s (plane d.effects-d.result) d.effects-d.ensures)
    ∙ ap chi (sym (through (state args.s) (each_below 64 (state args.s) (each_lane start)))))

pub step_round_spec : {M : Type 1} → statement M
step_round_spec =
    tie.close
    (tie.spec
    (λ c κs. tt)
    (λ c κs. tt) (λ c κs. tt) (λ c κs. tt) (λ c κs. tt) (λ c κs. tt)
    (λ c κs. tt) (λ c κs. tt) (λ c κs. tt) (λ c κs. tt) (λ c κs. tt)
    returns)
