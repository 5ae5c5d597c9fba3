-- `permutation::round::effects` meets its contract: c is the sum of the planes, and the effects are computed from c. Assumes nothing.
use mathlib.Core.Path.{◌≡◌, refl, ap, ◌∙◌}
use mathlib.Core.List.{List, [], ◌∷◌}
use Prim.Native.Nat.{ℕ, ◌+◌, ◌%◌}
use lib.ListN.{get_or}
use Rattle.slices.specs.Lists.{tab, zip_xor}
use Rattle.keccak.specs.Keccak.{effect, parity, lane}
use Rattle.permutation.specs.State.{plane, state, rho_plane}
use Rattle.permutation.specs.declared.round.State.{State}
use Rattle.permutation.proofs.round.effects.Statement.{statement}
use Rattle.permutation.proofs.round.effects.Tie as tie

-- step 2 of theta, of the parities c
abbrev around : List ℕ → List ℕ
around c =
    zip_xor (tab (λ x. get_or c ((x + 4) % 5) 0) 5) (rho_plane (1 ∷ 1 ∷ 1 ∷ 1 ∷ 1 ∷ []) (tab (λ x. get_or c ((x + 1) % 5) 0) 5))

-- step 1
abbrev summed : State → List ℕ
summed s = zip_xor (zip_xor (zip_xor (zip_xor (plane s.0) (plane s.1)) (plane s.2)) (plane s.3)) (plane s.4)

around_summed : (s : State) → around (summed s) ≡ tab (effect (state s)) 5
unfolding plane state zip_xor rho_plane effect parity lane
around_summed s = refl

returns : tie.Need-returns
unfolding plane
returns c =
    let r = c in
    let c4 = r in
    let c3 = c4 in
    let c2 = c3 in
    let c1 = c2 in
    let s = c1.args.s in
    c.add-4.ensures ∙ ap (zip_xor _) r.rotate.ensures
    ∙ ap
    around
    (c4.add-c.ensures
    ∙ ap
    (λ p. zip_xor p (plane s.4))
    (c3.add-3.ensures
    ∙ ap (λ p. zip_xor p (plane s.3)) (c2.add-2.ensures ∙ ap (λ p. zip_xor p (plane s.2)) c1.add.ensures)))
    ∙ around_summed s

pub effects_spec : {M : Type 1} → statement M
effects_spec =
    tie.close
    (tie.spec (λ c κs. tt) (λ c κs. tt) (λ c κs. tt) (λ c κs. tt) (λ c κs. tt) (λ c κs. tt) returns)
