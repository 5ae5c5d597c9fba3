-- The steps of a round on five planes, one after the other, and what they do with the mask. Assumes nothing.
use mathlib.Core.Path.{◌≡◌, refl, sym, ap, ap₂, ◌∙◌}
use mathlib.Core.List.{List, [], ◌∷◌, ◌++◌}
use Prim.Native.Nat.{ℕ, zero, suc}
use native.Mathlib.Omega.{arith}
use lib.Bits.{bit_xor, xor_zero_r}
use lib.ListN.{length, get_or, drop}
use Rattle.slices.specs.Lists.{tab, row, zip_xor}
use Rattle.slices.specs.Sums.{zip_twice}
use Rattle.keccak.specs.Keccak.{theta, rho, pi, chi, iota, round, rounds, round_constants, effect, parity, offsets, lanes, lane}
use Rattle.permutation.specs.State.{joined, plane, state, rho_plane, chi_plane, mask, chi_mask, chi_mask_lem, masked}
use Rattle.permutation.specs.declared.round.Plane.{Plane}
use Rattle.permutation.specs.declared.round.State.{State}
use Rattle.permutation.proofs.Below.{Below, each_below}
use Rattle.permutation.proofs.Linear.{linear}

pub joined_cong : {p q r s t p' q' r' s' t' : List ℕ} → p ≡ p' → q ≡ q' → r ≡ r' → s ≡ s' → t ≡ t'
    → joined p q r s t ≡ joined p' q' r' s' t'
joined_cong e f g h i = ap₂ ◌++◌ e (ap₂ ◌++◌ f (ap₂ ◌++◌ g (ap₂ ◌++◌ h i)))

-- theta and rho
abbrev turned : State → List ℕ → List ℕ
turned s e =
    joined
    (rho_plane (row 5 0 offsets) (zip_xor (plane s.0) e))
    (rho_plane (row 5 1 offsets) (zip_xor (plane s.1) e))
    (rho_plane (row 5 2 offsets) (zip_xor (plane s.2) e))
    (rho_plane (row 5 3 offsets) (zip_xor (plane s.3) e))
    (rho_plane (row 5 4 offsets) (zip_xor (plane s.4) e))

pub theta_rho : (s : State) (e : List ℕ) → e ≡ tab (effect (state s)) 5 → turned s e ≡ rho (theta (state s))
unfolding rho_plane zip_xor rho theta lanes lane offsets state plane
theta_rho s e h = ap (turned s) h

-- pi and chi, the mask added in between
pub pi_chi : (b0 b1 b2 b3 b4 : Plane)
    → joined
    (chi_plane (zip_xor (b0.0 ∷ b1.1 ∷ b2.2 ∷ b3.3 ∷ b4.4 ∷ []) (row 5 0 chi_mask)))
    (chi_plane (zip_xor (b0.3 ∷ b1.4 ∷ b2.0 ∷ b3.1 ∷ b4.2 ∷ []) (row 5 1 chi_mask)))
    (chi_plane (zip_xor (b0.1 ∷ b1.2 ∷ b2.3 ∷ b3.4 ∷ b4.0 ∷ []) (row 5 2 chi_mask)))
    (chi_plane (zip_xor (b0.4 ∷ b1.0 ∷ b2.1 ∷ b3.2 ∷ b4.3 ∷ []) (row 5 3 chi_mask)))
    (chi_plane (zip_xor (b0.2 ∷ b1.3 ∷ b2.4 ∷ b3.0 ∷ b4.1 ∷ []) (row 5 4 chi_mask)))
    ≡ chi (zip_xor (pi (joined (plane b0) (plane b1) (plane b2) (plane b3) (plane b4))) chi_mask)
unfolding chi_plane chi pi lanes lane plane zip_xor
pi_chi b0 b1 b2 b3 b4 = refl

-- a round reads no more of a list than 25 lanes
pub rounds_of : (a : List ℕ) (n : ℕ) → rounds (suc n) (tab (λ k. get_or a k 0) 25) ≡ rounds (suc n) a
unfolding rounds round theta lanes lane effect parity
rounds_of a zero = refl
rounds_of a (suc n) = ap (round (get_or round_constants (suc n) 0)) (rounds_of a n)

-- ---- the mask

pub masked_twice : (a : List ℕ) → length a ≡ 25 → masked (masked a) ≡ a
unfolding masked
masked_twice a h = zip_twice a mask (omega arith)

-- theta, rho and pi on a masked state
pub through : (a : List ℕ) → Below 64 a → pi (rho (theta (masked a))) ≡ zip_xor (pi (rho (theta a))) chi_mask
unfolding masked
through a h = linear a mask h (each_below 64 mask (omega arith)) ∙ ap (zip_xor (pi (rho (theta a)))) chi_mask_lem

-- iota adds to a lane that isn't complemented
pub iota_masked : (c : ℕ) (p0 p1 p2 p3 p4 : Plane)
    → masked (iota c (joined (plane p0) (plane p1) (plane p2) (plane p3) (plane p4)))
    ≡ iota c
    (joined
    (zip_xor (plane p0) (row 5 0 mask))
    (zip_xor (plane p1) (row 5 1 mask))
    (zip_xor (plane p2) (row 5 2 mask))
    (zip_xor (plane p3) (row 5 3 mask))
    (zip_xor (plane p4) (row 5 4 mask)))
unfolding masked iota zip_xor plane
iota_masked c p0 p1 p2 p3 p4 =
    let others = drop 1 (joined (plane p0) (plane p1) (plane p2) (plane p3) (plane p4)) in
    ap (◌∷ zip_xor others (drop 1 mask)) (xor_zero_r (bit_xor p0.0 c) ∙ ap (λ t. bit_xor t c) (sym (xor_zero_r p0.0)))
