-- The lists of lanes that values of the code's structs stand for, steps of a round on one plane, and the mask of the lanes that are held complemented.
use Rattle.std.specs.Prelude.{◌≡◌, refl, List, [], ◌∷◌, ◌++◌, ℕ, ◌+◌, ◌-◌, ◌%◌, ◌^◌, get_or}
use Rattle.std.specs.Int.Bits.{bit_and, bit_xor}
use Rattle.slices.specs.Lists.{tab, zip_xor}
use Rattle.keccak.specs.Keccak.{theta, rho, pi, effect, parity, offsets, lanes, lane, rotl}
use Rattle.permutation.specs.declared.round.Plane.{Plane}
use Rattle.permutation.specs.declared.round.State.{State}

-- a plane (FIPS 202, 2.3): its lanes by x
unfoldable pub plane : Plane → List ℕ
plane p = p.0 ∷ p.1 ∷ p.2 ∷ p.3 ∷ p.4 ∷ []

-- five planes, one after the other
abbrev pub joined : List ℕ → List ℕ → List ℕ → List ℕ → List ℕ → List ℕ
joined p q r s t = p ++ (q ++ (r ++ (s ++ t)))

-- the state: lane A[x, y] is number x + 5 y
unfoldable pub state : State → List ℕ
state s = joined (plane s.0) (plane s.1) (plane s.2) (plane s.3) (plane s.4)

-- Algorithm 2, rho, on one plane a: lane x rotated by number x of n, modulo 64
unfoldable pub rho_plane : List ℕ → List ℕ → List ℕ
rho_plane n a = tab (λ x. rotl (get_or a x 0) (get_or n x 0 % 64)) 5

-- all bits of a lane
abbrev ones : ℕ
ones = 2 ^ 64 - 1

-- Algorithm 4, chi, on one plane a
unfoldable pub chi_plane : List ℕ → List ℕ
chi_plane a = tab (λ x. bit_xor (get_or a x 0) (bit_and (ones - get_or a ((x + 1) % 5) 0) (get_or a ((x + 2) % 5) 0))) 5

-- ---- lanes that are held complemented

-- the mask: all bits at A[1, 0], A[2, 0], A[3, 1], A[2, 2], A[2, 3] and A[0, 4], which are held complemented between rounds, and no bit elsewhere
abbrev pub mask : List ℕ
mask =
    0 ∷ ones ∷ ones ∷ 0 ∷ 0
    ∷ 0 ∷ 0 ∷ 0 ∷ ones ∷ 0
    ∷ 0 ∷ 0 ∷ ones ∷ 0 ∷ 0
    ∷ 0 ∷ 0 ∷ ones ∷ 0 ∷ 0
    ∷ ones ∷ 0 ∷ 0 ∷ 0 ∷ 0 ∷ []

-- what theta, rho and pi make of the mask: with it the planes of a masked state come to chi
abbrev pub chi_mask : List ℕ
chi_mask =
    ones ∷ 0 ∷ ones ∷ ones ∷ 0
    ∷ ones ∷ 0 ∷ ones ∷ 0 ∷ 0
    ∷ ones ∷ 0 ∷ ones ∷ 0 ∷ 0
    ∷ 0 ∷ ones ∷ 0 ∷ ones ∷ ones
    ∷ ones ∷ 0 ∷ 0 ∷ ones ∷ 0 ∷ []

pub chi_mask_lem : pi (rho (theta mask)) ≡ chi_mask
unfolding pi rho theta lanes lane effect parity rotl offsets
chi_mask_lem = refl

-- the state that is held for the state a, and the state that is meant where a is held
unfoldable pub masked : List ℕ → List ℕ
masked a = zip_xor a mask
