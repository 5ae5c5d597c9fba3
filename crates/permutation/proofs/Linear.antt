-- Theta, rho and pi are linear: of a sum of states they give the sum of what they give of each. Assumes nothing.
use mathlib.Core.Path.{◌≡◌, refl, sym, ap, ap₂, ◌∙◌}
use mathlib.Core.List.{List}
use Prim.Native.Nat.{ℕ, zero, suc, ◌+◌, ◌-◌, ◌*◌, ◌/◌, ◌%◌, ◌^◌, ◌<◌}
use native.Mathlib.Nat.{lt_of_le_of_lt, mul-mod_left, add-zero, add_comm}
use native.Mathlib.Omega.{arith}
use lib.Dec.{lit<}
use lib.Bits.{bit_or, bit_xor, or_lt, or_shifted, xor_lt, xor_mod, xor_shifted, xor_shr}
use lib.Pow.{mod-pow-add, shl-shr, shr_le, shr_lt}
use Rattle.slices.specs.Lists.{zip_xor}
use Rattle.slices.specs.Sums.{get_d_zip, zip_tab}
use Rattle.slices.specs.Tab.{tab_cong}
use Rattle.slices.specs.Xor.{xor_shl, xor_swap}
use Rattle.keccak.specs.Keccak.{theta, rho, pi, effect, parity, offsets, lanes, lane, rotl}
use Rattle.permutation.proofs.Below.{Below, tab_below}

-- ---- rotation

-- of a number of n = j + k bits by k: the sum of its two parts
module _ (n j k : ℕ) (e : n ≡ j + k) where
  rotated_parts : (a : ℕ) → a < 2 ^ n → bit_or (a * 2 ^ k % 2 ^ n) (a / 2 ^ j) ≡ bit_xor (a % 2 ^ j * 2 ^ k) (a / 2 ^ j)
  rotated_parts a h =
      let few : a / 2 ^ j < 2 ^ k = shr_lt k j (rw (add_comm k j, ← e) h) in
      ap (λ x. bit_or x (a / 2 ^ j))
      (ap (λ m. a * 2 ^ k % 2 ^ m) e ∙ mod-pow-add (a * 2 ^ k) j k
      ∙ ap₂ ◌+◌ (ap (λ x. x % 2 ^ j * 2 ^ k) (shl-shr a k)) (mul-mod_left a (2 ^ k)) ∙ add-zero _)
      ∙ or_shifted (a % 2 ^ j) k (a / 2 ^ j) few ∙ sym (xor_shifted (a % 2 ^ j) k (a / 2 ^ j) few)

  rotated_xor : (a b : ℕ) → a < 2 ^ n → b < 2 ^ n
      → bit_or (bit_xor a b * 2 ^ k % 2 ^ n) (bit_xor a b / 2 ^ j)
      ≡ bit_xor (bit_or (a * 2 ^ k % 2 ^ n) (a / 2 ^ j)) (bit_or (b * 2 ^ k % 2 ^ n) (b / 2 ^ j))
  rotated_xor a b ha hb =
      rotated_parts (bit_xor a b) (xor_lt n a b ha hb)
      ∙ ap₂ bit_xor (ap (◌* 2 ^ k) (xor_mod a b j) ∙ xor_shl (a % 2 ^ j) (b % 2 ^ j) k) (xor_shr a b j)
      ∙ xor_swap (a % 2 ^ j * 2 ^ k) (b % 2 ^ j * 2 ^ k) (a / 2 ^ j) (b / 2 ^ j)
      ∙ sym (ap₂ bit_xor (rotated_parts a ha) (rotated_parts b hb))

rotl_xor : (a b k : ℕ) → a < 2 ^ 64 → b < 2 ^ 64 → k < 64 → rotl (bit_xor a b) k ≡ bit_xor (rotl a k) (rotl b k)
unfolding rotl
rotl_xor a b zero ha hb h = refl
rotl_xor a b (suc k) ha hb h = rotated_xor 64 (64 - suc k) (suc k) (omega arith) a b ha hb

rotl_lt : (a k : ℕ) → a < 2 ^ 64 → rotl a k < 2 ^ 64
unfolding rotl
rotl_lt a zero h = h
rotl_lt a (suc k) h =
    or_lt 64 (a * 2 ^ suc k % 2 ^ 64) (a / 2 ^ (64 - suc k)) (omega arith) (lt_of_le_of_lt (shr_le a (64 - suc k)) h)

-- ---- lanes stay below 2 ^ 64

module _ (a : List ℕ) (h : Below 64 a) where
  lane_lt : (x y : ℕ) → lane a x y < 2 ^ 64
  unfolding lane
  lane_lt x y = h.lt (x + 5 * y)

  parity_lt : (x : ℕ) → parity a x < 2 ^ 64
  unfolding parity
  parity_lt x =
      let l = lane_lt x in
      xor_lt 64 _ _ (xor_lt 64 _ _ (xor_lt 64 _ _ (xor_lt 64 _ _ (l 0) (l 1)) (l 2)) (l 3)) (l 4)

  effect_lt : (x : ℕ) → effect a x < 2 ^ 64
  unfolding effect
  effect_lt x = xor_lt 64 _ _ (parity_lt _) (rotl_lt _ 1 (parity_lt _))

  theta_below : Below 64 (theta a)
  unfolding theta lanes
  theta_below = tab_below 64 _ 25 (λ i. xor_lt 64 _ _ (lane_lt (i % 5) (i / 5)) (effect_lt (i % 5)))

-- ---- the steps, of the sum of the states a and b

-- the number u is the sum of p and q
record Sum (u p q : ℕ) : Type 0 where
  is : u ≡ bit_xor p q

both : {u v p p' q q' : ℕ} → Sum u p p' → Sum v q q' → Sum (bit_xor u v) (bit_xor p q) (bit_xor p' q')
both {u} {v} {p} {p'} {q} {q'} s t = record { is = ap₂ bit_xor s.is t.is ∙ xor_swap p p' q q' }

lanes_xor : (f g h : ℕ → ℕ → ℕ) → ((x y : ℕ) → Sum (f x y) (g x y) (h x y)) → lanes f ≡ zip_xor (lanes g) (lanes h)
unfolding lanes
lanes_xor f g h s =
    tab_cong 25 (λ i l. (s (i % 5) (i / 5)).is) ∙ zip_tab (λ i. g (i % 5) (i / 5)) (λ i. h (i % 5) (i / 5)) 25

module _ (a b : List ℕ) where
  lane_xor : (x y : ℕ) → Sum (lane (zip_xor a b) x y) (lane a x y) (lane b x y)
  unfolding lane
  lane_xor x y = record { is = get_d_zip a b (x + 5 * y) }

  parity_xor : (x : ℕ) → Sum (parity (zip_xor a b) x) (parity a x) (parity b x)
  unfolding parity
  parity_xor x = both (both (both (both (lane_xor x 0) (lane_xor x 1)) (lane_xor x 2)) (lane_xor x 3)) (lane_xor x 4)

  pi_xor : pi (zip_xor a b) ≡ zip_xor (pi a) (pi b)
  unfolding pi
  pi_xor = lanes_xor _ _ _ (λ x y. lane_xor ((x + 3 * y) % 5) x)

rotl_sum : {u a b : ℕ} (k : ℕ) → k < 64 → a < 2 ^ 64 → b < 2 ^ 64 → Sum u a b → Sum (rotl u k) (rotl a k) (rotl b k)
rotl_sum {u} {a} {b} k h ha hb s = record { is = ap (λ t. rotl t k) s.is ∙ rotl_xor a b k ha hb h }

module _ (a b : List ℕ) (ha : Below 64 a) (hb : Below 64 b) where
  effect_xor : (x : ℕ) → Sum (effect (zip_xor a b) x) (effect a x) (effect b x)
  unfolding effect
  effect_xor x =
      let y = (x + 1) % 5 in
      both (parity_xor a b ((x + 4) % 5)) (rotl_sum 1 (lit< tt) (parity_lt a ha y) (parity_lt b hb y) (parity_xor a b y))

  theta_xor : theta (zip_xor a b) ≡ zip_xor (theta a) (theta b)
  unfolding theta
  theta_xor = lanes_xor _ _ _ (λ x y. both (lane_xor a b x y) (effect_xor x))

  rho_xor : rho (zip_xor a b) ≡ zip_xor (rho a) (rho b)
  unfolding rho
  rho_xor = lanes_xor _ _ _ (λ x y. rotl_sum (lane offsets x y % 64) (omega arith) (lane_lt a ha x y) (lane_lt b hb x y) (lane_xor a b x y))

pub linear : (a b : List ℕ) → Below 64 a → Below 64 b → pi (rho (theta (zip_xor a b))) ≡ zip_xor (pi (rho (theta a))) (pi (rho (theta b)))
linear a b ha hb =
    ap (λ s. pi (rho s)) (theta_xor a b ha hb) ∙ ap pi (rho_xor (theta a) (theta b) (theta_below a ha) (theta_below b hb)) ∙ pi_xor _ _
