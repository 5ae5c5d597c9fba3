-- Bytes absorbed within a block are added to its lanes, a piece of a lane or whole lanes; a turn of absorb's loop, and what finish adds. Assumes nothing.
use mathlib.Core.Path.{◌≡◌, sym, ap, ap₂, ◌∙◌}
use mathlib.Core.List.{List, [], ◌∷◌}
use Prim.Native.Nat.{ℕ, suc, ◌+◌, ◌*◌, ◌/◌, ◌%◌, ◌^◌, ◌≤◌, ◌<◌}
use native.Mathlib.Nat.{add-zero, mul-one}
use native.Mathlib.Numerals.{add-one}
use native.Mathlib.Omega.{arith}
use lib.Bits.{bit_xor}
use lib.ListN.{length, get_or, set, take, drop, take-append-drop}
use lib.Pow.{shl_exact}
use lib.Seq.{length-take-le}
use Rattle.slices.specs.Lists.{part}
use Rattle.slices.specs.Tab.{length_part, part_append}
use Rattle.slices.specs.Bytes.{Bytes, part_bytes}
use Rattle.slices.specs.Numbers.{number, number_lt}
use Rattle.stream.specs.declared.Sponge.{Sponge}
use Rattle.shake.specs.Padding.{rate}
use Rattle.stream.specs.Stream.{sponge, xor_at, ready, absorb_byte, absorbed}
use Rattle.stream.proofs.Stream.{absorbed_append, ready_self, absorbed_ready}
use Rattle.stream.proofs.Lanes.{add_at, add_at_lane}

pub absorbed_add_at : (q a : List ℕ) (p : ℕ) → p + length q ≤ rate → absorbed (sponge a p) q ≡ sponge (add_at a p q) (p + length q)
unfolding absorbed absorb_byte add_at
absorbed_add_at [] a p h = ap (sponge a) (sym (add-zero p))
absorbed_add_at (b ∷ q) a p h =
    let e : suc p + length q ≡ p + suc (length q) = omega arith in
    ap (λ r. absorbed (absorb_byte r b) q) (ready_self (sponge a p) (omega arith))
    ∙ ap (λ n. absorbed (sponge (xor_at a p b) n) q) (add-one p)
    ∙ absorbed_add_at q (xor_at a p b) (suc p) (omega arith) ∙ ap (sponge (add_at (xor_at a p b) (suc p) q)) e

-- some bytes within lane m, from its byte r on
absorbed_lane : (a : List ℕ) (m r p : ℕ) (q : List ℕ) → p ≡ 8 * m + r → m < 21 → r + length q ≤ 8 → Bytes q
    → absorbed (sponge a p) q ≡ sponge (set a m (bit_xor (get_or a m 0) (number q * 2 ^ (8 * r)))) (p + length q)
absorbed_lane a m r p q e room h hq =
    absorbed_add_at q a p (omega arith) ∙ ap (λ t. sponge t (p + length q)) (add_at_lane a m q r p (omega arith) hq h)

-- ---- absorb

-- a piece of a lane: w bytes of number x
pub absorbed_piece : (a : List ℕ) (p : ℕ) (src : List ℕ) (j w x : ℕ) → Bytes src → p < rate → p % 8 + w ≤ 8 → j + w ≤ length src
    → x ≡ number (part j w src)
    → sponge (set a (p / 8) (bit_xor (get_or a (p / 8) 0) (x * 2 ^ (8 * (p % 8)) % 2 ^ 64))) (p + w) ≡ absorbed (sponge a p) (part j w src)
absorbed_piece a p src j w x hs room h fits v =
    let q = part j w src in
    let hq = part_bytes j w src hs in
    let size : length q ≡ w = length_part j w src fits in
    let exact : x * 2 ^ (8 * (p % 8)) % 2 ^ 64 ≡ number q * 2 ^ (8 * (p % 8)) =
    ap (λ n. n * 2 ^ (8 * (p % 8)) % 2 ^ 64) v ∙ shl_exact (8 * w) (8 * (p % 8)) 64 (number_lt q w hq (omega arith)) (omega arith) in
    ap₂ (λ n k. sponge (set a (p / 8) (bit_xor (get_or a (p / 8) 0) n)) (p + k)) exact (sym size)
    ∙ sym (absorbed_lane a (p / 8) (p % 8) p q (omega arith) (omega arith) (omega arith) hq)

-- one whole lane more: lane m, after i lanes
pub absorbed_next : (s₀ : Sponge) (a : List ℕ) (m : ℕ) (src : List ℕ) (j i : ℕ) {p p' x : ℕ} → Bytes src → m < 21 → p ≡ 8 * m → p' ≡ 8 * m + 8
    → j + 8 * i + 8 ≤ length src → sponge a p ≡ absorbed s₀ (part j (8 * i) src) → x ≡ number (part (j + 8 * i) 8 src)
    → sponge (set a m (bit_xor (get_or a m 0) x)) p' ≡ absorbed s₀ (part j (8 * (i + 1)) src)
absorbed_next s₀ a m src j i {p} {p'} {x} hs room at end fits e v =
    let q = part (j + 8 * i) 8 src in
    let hq = part_bytes (j + 8 * i) 8 src hs in
    let size : length q ≡ 8 = length_part (j + 8 * i) 8 src fits in
    let more : 8 * (i + 1) ≡ 8 * i + 8 = omega arith in
    let past : p' ≡ p + length q = omega arith in
    ap₂ (λ n k. sponge (set a m (bit_xor (get_or a m 0) n)) k) (v ∙ sym (mul-one (number q))) past
    ∙ sym (absorbed_lane a m 0 p q (omega arith) room (omega arith) hq)
    ∙ ap (λ t. absorbed t q) e ∙ sym (absorbed_append s₀ (part j (8 * i) src) q)
    ∙ ap (absorbed s₀) (sym (part_append j (8 * i) 8 src) ∙ ap (λ n. part j n src) (sym more))

-- a turn of absorb's loop: w bytes more, by the sponge made ready; what is left then is absorbed as all that was left
pub absorb_turn : (s : Sponge) (src : List ℕ) (w : ℕ) {r t : Sponge} → r ≡ ready s → 0 < w → w ≤ length src → t ≡ absorbed r (take w src)
    → absorbed t (drop w src) ≡ absorbed s src
absorb_turn s src w e some fits f =
    let q = take w src in
    let size : length q ≡ w = length-take-le w src fits in
    ap (λ t. absorbed t (drop w src)) (f ∙ ap (λ t. absorbed t q) e ∙ absorbed_ready s q (omega arith))
    ∙ sym (absorbed_append s q (drop w src)) ∙ ap (absorbed s) (take-append-drop w src)

-- a byte that finish adds: moved to its place it loses no bit
pub xor_at_shifted : (a : List ℕ) (p b : ℕ) → b < 256 → set a (p / 8) (bit_xor (get_or a (p / 8) 0) (b * 2 ^ (8 * (p % 8)) % 2 ^ 64)) ≡ xor_at a p b
unfolding xor_at
xor_at_shifted a p b h = ap (λ n. set a (p / 8) (bit_xor (get_or a (p / 8) 0) n)) (shl_exact 8 (8 * (p % 8)) 64 h (omega arith))
