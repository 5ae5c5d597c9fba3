-- Bytes squeezed one after the other within a lane are those of the lane, lane by lane those of the lanes, and by blocks those of FIPS 202. Assumes nothing.
use mathlib.Core.Path.{◌≡◌, refl, sym, ap, ap₂, ◌∙◌}
use mathlib.Core.List.{List, ◌∷◌, ◌++◌, append-nil}
use Prim.Native.Nat.{ℕ, zero, suc, ◌+◌, ◌-◌, ◌*◌, ◌/◌, ◌%◌, ◌^◌, ◌≤◌, ◌<◌}
use native.Mathlib.Nat.{add-zero, zero-add, div-one}
use native.Mathlib.Numerals.{add-one}
use native.Mathlib.Omega.{arith}
use lib.Dec.{lit<}
use lib.ListN.{length, get_or, take}
use lib.Pow.{shr-shr}
use lib.Seq.{take_at, drop-length}
use Rattle.slices.specs.Lists.{tab, put}
use Rattle.slices.specs.Tab.{tab_cong, tab_sized}
use Rattle.slices.specs.Numbers.{bytes_of, length_bytes_of, get_d_bytes_of}
use Rattle.slices.proofs.Put.{put_behind, Wrote, wrote_more, wrote_all}
use Rattle.keccak.specs.Keccak.{keccak_f}
use Rattle.stream.specs.declared.Sponge.{Sponge}
use Rattle.shake.specs.Padding.{rate}
use Rattle.shake.specs.Shake128.{byte_of, squeeze_blocks}
use Rattle.stream.specs.Stream.{sponge, ready, past, squeezed, rest}
use Rattle.stream.proofs.Stream.{squeezed_add, rest_add, length_squeezed, ready_full, ready_more, ready_self}
use Rattle.stream.proofs.Stream.{squeezed_ready, rest_ready}

-- ---- within a block

squeezed_within : (k p : ℕ) (a : List ℕ) → p + k ≤ rate → squeezed (sponge a p) k ≡ tab (λ i. byte_of a (p + i)) k
unfolding squeezed
squeezed_within zero p a h = refl
squeezed_within (suc k) p a h =
    ap (λ r. byte_of r.lanes r.at ∷ squeezed (past r) k) (ready_self (sponge a p) (omega arith))
    ∙ ap₂ (λ n t. byte_of a n ∷ t) (sym (add-zero p))
    (ap (λ n. squeezed (sponge a n) k) (add-one p) ∙ squeezed_within k (suc p) a (omega arith) ∙ tab_cong k (λ i l. ap (byte_of a) (shift i)))
  where
    shift : (i : ℕ) → suc p + i ≡ p + suc i
    shift i = omega arith

rest_within : (k p : ℕ) (a : List ℕ) → p + k ≤ rate → rest (sponge a p) k ≡ sponge a (p + k)
unfolding rest
rest_within zero p a h = ap (sponge a) (sym (add-zero p))
rest_within (suc k) p a h =
    let e : suc p + k ≡ p + suc k = omega arith in
    ap (λ r. rest (past r) k) (ready_self (sponge a p) (omega arith)) ∙ ap (λ n. rest (sponge a n) k) (add-one p)
    ∙ rest_within k (suc p) a (omega arith) ∙ ap (sponge a) e

-- ---- within a lane

-- w bytes of a lane, from byte p of the state on
abbrev from_lane : List ℕ → ℕ → ℕ → List ℕ
from_lane a p w = bytes_of w (get_or a (p / 8) 0 / 2 ^ (8 * (p % 8)))

lane_bytes : (a : List ℕ) (p w : ℕ) → p % 8 + w ≤ 8 → tab (λ i. byte_of a (p + i)) w ≡ from_lane a p w
unfolding byte_of
lane_bytes a p w h = tab_cong w same ∙ tab_sized (bytes_of w y) (length_bytes_of w y)
  where
    x : ℕ
    x = get_or a (p / 8) 0

    y : ℕ
    y = x / 2 ^ (8 * (p % 8))

    same : (i : ℕ) → i < w → byte_of a (p + i) ≡ get_or (bytes_of w y) i 0
    same i l =
        let k : (p + i) / 8 ≡ p / 8 = omega arith in
        let m : (p + i) % 8 ≡ p % 8 + i = omega arith in
        let e : 8 * (p % 8) + 8 * i ≡ 8 * (p % 8 + i) = omega arith in
        ap₂ (λ k m. get_or (bytes_of 8 (get_or a k 0)) m 0) k m ∙ get_d_bytes_of 8 x (p % 8 + i) (omega arith)
        ∙ ap (◌% 256) (ap (λ n. x / 2 ^ n) (sym e) ∙ sym (shr-shr x (8 * (p % 8)) (8 * i))) ∙ sym (get_d_bytes_of w y i l)

pub squeezed_piece : (a : List ℕ) (p w : ℕ) → p + w ≤ rate → p % 8 + w ≤ 8 → squeezed (sponge a p) w ≡ from_lane a p w
squeezed_piece a p w room h = squeezed_within w p a room ∙ lane_bytes a p w h

-- ---- whole lanes, one after the other

-- lane k + i, behind i lanes
pub next_lane : (a : List ℕ) (k i : ℕ) (d : List ℕ) (j : ℕ) {l r : List ℕ} → k + i < 21 → j ≤ length d
    → l ≡ put d j (squeezed (sponge a (8 * k)) (8 * i)) → r ≡ put l (j + 8 * i) (bytes_of 8 (get_or a (k + i) 0))
    → r ≡ put d j (squeezed (sponge a (8 * k)) (8 * (i + 1)))
next_lane a k i d j room h f g =
    let s = sponge a (8 * k) in
    let p = 8 * k + 8 * i in
    let lane : p / 8 ≡ k + i = omega arith in
    let start : 8 * (p % 8) ≡ 0 = omega arith in
    let more : 8 * (i + 1) ≡ 8 * i + 8 = omega arith in
    let bytes : squeezed (rest s (8 * i)) 8 ≡ bytes_of 8 (get_or a (k + i) 0) =
    ap (λ t. squeezed t 8) (rest_within (8 * i) (8 * k) a (omega arith)) ∙ squeezed_piece a p 8 (omega arith) (omega arith)
    ∙ ap₂ (λ m n. bytes_of 8 (get_or a m 0 / 2 ^ n)) lane start ∙ ap (bytes_of 8) (div-one (get_or a (k + i) 0)) in
    put_behind d j (squeezed s (8 * i)) (bytes_of 8 (get_or a (k + i) 0)) h (ap (j +◌) (sym (length_squeezed (8 * i) s))) f g
    ∙ ap (put d j) (ap (squeezed s (8 * i) ++◌) (sym bytes) ∙ sym (squeezed_add (8 * i) 8 s) ∙ ap (squeezed s) (sym more))

-- ---- a turn of squeeze's loop: w bytes more, where s has j bytes of s₀ behind it, and the sponge of lanes a at p is s made ready

module _ (s₀ : Sponge) (a : List ℕ) (p j w : ℕ) {s : Sponge} (at : s ≡ rest s₀ j) (e : sponge a p ≡ ready s) (some : 0 < w)
    (room : p + w ≤ rate) where
  pub rest_turn : sponge a (p + w) ≡ rest s₀ (j + w)
  rest_turn =
      sym (rest_within w p a room) ∙ ap (λ r. rest r w) e ∙ rest_ready s w some ∙ ap (λ r. rest r w) at ∙ sym (rest_add j w s₀)

  pub squeeze_turn : {d l r : List ℕ} → Wrote d (squeezed s₀ j) j l → r ≡ put l j (squeezed (sponge a p) w) → length r ≡ length l
      → Wrote d (squeezed s₀ (j + w)) (j + w) r
  squeeze_turn wrote put kept =
      let next : squeezed (rest s₀ j) w ≡ squeezed (sponge a p) w =
      ap (λ t. squeezed t w) (sym at) ∙ sym (squeezed_ready s w some) ∙ ap (λ r. squeezed r w) (sym e) in
      rw (squeezed_add j w s₀, next) (wrote_more (squeezed (sponge a p) w) wrote (length_squeezed w (sponge a p)) put kept)

pub squeeze_end : (s : Sponge) {d l : List ℕ} {j : ℕ} → Wrote d (squeezed s j) j l → j ≡ length d → l ≡ squeezed s (length d)
squeeze_end s {d} {l} {j} w e = wrote_all w ∙ rw (e, drop-length d) (append-nil (squeezed s (length d)))

-- ---- blocks

-- a full block is permuted before what comes next
pub ready_next : (x : List ℕ) → ready (sponge x rate) ≡ ready (sponge (keccak_f x) 0)
ready_next x = sym (ready_full (sponge x rate) (omega arith) refl refl) ∙ ready_more (sponge (keccak_f x) 0) (lit< tt) refl refl

squeezed_next : (n : ℕ) (a : List ℕ) → squeezed (sponge a rate) n ≡ squeezed (sponge (keccak_f a) 0) n
unfolding squeezed
squeezed_next zero a = refl
squeezed_next (suc n) a = ap (λ r. byte_of r.lanes r.at ∷ squeezed (past r) n) (ready_next a)

squeezed_whole : (j : ℕ) (a : List ℕ) → squeezed (sponge a 0) (j * rate) ≡ squeeze_blocks j a
unfolding squeezed squeeze_blocks
squeezed_whole zero a = refl
squeezed_whole (suc j) a =
    let e : suc j * rate ≡ rate + j * rate = omega arith in
    ap (squeezed (sponge a 0)) e ∙ squeezed_add rate (j * rate) (sponge a 0)
    ∙ ap₂ ◌++◌ (squeezed_within rate 0 a (omega arith) ∙ tab_cong rate (λ i l. ap (byte_of a) (zero-add i)))
    (ap (λ r. squeezed r (j * rate)) (rest_within rate 0 a (omega arith)) ∙ squeezed_next (j * rate) a ∙ squeezed_whole j (keccak_f a))

pub squeezed_blocks : (n : ℕ) (a : List ℕ) → squeezed (sponge a 0) n ≡ take n (squeeze_blocks (n / rate + 1) a)
squeezed_blocks n a =
    let s = sponge a 0 in
    let k = rate - n % rate in
    let e : (n / rate + 1) * rate ≡ n + k = omega arith in
    sym (take_at (squeezed s n) (squeezed (rest s n) k) n (length_squeezed n s))
    ∙ ap (take n) (sym (squeezed_add n k s) ∙ ap (squeezed s) (sym e) ∙ squeezed_whole (n / rate + 1) a)
