-- A hash's input in one buffer, and the hash of a row. Assumes nothing.
use mathlib.Core.Path.{◌≡◌, sym, ap, ◌∙◌}
use mathlib.Core.List.{List, [], ◌∷◌, ◌++◌, append_assoc}
use Prim.Native.Nat.{ℕ, ◌+◌, ◌-◌, ◌*◌}
use native.Mathlib.Omega.{arith}
use lib.ListN.{length, take, drop, replicate, length-append}
use Rattle.slices.specs.Lists.{put, row}
use Rattle.slices.proofs.Put.{put_last}
use Rattle.slices.proofs.Rows.{row_cut}
use Rattle.shake.proofs.Laws.{length_shake}
use Rattle.party.specs.Party.{party_hash}

-- ---- a buffer for a hash's input

-- tag, e and i are stored; then the salt is written, and then the seed
pub buffer : (tag e i : ℕ) (salt seed : List ℕ) {y z : List ℕ} → (length salt ≡ 32) × (length seed ≡ 16)
    → y ≡ put (tag ∷ (replicate 32 0 ++ e ∷ i ∷ replicate 16 0)) 1 salt → z ≡ put y 35 seed → z ≡ tag ∷ (salt ++ e ∷ i ∷ seed)
unfolding put
buffer tag e i salt seed {y} h w x =
    let p : List ℕ = tag ∷ (salt ++ e ∷ i ∷ []) in
    let salted : y ≡ p ++ replicate 16 0 = w ∙ rw h.0 (simp append_assoc) in
    let long : length p ≡ 35 = simp length-append (omega (arith, h.0)) in
    x ∙ ap (λ (l : List ℕ). put l 35 seed) salted ∙ put_last p (replicate 16 0) seed long (sym h.1) ∙ simp append_assoc

-- ---- the hash of a row

pub length_hash : (tag : ℕ) (salt : List ℕ) (e i : ℕ) (seed : List ℕ) (size : ℕ) → length (party_hash tag salt e i seed size) ≡ size
unfolding party_hash
length_hash tag salt e i seed size = length_shake (tag ∷ (salt ++ e ∷ i ∷ seed)) size

-- y is the hash of row i of the seeds
pub row_hashed : (tag : ℕ) (salt : List ℕ) (e i : ℕ) (seeds : List ℕ) {size len : ℕ} {y : List ℕ} → size ≡ len
    → y ≡ party_hash tag salt e i (take (i * 16 + 16 - i * 16) (drop (i * 16) seeds)) size → y ≡ party_hash tag salt e i (row 16 i seeds) len
row_hashed tag salt e i seeds h w = w ∙ rw (row_cut i 16 seeds, h)
