-- The hash's input, in a buffer of 54 bytes. Assumes nothing.
use mathlib.Core.Path.{◌≡◌, sym, ap, ◌∙◌}
use mathlib.Core.List.{List, ◌∷◌, ◌++◌, append_assoc}
use Prim.Native.Nat.{ℕ}
use native.Mathlib.Omega.{arith}
use lib.ListN.{length, replicate, length-append}
use Rattle.slices.specs.Lists.{put}
use Rattle.slices.specs.Numbers.{bytes_of}
use Rattle.slices.proofs.Put.{put_last}

-- byte and number are stored as w; then the salt is written, and then the seed
pub buffer : (e v : ℕ) (salt seed : List ℕ) {w y z : List ℕ} → (length salt ≡ 32) × (length seed ≡ 16)
    → w ≡ put (5 ∷ (replicate 32 0 ++ e ∷ replicate 20 0)) 34 (bytes_of 4 v) → y ≡ put w 1 salt → z ≡ put y 38 seed
    → z ≡ 5 ∷ (salt ++ e ∷ (bytes_of 4 v ++ seed))
unfolding put bytes_of
buffer e v salt seed {w} {y} h store copy copy2 =
    let p : List ℕ = 5 ∷ (salt ++ e ∷ bytes_of 4 v) in
    let salted : y ≡ p ++ replicate 16 0 = copy ∙ rw (store, h.0) (simp append_assoc) in
    let long : length p ≡ 38 = simp length-append (omega (arith, h.0)) in
    copy2 ∙ ap (λ (l : List ℕ). put l 38 seed) salted ∙ put_last p (replicate 16 0) seed long (sym h.1) ∙ simp append_assoc
