-- The parts of a head where they lie, and a head that is written part by part. Assumes nothing.
use mathlib.Core.Path.{◌≡◌, refl, sym, ap, ◌∙◌}
use mathlib.Core.List.{List, [], ◌∷◌, ◌++◌, append_assoc, append-nil}
use Prim.Native.Nat.{ℕ, ◌-◌, ◌≤◌}
use native.Mathlib.Omega.{arith}
use lib.ListN.{length, take, drop}
use lib.Seq.{drop-drop}
use Rattle.slices.specs.Lists.{put}
use Rattle.slices.specs.Layout.{field, layout}
use Rattle.slices.proofs.Put.{length_put, wrote_none, wrote_more, wrote_all}
use Rattle.banquet.specs.Shape.{head_length}
use Rattle.banquet.specs.Signature.{signature_salt, signature_h1, signature_h3}

module _ (s : List ℕ) where
  pub salt_is : take (32 - 0) s ≡ signature_salt s
  unfolding field
  salt_is = refl

  pub h1_is : take (64 - 32) (drop 32 s) ≡ signature_h1 s
  unfolding field
  h1_is = refl

  pub h3_is : take (96 - 64) (drop 64 s) ≡ signature_h3 s
  unfolding field
  h3_is = ap (take 32) (sym (drop-drop 32 32 s))

pub head_written : (d salt h1 h3 : List ℕ) {a b c : List ℕ} → head_length ≤ length d → length salt ≡ 32 → length h1 ≡ 32 → length h3 ≡ 32
    → a ≡ put d 0 salt → b ≡ put a 32 h1 → c ≡ put b 64 h3 → c ≡ layout (salt ∷ h1 ∷ h3 ∷ []) ++ drop head_length d
unfolding layout
head_written d salt h1 h3 {a} {b} {c} h p q r e f g =
    let one = wrote_more salt (wrote_none d) p e (ap length e ∙ length_put d 0 salt (omega arith)) in
    let two = wrote_more h1 one q f (ap length f ∙ length_put a 32 h1 (omega (arith, one.long))) in
    let three = wrote_more h3 two r g (ap length g ∙ length_put b 64 h3 (omega (arith, two.long))) in
    wrote_all three ∙ simp (append_assoc, append-nil)
