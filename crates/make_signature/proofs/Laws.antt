-- Lengths, and parts that are lent and come back. Assumes nothing.
use mathlib.Core.Path.{◌≡◌, refl, ap, ◌∙◌}
use mathlib.Core.List.{List, [], ◌∷◌, ◌++◌, append-nil}
use Prim.Native.Nat.{ℕ, ◌+◌, ◌-◌, ◌*◌, ◌≤◌}
use native.Mathlib.Omega.{arith}
use lib.ListN.{length, take, drop, length-drop, drop_of_length-le}
use lib.Seq.{length-take-le, drop_at}
use borrow.Rule.Slice.PartMut.{put_mid}
use Rattle.slices.specs.Lists.{rows, put}
use Rattle.slices.specs.Layout.{layout}
use Rattle.slices.proofs.Put.{length_put, wrote_none, wrote_more, wrote_all, front_long}
use Rattle.banquet.specs.declared.Shape.{Shape}
use Rattle.banquet.specs.Shape.{head_length, work_length}
use Rattle.banquet.specs.Sets.{scheme_of}
use Rattle.banquet.specs.Signature.{signer_h1, signer_h3, signer_frame, signature}
use Rattle.sets.specs.Valid.{Valid}
use Rattle.sets.specs.Bounds.{tapes_most}

-- ---- two lists that fill a third

pub joined_lists : (d a b : List ℕ) {x y : List ℕ} → length a ≡ 16 → length d ≡ 16 + length b → x ≡ put d 0 a → y ≡ put x 16 b → y ≡ a ++ b
joined_lists d a b {x} {y} k h e f =
    let one = wrote_more a (wrote_none d) k e (ap length e ∙ length_put d 0 a (omega arith)) in
    let two = wrote_more b one refl f (ap length f ∙ length_put x 16 b (omega (arith, one.long))) in
    let none : length d ≤ 16 + length b = omega arith in
    wrote_all two ∙ ap ((a ++ b) ++◌) (drop_of_length-le d none) ∙ append-nil (a ++ b)

-- ---- lengths

module _ {S : Shape} (v : Valid S) where
  open S use {parties}

  -- the tapes or the shares of an execution in the work slice, n bytes for each party
  pub parties_lent : {size n : ℕ} → size ≡ n → size ≤ 462 → (work : List ℕ) → work_length ≤ length work
      → length (take (parties * size - 0) work) ≡ parties * n
  parties_lent {size} e m work h = front_long (parties * size) work (omega (arith, tapes_most v m)) ∙ ap (parties *◌) e

-- ---- the frames, lent as `&mut d[heads::LENGTH..end]`, stand behind the head

pub frames_behind : (d y : List ℕ) {n : ℕ} → length d ≡ head_length + n → length y ≡ n
    → drop head_length (put_mid head_length (length d - head_length) d y) ≡ y
frames_behind d y {n} h k =
    let none : length (drop head_length d) ≤ length d - head_length = omega (arith, length-drop head_length d) in
    let end : drop (length d - head_length) (drop head_length d) ≡ [] = drop_of_length-le (drop head_length d) none in
    drop_at (take head_length d) (y ++ drop (length d - head_length) (drop head_length d)) head_length (length-take-le head_length d (omega arith))
    ∙ ap (y ++◌) end ∙ append-nil y

pub signature_is : (S : Shape) (key public_key message salt roots : List ℕ) {h1 h3 frames : List ℕ}
    → h1 ≡ signer_h1 (scheme_of S) key public_key message salt roots → h3 ≡ signer_h3 (scheme_of S) key public_key message salt roots
    → frames ≡ rows (signer_frame (scheme_of S) key public_key message salt roots) S.executions
    → layout (salt ∷ h1 ∷ h3 ∷ []) ++ frames ≡ signature (scheme_of S) key public_key message salt roots
unfolding signature
signature_is S key public_key message salt roots p q r = rw (p, q, r) refl
