-- The product offsets of a signature's executions, absorbed one after the other, and the hash of them all. Assumes nothing.
use mathlib.Core.Path.{◌≡◌, refl, sym, ap, ap₂, ◌∙◌}
use mathlib.Core.List.{List, ◌∷◌, ◌++◌}
use Prim.Native.Nat.{ℕ, ◌+◌}
use native.Mathlib.Numerals.{add-one}
use lib.Dec.{lit<}
use Rattle.slices.specs.Lists.{rows}
use Rattle.slices.specs.Bytes.{Bytes, Sized, cons_bytes, append_bytes, rows_bytes}
use Rattle.slices.specs.Layout.{field_bytes}
use Rattle.shake.proofs.Laws.{sized_shake}
use Rattle.stream.specs.declared.Sponge.{Sponge}
use Rattle.stream.specs.Stream.{empty, absorbed, finished, squeezed}
use Rattle.stream.proofs.Stream.{absorbed_append, joined}
use Rattle.stream.proofs.Shake.{output}
use Rattle.banquet.specs.declared.Shape.{Shape}
use Rattle.banquet.specs.Shape.{head_sizes, frame_sizes}
use Rattle.banquet.specs.Sets.{scheme_of}
use Rattle.banquet.specs.Hash.{second_hash}
use Rattle.banquet.specs.Signature.{signature_h1, frame_of, frame_part}
use Rattle.frames.specs.Frames.{frame_bytes}

module _ (S : Shape) (s : List ℕ) where
  open S use {executions}

  -- the product offsets of execution e, as a signature s has them
  abbrev pub offsets_of : ℕ → List ℕ
  offsets_of e = frame_part (scheme_of S) (frame_of (scheme_of S) s e) 4

  -- ---- the loop

  -- t has absorbed the offsets of e executions, and u those of one more
  pub one_more : (e : ℕ) (start : Sponge) {frame offsets : List ℕ} {t u : Sponge} → frame ≡ frame_of (scheme_of S) s e
      → offsets ≡ frame_part (scheme_of S) frame 4 → t ≡ absorbed start (rows offsets_of e) → u ≡ absorbed t offsets
      → u ≡ absorbed start (rows offsets_of (e + 1))
  one_more e start f o p q =
      q ∙ ap₂ absorbed p (o ∙ ap (λ l. frame_part (scheme_of S) l 4) f) ∙ sym (absorbed_append start (rows offsets_of e) (offsets_of e))
      ∙ ap (λ (k : ℕ). absorbed start (rows offsets_of k)) (sym (add-one e))

  -- ---- bytes

  module _ (b : Bytes s) where
    pub h1_bytes : Bytes (signature_h1 s)
    h1_bytes = field_bytes (head_sizes) 1 s b

    pub offsets_bytes : (e : ℕ) → Bytes (offsets_of e)
    offsets_bytes e = field_bytes (frame_sizes S) 4 (frame_of (scheme_of S) s e) (frame_bytes S s e b)

    pub all_offsets_bytes : Bytes (rows offsets_of executions)
    all_offsets_bytes = rows_bytes offsets_of executions (λ e l. offsets_bytes e)

  -- ---- "2: h1, all product offsets; gives h2, 32 bytes."

  -- h2 of a signature, from its own h1 and product offsets
  abbrev pub h2_of : List ℕ
  h2_of = second_hash (scheme_of S) (signature_h1 s) offsets_of

  -- where t has absorbed the byte 2, h1, and the offsets
  pub second_hashed : {start t : Sponge} {h : List ℕ} → Bytes s → start ≡ absorbed empty (2 ∷ signature_h1 s)
      → t ≡ absorbed start (rows offsets_of executions) → h ≡ squeezed (finished t) 32 → h ≡ h2_of
  unfolding second_hash
  second_hashed b p q r =
      let h1 = signature_h1 s in
      let all = rows offsets_of executions in
      r ∙ output (2 ∷ (h1 ++ all)) 32 (cons_bytes (lit< tt) (append_bytes (h1_bytes b) (all_offsets_bytes b))) (joined (2 ∷ h1) all p q) refl

-- for any h1 and offsets
pub sized_second : (S : Shape) (h1 : List ℕ) (offsets : ℕ → List ℕ) → Sized 32 (second_hash (scheme_of S) h1 offsets)
unfolding second_hash
sized_second S h1 offsets = sized_shake (2 ∷ (h1 ++ rows offsets S.executions)) 32
