-- Counts that fit, tapes and the rows that are worked out from them. Assumes nothing.
use mathlib.Core.Path.{◌≡◌, ap, ap₂, ◌∙◌}
use mathlib.Core.List.{List, ◌∷◌, ◌++◌}
use Prim.Native.Nat.{ℕ, ◌+◌, ◌-◌, ◌*◌, ◌<◌}
use native.Mathlib.Omega.{arith}
use lib.ListN.{take, drop}
use mir.Syntax.{w32, w64}
use mir.Val.{Fits}
use Rattle.slices.specs.Lists.{row}
use Rattle.slices.specs.Layout.{total}
use Rattle.slices.proofs.Rows.{row_cut}
use Rattle.shake.specs.Shake128.{shake128}
use Rattle.party.specs.Party.{party_hash}
use Rattle.banquet.specs.declared.Shape.{Shape}
use Rattle.banquet.specs.Shape.{tape_sizes}
use Rattle.banquet.specs.Sets.{scheme_of}
use Rattle.banquet.specs.Hash.{tape}
use Rattle.sets.specs.Valid.{Valid}

-- ---- counts

module _ {i : ℕ} (h : i < 256) where
  pub seed_word : Fits w64 (i * 16)
  seed_word = omega (arith, h)

  pub seed_end_word : Fits w64 (i * 16 + 16)
  seed_end_word = omega (arith, h)

  pub next_word : Fits w64 (i + 1)
  next_word = omega (arith, h)

module _ {S : Shape} (v : Valid S) where
  pub bits_word : Fits w64 (8 * S.wide)
  bits_word = omega (arith, v.wide_most)

  pub bits_half : Fits w32 (8 * S.wide)
  bits_half = omega (arith, v.wide_most)

  -- what is worked out from the hash with first byte 4, as long as a tape, is worked out from the tape
  pub drawn_row : (f : List ℕ → List ℕ) (salt : List ℕ) (e i : ℕ) (seeds : List ℕ) {n : ℕ} {t y : List ℕ} → y ≡ f t
      → t ≡ party_hash 4 salt e i (take (i * 16 + 16 - i * 16) (drop (i * 16) seeds)) n → n ≡ total (tape_sizes S)
      → y ≡ f (tape (scheme_of S) salt e i (row 16 i seeds))
  unfolding tape party_hash
  drawn_row f salt e i seeds h d l = h ∙ ap f (d ∙ ap₂ (λ seed. shake128 (4 ∷ (salt ++ e ∷ i ∷ seed))) (row_cut i 16 seeds) l)
