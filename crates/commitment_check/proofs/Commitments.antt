-- The commitments worked out and stated, and the lowest that differs. Assumes nothing.
use mathlib.Core.Path.{◌≡◌, refl, ap, ap₂, ◌∙◌}
use mathlib.Core.Bool.{◌||◌}
use mathlib.Core.List.{List}
use Rattle.std.specs.Prelude.{Option}
use Prim.Native.Nat.{ℕ}
use lib.Dec.{eqb}
use Rattle.slices.specs.Lists.{found, rows, row, same}
use Rattle.slices.specs.Tab.{row_of_rows, rows_cong}
use Rattle.slices.specs.Layout.{field}
use Rattle.compare.specs.Lowest.{lowest, lowest_cong}
use Rattle.party.specs.Party.{party_hash}
use Rattle.party.proofs.Laws.{length_hash}
use Rattle.banquet.specs.declared.Shape.{Shape}
use Rattle.banquet.specs.Shape.{transcript_sizes}
use Rattle.banquet.specs.Sets.{scheme_of}
use Rattle.banquet.specs.Hash.{commitment}
use Rattle.banquet.specs.Opening.{salt_of, commitment_of}

hashed : (S : Shape) (salt : List ℕ) (e i : ℕ) (seed : List ℕ) → party_hash 0 salt e i seed 32 ≡ commitment (scheme_of S) salt e i seed
unfolding party_hash commitment
hashed S salt e i seed = refl

module _ (S : Shape) (t seeds : List ℕ) (e : ℕ) where
  open S use {parties}

  -- party i's commitment, worked out
  abbrev committed : ℕ → List ℕ
  committed i = commitment (scheme_of S) (salt_of (scheme_of S) t) e i (row 16 i seeds)

  module _ {sizes salt made : List ℕ} (z : sizes ≡ transcript_sizes S) (s : salt ≡ field sizes 0 t)
      (m : made ≡ rows (λ i. party_hash 0 salt e i (row 16 i seeds) 32) parties) where
    row_hashed : (i : ℕ) → party_hash 0 salt e i (row 16 i seeds) 32 ≡ committed i
    row_hashed i =
        hashed S salt e i (row 16 i seeds) ∙ ap (λ x. commitment (scheme_of S) x e i (row 16 i seeds)) (s ∙ ap (λ l. field l 0 t) z)

    -- all of them
    pub all_hashed : made ≡ rows committed parties
    all_hashed = m ∙ rows_cong parties (λ i l. row_hashed i)

    -- the lowest shown party whose commitment differs
    pub differing : (hidden : ℕ) {stated : List ℕ} {differs : Option ℕ} → stated ≡ field sizes 2 t
        → differs ≡ found parties (lowest parties 0 (λ i. eqb i hidden || same (row 32 i made) (row 32 i stated)))
        → differs ≡ found parties (lowest parties 0 (λ i. eqb i hidden || same (committed i) (commitment_of (scheme_of S) t i)))
    differing hidden c f =
        f ∙ ap (found parties) (lowest_cong parties (λ i l. ap (eqb i hidden ||◌)
        (ap₂ same
        (ap (row 32 i) m
        ∙ row_of_rows 32 (λ i. party_hash 0 salt e i (row 16 i seeds) 32) parties (λ j k. length_hash 0 salt e j (row 16 j seeds) 32) i l
        ∙ row_hashed i) (ap (row 32 i) (c ∙ ap (λ l. field l 2 t) z)))))
