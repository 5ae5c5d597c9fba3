-- A party's shares among a transcript's fields, and a stated row written part by part. Assumes nothing.
use mathlib.Core.Path.{◌≡◌, refl, sym, ap, ◌∙◌}
use mathlib.Core.List.{List, [], ◌++◌, append-nil, append_assoc}
use Prim.Native.Nat.{ℕ, ◌+◌, ◌*◌, ◌^◌, ◌<◌, ◌≤◌}
use native.Mathlib.Omega.{arith}
use lib.ListN.{length, get_or, drop, length-drop, drop_of_length-le}
use lib.Seq.{length-take-le}
use Rattle.slices.specs.Lists.{row}
use Rattle.slices.specs.Layout.{total, field, length_field}
use Rattle.slices.proofs.Put.{Wrote, wrote_all}
use Rattle.slices.proofs.Rows.{row_fits}
use Rattle.banquet.specs.declared.Shape.{Shape}
use Rattle.banquet.specs.Shape.{transcript_sizes}
use Rattle.sets.specs.Valid.{Valid}
use Rattle.sets.specs.Bounds.{row_sizes}
use Rattle.sets.proofs.Bounds.{row_most, transcript_most}
use Rattle.forms.specs.Stated.{stated_row}

-- ---- fields of a transcript

-- field k of a transcript has its size
pub field_size : (S : Shape) {sizes f : List ℕ} (t : List ℕ) (k : ℕ) → sizes ≡ transcript_sizes S → length t ≡ total (transcript_sizes S)
    → f ≡ field sizes k t → length f ≡ get_or (transcript_sizes S) k 0
field_size S t k e h is = rw (is, e) (length_field (transcript_sizes S) k t h)

pub transcript_fits : {S : Shape} → Valid S → {sizes : List ℕ} (s : List ℕ) → sizes ≡ transcript_sizes S → length s ≡ total (transcript_sizes S) → (k : ℕ)
    → k < 12 → (k < length sizes) × (total sizes ≤ length s) × (total sizes < 2 ^ 63)
transcript_fits v s e h k l = rw e (omega arith, omega arith, omega (arith, transcript_most v))

-- ---- a party's shares

-- what field k states of party i: its share that is part p of a row
abbrev pub share : List ℕ → List ℕ → List ℕ → ℕ → ℕ → ℕ → List ℕ
share sizes parts t i k p = row (get_or parts p 0) i (field sizes k t)

module _ {S : Shape} (v : Valid S) {sizes parts : List ℕ} (is : sizes ≡ transcript_sizes S) (cut : parts ≡ row_sizes S) (t : List ℕ)
    (h : length t ≡ total (transcript_sizes S)) {i : ℕ} (m : i < S.parties) where
  -- field k has a share for each party
  module _ (k p : ℕ) (g : get_or (transcript_sizes S) k 0 ≡ S.parties * get_or (row_sizes S) p 0) where
    fits : i * get_or parts p 0 + get_or parts p 0 ≤ get_or sizes k 0
    fits = rw (is, cut, g) (row_fits (get_or (row_sizes S) p 0) m)

    pub asked : (out : List ℕ) → k < 12 → p < 4 → length out ≡ total (row_sizes S)
        → (k < length sizes) × (total sizes ≤ length t) × (total sizes < 2 ^ 63) × (p < length parts) × (total parts ≤ length out)
        × (total parts < 2 ^ 63) × (i * get_or parts p 0 + get_or parts p 0 ≤ get_or sizes k 0)
    asked out l n e = (
      (transcript_fits v t is h k l).0,
      (transcript_fits v t is h k l).1,
      (transcript_fits v t is h k l).2,
      rw cut (omega arith),
      rw cut (omega (arith, e)),
      rw cut (omega (arith, row_most v)),
      fits,
    )

    pub share_long : length (share sizes parts t i k p) ≡ get_or (row_sizes S) p 0
    share_long =
        let long : length (field sizes k t) ≡ get_or sizes k 0 = field_size S t k is h refl ∙ ap (λ s. get_or s k 0) (sym is) in
        length-take-le (get_or parts p 0) (drop (i * get_or parts p 0) (field sizes k t))
        (omega (arith, length-drop (i * get_or parts p 0) (field sizes k t), long, fits))
        ∙ ap (λ s. get_or s p 0) cut

-- the four parts of a row
pub stated_laid : (S : Shape) (t : List ℕ) (i : ℕ) {sizes parts d l : List ℕ} → sizes ≡ transcript_sizes S → parts ≡ row_sizes S
    → length d ≡ total (row_sizes S)
    → Wrote d (((([] ++ share sizes parts t i 3 0) ++ share sizes parts t i 9 1) ++ share sizes parts t i 10 2) ++ share sizes parts t i 11 3)
    (total (row_sizes S)) l
    → l ≡ stated_row S t i
unfolding stated_row
stated_laid S t i {d = d} is cut h w =
    let all : length d ≤ total (row_sizes S) = omega (arith, h) in
    let end : drop (total (row_sizes S)) d ≡ [] = drop_of_length-le d all in
    wrote_all w ∙ rw (end, is, cut) (simp (append-nil, append_assoc))
