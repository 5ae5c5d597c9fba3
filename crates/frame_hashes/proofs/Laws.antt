-- What ends a frame; the sum of all parties' rows, as it is written; what the rows are worked out from. Assumes nothing.
use mathlib.Core.Path.{◌≡◌, refl, sym, ap, ap₂, ◌∙◌}
use mathlib.Core.List.{List, [], ◌∷◌, ◌++◌, append-nil}
use Prim.Native.Nat.{ℕ, suc, ◌+◌, ◌-◌, ◌*◌}
use native.Mathlib.Omega.{arith}
use lib.ListN.{length, take, drop, length-drop}
use lib.Seq.{take_at, take_all, drop-drop}
use Rattle.slices.specs.Lists.{rows, row}
use Rattle.slices.specs.Tab.{rows_cong, row_of_rows}
use Rattle.slices.specs.Layout.{total, field, layout}
use Rattle.slices.proofs.Put.{Wrote, wrote_all, cut_long}
use Rattle.complete.specs.Complete.{completed_row}
use Rattle.complete.specs.Rows.{completed_cong}
use Rattle.banquet.specs.declared.Shape.{Shape}
use Rattle.banquet.specs.Shape.{frame_sizes}
use Rattle.banquet.specs.Sets.{scheme_of}
use Rattle.banquet.specs.Hash.{tape}
use Rattle.banquet.specs.Execution.{challenge}
use Rattle.banquet.specs.Key.{front_of, ciphertext_of}
use Rattle.banquet.specs.Signature.{frame_part}
use Rattle.sets.specs.Bounds.{row_sizes}
use Rattle.forms.specs.Party.{committed, share_row}
use Rattle.frame_hashes.specs.Linear.{layout_fields}
use Rattle.frame_hashes.specs.Given.{Given}
use Rattle.frame_hashes.specs.Frame.{whole_row, committed_shown, challenge_shown, frame_row, shown_long}

-- ---- c, a and b end a frame

module _ (S : Shape) (frame : List ℕ) {len : ℕ} (long : length frame ≡ total (frame_sizes S)) (e : len ≡ total (row_sizes S)) where
  open S use {depth, wide, m1, m2}

  abbrev from : ℕ
  from = length frame - (len - 16)

  abbrev sums : List ℕ
  sums = drop (suc m2 * wide) (drop (m1 * m2) (drop 16 (drop 32 (drop (depth * 16) frame))))

  sums_from : drop from frame ≡ sums
  sums_from =
      let is : from ≡ depth * 16 + 32 + 16 + m1 * m2 + suc m2 * wide = omega (arith, long, e) in
      simp drop-drop (ap (λ (k : ℕ). drop k frame) is)

  pub sums_long : length (take (length frame - from) (drop from frame)) ≡ len - 16
  sums_long =
      let end : from + (len - 16) ≡ length frame = omega (arith, long, e) in
      cut_long from (length frame) frame end (omega arith)

  pub sums_last : take (length frame - from) (drop from frame)
      ≡ frame_part (scheme_of S) frame 5 ++ (frame_part (scheme_of S) frame 6 ++ frame_part (scheme_of S) frame 7)
  unfolding field layout
  sums_last =
      let size : length sums ≡ wide + (m1 * wide + (m1 * wide + 0)) =
      ap length (sym sums_from) ∙ length-drop from frame ∙ omega (arith, long, e) in
      take_all (length frame - from) (drop from frame) (omega (arith, length-drop from frame)) ∙ sums_from
      ∙ layout_fields (wide ∷ m1 * wide ∷ m1 * wide ∷ []) sums size
      ∙ ap (λ (x : List ℕ). frame_part (scheme_of S) frame 5 ++ (frame_part (scheme_of S) frame 6 ++ x)) (append-nil (frame_part (scheme_of S) frame 7))

  -- the sum of all rows, written part by part
  pub whole_written : (public_key : List ℕ) {d l : List ℕ}
      → Wrote d (([] ++ ciphertext_of (scheme_of S) public_key) ++ take (length frame - from) (drop from frame)) (0 + 16 + (len - 16)) l
      → take (len - 0) l ≡ whole_row S public_key frame
  whole_written public_key {d} w =
      let n : len - 0 ≡ 0 + 16 + (len - 16) = omega (arith, e) in
      let text = ciphertext_of (scheme_of S) public_key in
      ap₂ (λ (k : ℕ) (x : List ℕ). take k x) n (wrote_all w)
      ∙ take_at (text ++ take (length frame - from) (drop from frame)) (drop (0 + 16 + (len - 16)) d) (0 + 16 + (len - 16)) w.size
      ∙ ap (text ++◌) sums_last

-- ---- what the rows are worked out from

module _ {S : Shape} {public_key salt : List ℕ} {hidden : ℕ} {first : List ℕ} {second : ℕ} {frame : List ℕ}
    (g : Given S public_key salt hidden first second frame) where
  module _ (e : ℕ) (seeds : List ℕ) {front key inverse product : List ℕ} (front_is : front ≡ front_of (scheme_of S) public_key)
      (key_is : key ≡ frame_part (scheme_of S) frame 2) (inverse_is : inverse ≡ frame_part (scheme_of S) frame 3)
      (product_is : product ≡ frame_part (scheme_of S) frame 4) where
    -- the rows of those whose seeds are shown, and that of the hidden party
    pub rows_completed : {made out : List ℕ} → made
        ≡ rows (λ i. share_row (scheme_of S) (committed front key inverse) (challenge (scheme_of S) first product second) i
        (tape (scheme_of S) salt e i (row 16 i seeds))) S.parties
        → out ≡ rows (completed_row S.parties hidden (whole_row S public_key frame) (λ i. row (total (row_sizes S)) i made)) S.parties
        → out ≡ rows (frame_row S public_key salt e hidden first second frame (λ i. row 16 i seeds)) S.parties
    unfolding frame_row
    rows_completed {made} m o =
        o
        ∙ rows_cong S.parties (completed_cong S.parties hidden (whole_row S public_key frame)
        (λ i l. ap (row (total (row_sizes S)) i) right
        ∙ row_of_rows (total (row_sizes S)) shown S.parties
        (λ i l. shown_long S public_key salt e hidden first second frame seed g.valid g.public_sized g.frame_sized g.first_sized.bytes
        g.second_wide i)
        i l))
      where
        seed : ℕ → List ℕ
        seed i = row 16 i seeds

        shown : ℕ → List ℕ
        shown i =
            share_row (scheme_of S) (committed_shown S public_key salt e hidden first second frame seed)
            (challenge_shown S public_key salt e hidden first second frame seed) i (tape (scheme_of S) salt e i (seed i))

        right : made ≡ rows shown S.parties
        right =
            m ∙ rw (front_is, key_is, inverse_is, product_is) refl
