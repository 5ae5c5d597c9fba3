-- The seeds that a frame shows, and what h1 and h3 bind, from what the functions leave. Assumes nothing.
use mathlib.Core.Path.{◌≡◌, refl, sym, ap, ap₂, ◌∙◌}
use mathlib.Core.List.{List, ◌++◌, append_assoc}
use Prim.Native.Nat.{ℕ, ◌-◌, ◌*◌, ◌^◌, ◌<◌}
use native.Mathlib.Omega.{arith}
use lib.ListN.{length, drop}
use borrow.Rule.Slice.PartMut.{put_mid}
use Rattle.slices.specs.Lists.{rows, row, put}
use Rattle.slices.specs.Tab.{rows_cong}
use Rattle.slices.specs.Layout.{total}
use Rattle.slices.proofs.Rows.{row_front}
use Rattle.shake.specs.Shake128.{shake128}
use Rattle.poly.specs.Index.{at}
use Rattle.columns.specs.Column.{column_of}
use Rattle.complete.specs.Rows.{put_row, completed_cong}
use Rattle.banquet.specs.declared.Shape.{Shape}
use Rattle.banquet.specs.Sets.{scheme_of}
use Rattle.banquet.specs.Hash.{commitment, tape}
use Rattle.banquet.specs.Tree.{node_seeds, shown_leaves}
use Rattle.banquet.specs.Signature.{frame_part, h1_part, h3_part}
use Rattle.party.specs.Party.{party_hash}
use Rattle.party.proofs.Laws.{length_hash}
use Rattle.sets.specs.Bounds.{row_sizes}
use Rattle.tree.specs.Rows.{row_shown}
use Rattle.forms.specs.Party.{share_row}
use Rattle.frame_hashes.specs.Given.{Given}
use Rattle.frame_hashes.specs.Frame.{
  seed_shown,
  whole_row,
  committed_shown,
  challenge_shown,
  frame_commitment,
  frame_row,
  shown_h1,
  shown_h3,
  outputs_are,
  shares_are,
  sums_are,
}

module _ {S : Shape} {public_key salt : List ℕ} {hidden : ℕ} {first : List ℕ} {second : ℕ} {frame : List ℕ}
    (g : Given S public_key salt hidden first second frame) (e : ℕ) where
  open S use {parties, depth}

  -- ---- under the seeds that are shown, which are the front of an array

  module _ {siblings leaves : List ℕ} (n : ℕ) (d : List ℕ) (siblings_are : siblings ≡ frame_part (scheme_of S) frame 0)
      (long : length siblings ≡ depth * 16) (leaves_are : leaves ≡ node_seeds (shown_leaves shake128 salt e depth 0 siblings hidden))
      (leaves_long : length leaves ≡ 16 * 2 ^ depth) where
    abbrev seeds : List ℕ
    seeds = put_mid 0 (n - 0) d leaves

    seed_is : (i : ℕ) → i < parties → row 16 i seeds ≡ seed_shown S salt e hidden frame i
    seed_is i l =
        row_front 16 i leaves (drop (n - 0) d) (omega (arith, leaves_long, g.valid.leaves)) ∙ ap (row 16 i) leaves_are
        ∙ row_shown salt e depth 0 siblings hidden long i (omega (arith, g.valid.leaves)) ∙ rw siblings_are refl

    pub commitments_shown : {given made out : List ℕ} → given ≡ frame_part (scheme_of S) frame 1 → length given ≡ 32
        → made ≡ rows (λ i. party_hash 0 salt e i (row 16 i seeds) 32) parties → out ≡ put made (hidden * 32) given
        → out ≡ rows (frame_commitment S public_key salt e hidden first second frame (seed_shown S salt e hidden frame)) parties
    unfolding commitment party_hash
    commitments_shown {given} is k m o =
        o ∙ ap (λ d. put d (hidden * 32) given) m
        ∙ put_row 32 (λ i. party_hash 0 salt e i (row 16 i seeds) 32) given parties hidden (λ i l. length_hash 0 salt e i (row 16 i seeds) 32) k
        g.hidden_below
        ∙ rows_cong parties (λ i l. ap₂ (λ (x y : List ℕ). at i hidden x (commitment (scheme_of S) salt e i y)) is (seed_is i l))

    pub rows_shown : {out : List ℕ} → out ≡ rows (frame_row S public_key salt e hidden first second frame (λ i. row 16 i seeds)) parties
        → out ≡ rows (frame_row S public_key salt e hidden first second frame (seed_shown S salt e hidden frame)) parties
    unfolding frame_row
    rows_shown o =
        o
        ∙ rows_cong parties (completed_cong parties hidden (whole_row S public_key frame)
        (λ i l. ap (λ y. share_row (scheme_of S) (committed_shown S public_key salt e hidden first second frame (seed_shown S salt e hidden frame))
        (challenge_shown S public_key salt e hidden first second frame (seed_shown S salt e hidden frame)) i (tape (scheme_of S) salt e i y)) (seed_is i l)))

  -- ---- what the hashes bind

  module _ (seed : ℕ → List ℕ) {commitments made : List ℕ}
      (c : commitments ≡ rows (frame_commitment S public_key salt e hidden first second frame seed) parties)
      (r : made ≡ rows (frame_row S public_key salt e hidden first second frame seed) parties) where
    pub first_bound : commitments ++ column_of parties (total (row_sizes S)) 0 16 made ++ frame_part (scheme_of S) frame 2 ++ frame_part (scheme_of S) frame 3
        ≡ shown_h1 S public_key salt e hidden first second frame seed
    unfolding shown_h1 h1_part
    first_bound =
        ap₂ (λ x y. x ++ y ++ frame_part (scheme_of S) frame 2 ++ frame_part (scheme_of S) frame 3) c
        (outputs_are S public_key salt e hidden first second frame seed g.valid g.public_sized g.frame_sized g.first_sized.bytes g.second_wide r)

    pub third_bound : (frame_part (scheme_of S) frame 5 ++ (frame_part (scheme_of S) frame 6 ++ frame_part (scheme_of S) frame 7))
        ++ column_of parties (total (row_sizes S)) 16 (total (row_sizes S) - 16) made ≡ shown_h3 S public_key salt e hidden first second frame seed
    unfolding shown_h3 h3_part
    third_bound =
        ap₂ ◌++◌
        (sym (append_assoc (frame_part (scheme_of S) frame 5) (frame_part (scheme_of S) frame 6) (frame_part (scheme_of S) frame 7))
        ∙ sums_are S public_key salt e hidden first second frame seed g.valid g.public_sized g.frame_sized g.first_sized.bytes g.second_wide)
        (shares_are S public_key salt e hidden first second frame seed g.valid g.public_sized g.frame_sized g.first_sized.bytes
        g.second_wide r (total (row_sizes S) - 16) (omega arith))
