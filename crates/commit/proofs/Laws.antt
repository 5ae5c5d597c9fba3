-- The parties' hashes; a frame whose offsets are written, and what is read of it. Assumes nothing.
use mathlib.Core.Path.{◌≡◌, refl, sym, ap, ap₂, ◌∙◌}
use mathlib.Core.List.{List, ◌++◌}
use Prim.Native.Nat.{ℕ, ◌+◌, ◌-◌, ◌*◌, ◌^◌, ◌<◌, ◌≤◌}
use native.Mathlib.Omega.{arith}
use lib.ListN.{length, take, drop, replicate}
use borrow.Rule.Slice.PartMut.{put_mid}
use Rattle.slices.specs.Lists.{rows, row, part, put, zip_xor, sum_xor}
use Rattle.slices.specs.Tab.{rows_cong, row_of_rows}
use Rattle.slices.specs.Sums.{sum_xor_cong}
use Rattle.slices.specs.Layout.{total}
use Rattle.shake.specs.Shake128.{shake128}
use Rattle.stream.specs.declared.Sponge.{Sponge}
use Rattle.stream.specs.Stream.{absorbed}
use Rattle.absorb_rows.proofs.Laws.{more}
use Rattle.banquet.specs.declared.Shape.{Shape}
use Rattle.banquet.specs.Shape.{sboxes, tape_sizes, frame_sizes}
use Rattle.banquet.specs.Sets.{scheme_of}
use Rattle.banquet.specs.Hash.{commitment, tape}
use Rattle.banquet.specs.Tree.{node_seeds, leaves}
use Rattle.banquet.specs.Execution.{output_share}
use Rattle.banquet.specs.Signer.{seed_of, tape_of}
use Rattle.theorems.specs.Shares.{hashed_tape}
use Rattle.party.specs.Party.{party_hash}
use Rattle.sets.specs.Valid.{Valid}
use Rattle.sets.specs.Bounds.{all_sboxes, tape_total}
use Rattle.sets.specs.Laws.{laws}
use Rattle.leaf_seeds.specs.Seeds.{seeds_row}
use Rattle.forms.specs.Party.{committed}
use Rattle.signing.specs.Steps.{offsets_at, witness_length, own_row, own_part}
use Rattle.signing.specs.Own.{own_long}
use Rattle.signing.specs.Kept.{sum_room, sum_long}
use Rattle.commit.proofs.Lists.{front_added, front_is, part_front}

-- ---- the parties' hashes

module _ {S : Shape} (v : Valid S) (salt root : List ℕ) (e : ℕ) {seeds : List ℕ} (h : length root ≡ 16)
    (w : seeds ≡ node_seeds (leaves shake128 salt e S.depth 0 root) ++ replicate (2048 - 16 * 2 ^ S.depth) 0) where
  open S use {parties, wide}

  pub commitments_drawn : {out : List ℕ} → out ≡ rows (λ i. party_hash 0 salt e i (row 16 i seeds) 32) parties
      → out ≡ rows (λ i. commitment (scheme_of S) salt e i (seed_of (scheme_of S) salt root e i)) parties
  unfolding party_hash commitment
  commitments_drawn o = o ∙ rows_cong parties (λ i l. ap (commitment (scheme_of S) salt e i) (seeds_row v salt root e h w i l))

  pub tapes_drawn : {out : List ℕ} {size : ℕ} → size ≡ total (tape_sizes S)
      → out ≡ rows (λ i. party_hash 4 salt e i (row 16 i seeds) size) parties → out ≡ rows (tape_of (scheme_of S) salt root e) parties
  unfolding party_hash tape
  tapes_drawn z o = o ∙ rows_cong parties (λ i l. ap₂ (λ s n. party_hash 4 salt e i s n) (seeds_row v salt root e h w i l) z)

-- ---- the offsets of key and inverses in the frame

module _ {S : Shape} (v : Valid S) (frame : List ℕ) (h : length frame ≡ total (frame_sizes S)) {o size : ℕ} (a : o ≡ offsets_at S)
    (z : size ≡ total (tape_sizes S)) where
  open S use {parties, wide}

  abbrev lent : List ℕ
  lent = take (o + size - o) (drop o frame)

  -- the sum of the tapes was lent as `&mut frame[o..o + size]`, and its front, with the witness added, came back as x
  module _ (tapes witness : List ℕ) {y x : List ℕ} (l : length witness ≡ witness_length S) (kept : length y ≡ length lent)
      (is : y ≡ sum_xor parties (λ i. row (length lent) i tapes))
      (added : x ≡ zip_xor (take (o + length witness - o) (drop o (put_mid o (o + size - o) frame y))) witness) where
    sum_is : zip_xor y witness ≡ zip_xor (sum_xor parties (λ i. row (total (tape_sizes S)) i tapes)) witness
    sum_is = ap (λ s. zip_xor s witness) (is ∙ ap (λ n. sum_xor parties (λ i. row n i tapes)) (sum_long v frame h a z))

    whole : length y ≡ size
    whole = kept ∙ sum_long v frame h a z ∙ sym z

    fits : length witness ≤ size
    fits = omega (arith, l, z, tape_total v, all_sboxes v)

    pub offsets_made : put_mid o (o + length witness - o) (put_mid o (o + size - o) frame y) x
        ≡ put frame (offsets_at S) (zip_xor (sum_xor parties (λ i. row (total (tape_sizes S)) i tapes)) witness)
    offsets_made =
        front_added o (length witness) size frame y witness whole refl fits (sum_room v frame h a z) added ∙ ap₂ (put frame) a sum_is

    pub offsets_are : x ≡ take (witness_length S) (zip_xor (sum_xor parties (λ i. row (total (tape_sizes S)) i tapes)) witness)
    offsets_are =
        front_is o (length witness) size frame y witness whole refl fits (sum_room v frame h a z) added ∙ ap₂ take l sum_is

-- ---- an execution's part, the tapes being in rows

module _ {S : Shape} (v : Valid S) (witness salt root : List ℕ) (e : ℕ) {tapes : List ℕ} (l : length witness ≡ witness_length S)
    (t : tapes ≡ rows (tape_of (scheme_of S) salt root e) S.parties) where
  open S use {parties, wide}

  tape_row : (i : ℕ) → i < parties → row (total (tape_sizes S)) i tapes ≡ tape_of (scheme_of S) salt root e i
  tape_row i l =
      ap (row (total (tape_sizes S)) i) t
      ∙ row_of_rows (total (tape_sizes S)) (tape_of (scheme_of S) salt root e) parties
      (λ j l. (hashed_tape (scheme_of S) (laws v) salt e j (seed_of (scheme_of S) salt root e j)).size) i l

  abbrev own : List ℕ
  own = own_row S witness salt root e

  pub own_made : zip_xor (sum_xor parties (λ i. row (total (tape_sizes S)) i tapes)) witness ≡ own_row S witness salt root e
  unfolding own_row
  own_made = ap (λ s. zip_xor s witness) (sum_xor_cong parties tape_row)

  -- the output shares, worked out with the offsets x
  abbrev shares : List ℕ → List ℕ → List ℕ
  shares front x =
      rows (λ i. output_share (scheme_of S) (committed front (take 16 x) (part 16 (sboxes S) x)) i (row (total (tape_sizes S)) i tapes)) parties

  own_room : witness_length S ≤ length own
  own_room = omega (arith, own_long v witness salt root e l, tape_total v, all_sboxes v)

  shares_are : (front : List ℕ) → shares front (take (witness_length S) own)
      ≡ rows (λ i. output_share (scheme_of S) (committed front (take 16 own) (part 16 (sboxes S) own)) i (tape_of (scheme_of S) salt root e i)) parties
  shares_are front =
      rows_cong parties
      (λ i l. ap₂ (λ x t. output_share (scheme_of S) x i t)
      (ap₂ (committed front) (part_front 0 16 (witness_length S) own (omega arith) own_room)
      (part_front 16 (sboxes S) (witness_length S) own (omega arith) own_room)) (tape_row i l))

  -- the commitments were absorbed, and then the output shares and the offsets
  pub part_made : (front : List ℕ) (s : Sponge) {a r : Sponge} {z : List ℕ} → z ≡ take (witness_length S) (own_row S witness salt root e)
      → a ≡ absorbed s (rows (λ i. commitment (scheme_of S) salt e i (seed_of (scheme_of S) salt root e i)) parties)
      → r ≡ absorbed (absorbed a (shares front z)) z
      → r ≡ absorbed s (own_part S front witness salt root e)
  unfolding own_part
  part_made front s {a} {r} o p q =
      let b = rows (λ i. output_share (scheme_of S) (committed front (take 16 own) (part 16 (sboxes S) own)) i (tape_of (scheme_of S) salt root e i)) parties in
      let c = rows (λ i. commitment (scheme_of S) salt e i (seed_of (scheme_of S) salt root e i)) parties in
      more s (c ++ b) (take (witness_length S) own) (more s {t = a} {u = absorbed a b} c b p refl)
      (q ∙ ap (λ x. absorbed (absorbed a (shares front x)) x) o
      ∙ ap (λ x. absorbed (absorbed a x) (take (witness_length S) own)) (shares_are front))

-- two pieces, of which the first is x
pub two_pieces : (s : Sponge) (y : List ℕ) {a r : Sponge} {w x : List ℕ} → w ≡ x → a ≡ absorbed s w → r ≡ absorbed a y
    → r ≡ absorbed (absorbed s x) y
two_pieces s y e f g = g ∙ ap (λ a. absorbed a y) (f ∙ ap (absorbed s) e)

-- ---- one turn: the frame and the root are rows

module _ (S : Shape) (witness salt : List ℕ) (e : ℕ) {root root' : List ℕ} (r : root ≡ root') where
  pub frame_turned : {out frame frame' : List ℕ} → out ≡ put frame (offsets_at S) (own_row S witness salt root e) → frame ≡ frame'
      → out ≡ put frame' (offsets_at S) (own_row S witness salt root' e)
  frame_turned o f = o ∙ ap₂ (λ x y. put x (offsets_at S) (own_row S witness salt y e)) f r

  pub part_turned : (front : List ℕ) (t : Sponge) {u : Sponge} → u ≡ absorbed t (own_part S front witness salt root e)
      → u ≡ absorbed t (own_part S front witness salt root' e)
  part_turned front t p = p ∙ ap (λ y. absorbed t (own_part S front witness salt y e)) r
