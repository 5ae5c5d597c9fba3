-- Each step keeps a frame's length, the sum of the tapes lies in it, and what the hashes absorb is bytes. Assumes nothing.
use Rattle.std.specs.Prelude.{◌≡◌, refl, List, ℕ, ◌+◌, ◌-◌, ◌*◌, ◌<◌, ◌≤◌, take, drop}
use Rattle.std.proofs.Math.Path.{ap}
use Rattle.std.proofs.Common.{◌∙◌, arith, length-append, length-drop, length-take-le}
use Rattle.std.proofs.Math.ListN.{length}
use Rattle.slices.specs.Lists.{row, part, put, sum_xor}
use Rattle.slices.specs.Bytes.{Bytes, append_bytes, rows_bytes, part_bytes}
use Rattle.slices.specs.Numbers.{length_bytes_of, length_numbers}
use Rattle.slices.specs.Layout.{total}
use Rattle.slices.proofs.Put.{length_put, cut_long}
use Rattle.slices.proofs.Rows.{row_fits}
use Rattle.banquet.specs.declared.Shape.{Shape}
use Rattle.banquet.specs.Shape.{tape_sizes, frame_sizes}
use Rattle.banquet.specs.Sets.{scheme_of}
use Rattle.banquet.specs.Execution.{Committed, Challenge, challenge}
use Rattle.banquet.specs.Signer.{tape_of}
use Rattle.banquet.specs.Signature.{frame_part, opened_bytes}
use Rattle.sets.specs.Valid.{Valid}
use Rattle.sets.specs.Bounds.{all_sboxes, tape_total}
use Rattle.frames.specs.Frames.{frame_total}
use Rattle.forms.specs.Party.{committed, opened_bytes_lem}
use Rattle.forms.specs.Offsets.{worked_offset, worked_offsets}
use Rattle.signing.specs.Steps.{offsets_at, witness_length, opened_length, own_row, offset_frame, frame_shares, opened_frame, opened_part}
use Rattle.signing.specs.Sums.{opened_rows, opened_sums}
use Rattle.signing.specs.Own.{own_long}

module _ {S : Shape} (v : Valid S) where
  open S use {parties, depth, executions, wide, m1}

  -- ---- "c (4), a (40), b (40)"

  opened_long : (c : ℕ) (a b : ℕ → ℕ) → length (opened_bytes (scheme_of S) c a b) ≡ opened_length S
  opened_long c a b =
      simp length-append (omega (arith, length_bytes_of wide c, length_numbers wide m1 a, length_numbers wide m1 b))

  -- ---- the product offsets, and the part of h2

  worked_long : (us vs lasts row first : List ℕ) → length (worked_offsets S us vs lasts row first) ≡ 21 * wide
  unfolding worked_offsets
  worked_long us vs lasts row first = length_numbers wide 21 (worked_offset S us vs lasts row first)

  pub offset_part_bytes : (e : ℕ) {frames : List ℕ} → Bytes frames
      → Bytes (part (offsets_at S + witness_length S) (21 * wide) (row (total (frame_sizes S)) e frames))
  offset_part_bytes e {frames} b =
      part_bytes (offsets_at S + witness_length S) (21 * wide) (row (total (frame_sizes S)) e frames)
      (part_bytes (e * total (frame_sizes S)) (total (frame_sizes S)) frames b)

  module _ (front salt root : List ℕ) (e : ℕ) (first : List ℕ) (second : ℕ) (frame : List ℕ) where
    abbrev x : Committed
    x = committed front (frame_part (scheme_of S) frame 2) (frame_part (scheme_of S) frame 3)

    abbrev d : Challenge
    d = challenge (scheme_of S) first (frame_part (scheme_of S) frame 4) second

    -- ---- the sums, and the part of h3

    abbrev sums : List ℕ
    sums = drop 16 (sum_xor parties (frame_shares S front salt root e first second frame))

    pub sums_long : length sums ≡ opened_length S
    unfolding frame_shares
    sums_long = ap length (opened_sums S x d (tape_of (scheme_of S) salt root e) v.some) ∙ opened_long _ _ _

    pub opened_part_bytes : Bytes (opened_part S front salt root e first second frame)
    unfolding opened_part frame_shares
    opened_part_bytes =
        rw (opened_sums S x d (tape_of (scheme_of S) salt root e) v.some, opened_rows S x d (tape_of (scheme_of S) salt root e))
        (append_bytes (opened_bytes_lem S _ _ _) (rows_bytes _ parties (λ i l. opened_bytes_lem S _ _ _)))

    -- ---- lengths of frames

    pub opened_kept : length frame ≡ total (frame_sizes S) → length (opened_frame S front salt root e first second frame) ≡ total (frame_sizes S)
    unfolding opened_frame
    opened_kept long = length_put frame (offsets_at S + witness_length S + 21 * wide) sums (omega (arith, frame_total v, all_sboxes v, sums_long)) ∙ long

  module _ (frame : List ℕ) (long : length frame ≡ total (frame_sizes S)) where
    pub own_kept : (witness salt root : List ℕ) (e : ℕ) → length witness ≡ witness_length S
        → length (put frame (offsets_at S) (own_row S witness salt root e)) ≡ total (frame_sizes S)
    own_kept witness salt root e h =
        length_put frame (offsets_at S) (own_row S witness salt root e)
        (omega (arith, frame_total v, tape_total v, own_long v witness salt root e h)) ∙ long

    pub offset_kept : (us vs lasts first : List ℕ) → length (offset_frame S us vs lasts first frame) ≡ total (frame_sizes S)
    unfolding offset_frame
    offset_kept us vs lasts first =
        let o = part (offsets_at S) (total (tape_sizes S)) frame in
        length_put frame (offsets_at S + witness_length S) (worked_offsets S us vs lasts o first)
        (omega (arith, frame_total v, all_sboxes v, worked_long us vs lasts o first)) ∙ long

    -- ---- the sum of the tapes lies in the frame, from where the offsets begin

    module _ {at size : ℕ} (a : at ≡ offsets_at S) (z : size ≡ total (tape_sizes S)) where
      pub sum_room : at + size ≤ length frame
      sum_room = omega (arith, a, z, frame_total v, tape_total v)

      pub sum_long : length (take (at + size - at) (drop at frame)) ≡ total (tape_sizes S)
      sum_long = cut_long at (at + size) frame refl sum_room ∙ z

  -- ---- one of all frames

  module _ (frames : List ℕ) (size : length frames ≡ executions * total (frame_sizes S)) where
    pub frame_row_long : (e : ℕ) → e < executions → length (row (total (frame_sizes S)) e frames) ≡ total (frame_sizes S)
    frame_row_long e l =
        let n = total (frame_sizes S) in
        length-take-le n (drop (e * n) frames) (omega (arith, row_fits n l, length-drop (e * n) frames))
