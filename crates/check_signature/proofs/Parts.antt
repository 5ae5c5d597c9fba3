-- What h1 and h3 bind of an execution is bytes. Assumes nothing.
use mathlib.Core.List.{List, []}
use Prim.Native.Nat.{ℕ, ◌<◌}
use Rattle.slices.specs.Bytes.{Bytes, Sized, nil_bytes, append_bytes, rows_bytes, drop_bytes}
use Rattle.slices.specs.Sums.{zip_bytes, sum_bytes}
use Rattle.slices.specs.Layout.{total}
use Rattle.slices.proofs.Layouts.{sized_field}
use Rattle.poly.specs.Index.{at_cases}
use Rattle.banquet.specs.declared.Shape.{Shape}
use Rattle.banquet.specs.Shape.{frame_sizes}
use Rattle.banquet.specs.Sets.{scheme_of}
use Rattle.banquet.specs.Execution.{output_share}
use Rattle.banquet.specs.Signature.{
  signature_salt,
  signature_h3,
  frame_of,
  frame_part,
  h1_part,
  h3_part,
  completed_output,
  frame_committed,
  frame_seed,
  frame_tape,
  frame_h1_part,
  frame_h3_part,
}
use Rattle.theorems.specs.Keys.{sized_front}
use Rattle.theorems.specs.Shares.{Fits, sized_commitment, hashed_tape, sized_output_share}
use Rattle.sets.specs.Laws.{laws}
use Rattle.frames.specs.Frames.{sized_frame}
use Rattle.forms.specs.Party.{opened_bytes_lem}
use Rattle.check_signature.specs.Steps.{Files, first_part, third_part}

module _ {S : Shape} {public_key s : List ℕ} (f : Files S public_key s) {e : ℕ} (l : e < S.executions) where
  open S use {parties, wide, m1, front}

  abbrev salt : List ℕ
  salt = signature_salt s

  abbrev h3 : List ℕ
  h3 = signature_h3 s

  abbrev frame : List ℕ
  frame = frame_of (scheme_of S) s e

  frame_sized : Sized (total (frame_sizes S)) frame
  frame_sized = sized_frame S s f.file_sized l

  part_bytes : (k : ℕ) → Bytes (frame_part (scheme_of S) frame k)
  part_bytes k = (sized_field (frame_sizes S) k frame_sized).bytes

  fits : Fits (scheme_of S) (laws f.valid) (frame_committed (scheme_of S) public_key frame)
  fits = record {
    fits_front = sized_front (scheme_of S) (laws f.valid) f.public_sized;
    fits_key = sized_field (frame_sizes S) 2 frame_sized;
    fits_inverses = sized_field (frame_sizes S) 3 frame_sized;
  }

  share_bytes : (i : ℕ) → Bytes (output_share (scheme_of S) (frame_committed (scheme_of S) public_key frame) i
      (frame_tape (scheme_of S) salt h3 e frame i))
  share_bytes i =
      (sized_output_share (scheme_of S) (laws f.valid) _ fits i
      (hashed_tape (scheme_of S) (laws f.valid) salt e i (frame_seed (scheme_of S) salt h3 e frame i))).bytes

  pub first_bytes_lem : Bytes (first_part S s public_key e)
  unfolding frame_h1_part h1_part completed_output
  first_bytes_lem =
      append_bytes
      (append_bytes
      (append_bytes
      (rows_bytes _ parties (λ i m. at_cases Bytes i _ _ _ (λ q. part_bytes 1) (λ q. (sized_commitment (scheme_of S) (laws f.valid) salt e i _).bytes)))
      (rows_bytes _ parties (λ i m. at_cases Bytes i _ _ _
      (λ q. zip_bytes (drop_bytes front public_key f.public_sized.bytes)
      (sum_bytes parties (λ j k. at_cases Bytes j _ [] _ (λ q. nil_bytes) (λ q. share_bytes j))))
      (λ q. share_bytes i))))
      (part_bytes 2))
      (part_bytes 3)

  pub third_bytes : Bytes (third_part S s public_key e)
  unfolding frame_h3_part h3_part
  third_bytes = append_bytes (opened_bytes_lem S _ _ _) (rows_bytes _ parties (λ i m. opened_bytes_lem S _ _ _))
