-- The frames of a signature, for a valid parameter set: how long they are, where they lie, and their fields. Assumes nothing.
use Rattle.std.specs.Prelude.{◌≡◌, Bool, true, false, List, ℕ, ◌+◌, ◌*◌, ◌<◌, ◌≤◌, eqb, ltb, length, get_or, drop}
use Rattle.std.proofs.Common.{ap, ◌∙◌, mul-le-mul, arith, length-drop, length-take-le}
use borrow.Author.Tests.{eq-eqb, lt-ltb}
use Rattle.slices.specs.Lists.{choose, row}
use Rattle.slices.specs.Tab.{row_fits}
use Rattle.slices.specs.Bytes.{Bytes, Sized, nil_bytes, drop_bytes, part_bytes}
use Rattle.slices.specs.Layout.{total, length_field}
use Rattle.banquet.specs.declared.Shape.{Shape}
use Rattle.banquet.specs.Shape.{head_length, frame_sizes, signature_length}
use Rattle.banquet.specs.Sets.{scheme_of}
use Rattle.banquet.specs.Signature.{frame_of, frame_part}
use Rattle.sets.specs.Valid.{Valid}
use Rattle.sets.specs.Bounds.{all_sboxes, columns_most, by_points}

-- ---- sizes

module _ {S : Shape} (v : Valid S) where
  open S use {depth, executions, wide, m1}

  -- "frames of 480", where the depth is 4, an element has 4 bytes and m1 is 10
  pub frame_total : total (frame_sizes S) ≡ 48 + 20 * m1 + 16 * depth + 22 * wide + 2 * (m1 * wide)
  frame_total = omega (arith, all_sboxes v, by_points v wide)

  pub frame_most : total (frame_sizes S) ≤ 612
  frame_most = omega (arith, frame_total, v.shallow, v.columns, v.wide_most, columns_most v)

  pub frames_most : executions * total (frame_sizes S) ≤ 25092
  frames_most = mul-le-mul v.brief frame_most

-- part k of a frame has its size
pub part_long : (S : Shape) {f : List ℕ} (frame : List ℕ) (k : ℕ) → length frame ≡ total (frame_sizes S) → f ≡ frame_part (scheme_of S) frame k
    → length f ≡ get_or (frame_sizes S) k 0
part_long S frame k h is = ap length is ∙ length_field (frame_sizes S) k frame h

-- ---- frame e of a signature s

chosen_bytes : (test : Bool) {a b : List ℕ} → Bytes a → Bytes b → Bytes (choose test a b)
chosen_bytes true p q = p
chosen_bytes false p q = q

module _ (S : Shape) (s : List ℕ) where
  open S use {executions}

  -- it lies in the signature
  pub frame_room : {e : ℕ} → length s ≡ signature_length S → e < executions
      → head_length + (e * total (frame_sizes S) + total (frame_sizes S)) ≤ length s
  frame_room {e} h l = omega (arith, row_fits (total (frame_sizes S)) l)

  -- "that part of the caller's own file"
  pub frame_is : {e : ℕ} → length s ≡ signature_length S → e < executions
      → frame_of (scheme_of S) s e ≡ row (total (frame_sizes S)) e (drop head_length s)
  unfolding frame_of
  frame_is {e} h l = rw (eq-eqb (length s) (signature_length S) h, lt-ltb e executions l)

  pub length_frame : {e : ℕ} → length s ≡ signature_length S → e < executions → length (frame_of (scheme_of S) s e) ≡ total (frame_sizes S)
  length_frame {e} h l =
      let n = total (frame_sizes S) in
      let rest = length-drop (e * n) (drop head_length s) in
      ap length (frame_is h l)
      ∙ length-take-le n (drop (e * n) (drop head_length s)) (omega (arith, frame_room h l, rest, length-drop head_length s))

  -- whatever e and the length of s: an empty part is bytes too
  pub frame_bytes : (e : ℕ) → Bytes s → Bytes (frame_of (scheme_of S) s e)
  unfolding frame_of
  frame_bytes e p =
      let n = total (frame_sizes S) in
      chosen_bytes (eqb (length s) (signature_length S))
      (chosen_bytes (ltb e executions) (part_bytes (e * n) n (drop head_length s) (drop_bytes head_length s p)) nil_bytes) nil_bytes

  pub sized_frame : {e : ℕ} → Sized (signature_length S) s → e < executions → Sized (total (frame_sizes S)) (frame_of (scheme_of S) s e)
  sized_frame {e} z l = record { size = length_frame z.size l; bytes = frame_bytes e z.bytes }
