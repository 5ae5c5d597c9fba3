-- The loop that reads lines: what is written after each turn. Assumes nothing.
use Rattle.std.specs.Prelude.{Option, IsSome}
use mathlib.Core.Path.{◌≡◌, refl, sym, ap, ◌∙◌}
use mathlib.Core.List.{List, [], ◌++◌, append-nil, append_assoc}
use Prim.Native.Nat.{ℕ, ◌+◌, ◌-◌, ◌*◌, ◌/◌, ◌≤◌, ◌<◌}
use native.Mathlib.Omega.{arith}
use lib.ListN.{length, take, drop, get_or, length-drop, drop_of_length-le}
use borrow.Rule.Slice.PartMut.{put_mid}
use Rattle.slices.specs.Layout.{total}
use Rattle.slices.specs.Lists.{found}
use Rattle.slices.specs.Found.{found_some}
use Rattle.slices.proofs.Put.{Wrote, front, wrote_none, cut_long, wrote_lent}
use Rattle.banquet.specs.Answer.{accepted, output_after}
use Rattle.banquet.specs.Card.{decoded, line_of, decoded_lines}
use Rattle.text_lines.specs.Lines.{line_end}
use Rattle.text_lines.specs.Parts.{sizes_left}
use Rattle.text_lines.proofs.Found.{line_cut, line_after, lent, rest_lent}
use Rattle.text_lines.proofs.Checked.{checked, accepted_line}

-- the first i lines end at index at and stand for p bytes, and l is d with these in front
pub record Reading (message : ℕ) (sizes text d : List ℕ) (i at p : ℕ) (l : List ℕ) : Type 0 where
  pub upto : i ≤ length sizes
  pub inside : at ≤ length text
  pub form : checked message sizes text i at ≡ accepted
  pub room : p + total (drop i sizes) ≤ length d
  pub bytes : List ℕ
  pub all : bytes ++ decoded_lines (length (drop i sizes)) (drop at text) ≡ decoded_lines (length sizes) text
  pub wrote : Wrote d bytes p l

pub reading_none : (message : ℕ) (sizes text d : List ℕ) → checked message sizes text 0 0 ≡ accepted → total sizes ≤ length d
    → Reading message sizes text d 0 0 0 d
reading_none message sizes text d h r = record {
  upto = omega arith;
  inside = omega arith;
  form = h;
  room = omega arith;
  bytes = [];
  all = refl;
  wrote = wrote_none d;
}

module _ {message : ℕ} {sizes text d : List ℕ} {i at p : ℕ} {l : List ℕ} (r : Reading message sizes text d i at p l) where
  pub reading_all : i ≡ length sizes → l ≡ output_after accepted (decoded_lines (length sizes) text) d
  unfolding front output_after decoded_lines
  reading_all h =
      let none : drop i sizes ≡ [] = drop_of_length-le sizes {i = i} (omega arith) in
      let whole : r.bytes ≡ decoded_lines (length sizes) text = sym (append-nil r.bytes) ∙ (rw none at r.all) in
      r.wrote.is ∙ ap (λ (b : List ℕ). front b d) whole

  -- a line that is left has its end
  pub reading_ended : i < length sizes → {o : Option ℕ} → o ≡ found (length (lent text at)) (line_end (lent text at)) → IsSome o
  reading_ended h e =
      let inside = (accepted_line message sizes text i at h r.inside refl r.form).0 in
      let some = found_some (length (drop at text)) (line_end (drop at text)) (omega (arith, inside, length-drop at text)) in
      rw (e, rest_lent, some)

  module _ {end : ℕ} (h : i < length sizes) (e : end ≡ at + line_end (drop at text)) where
    line : (end < length text) × (end - at ≡ 2 * ((end - at) / 2)) × ((end - at) / 2 ≤ get_or sizes i 0)
        × (checked message sizes text (i + 1) (end + 1) ≡ accepted)
    line = accepted_line message sizes text i at h r.inside e r.form

    left : total (drop i sizes) ≡ get_or sizes i 0 + total (drop (i + 1) sizes)
    left = ap total (sizes_left sizes i h)

    -- where the line lies, and its bytes
    pub reading_fits : (at ≤ end) × (end < length text) × (end - at ≡ 2 * ((end - at) / 2)) × (p + (end - at) / 2 ≤ length d)
    reading_fits = (omega arith, line.0, line.1, omega (arith, r.room, left, line.2))

    pub reading_lent : length (take (end - at) (drop at text)) ≡ 2 * length (take (p + (end - at) / 2 - p) (drop p l))
    reading_lent =
        let fits = reading_fits in
        cut_long at end text (omega (arith, fits)) (omega (arith, fits))
        ∙ ap (2 *◌) (sym (cut_long p (p + (end - at) / 2) l refl (omega (arith, fits, r.wrote.long))))

    -- the line is read
    abbrev this : List ℕ
    this = decoded (line_of (drop at text))

    all_next : (r.bytes ++ this) ++ decoded_lines (length (drop (i + 1) sizes)) (drop (end + 1) text) ≡ decoded_lines (length sizes) text
    unfolding decoded_lines
    all_next =
        append_assoc r.bytes this (decoded_lines (length (drop (i + 1) sizes)) (drop (end + 1) text))
        ∙ ap (λ (t : List ℕ). r.bytes ++ (this ++ decoded_lines (length (drop (i + 1) sizes)) t)) (sym (line_after text r.inside e line.0))
        ∙ (rw (sizes_left sizes i h) at r.all)

    pub reading_more : {y : List ℕ} → y ≡ decoded (take (end - at) (drop at text))
        → length y ≡ length (take (p + (end - at) / 2 - p) (drop p l))
        → Reading message sizes text d (i + 1) (end + 1) (p + (end - at) / 2) (put_mid p (p + (end - at) / 2 - p) l y)
    reading_more f kept = record {
      upto = omega arith;
      inside = omega (arith, line.0);
      form = line.3;
      room = omega (arith, r.room, left, line.2);
      bytes = r.bytes ++ this;
      all = all_next;
      wrote =
          wrote_lent this (p + (end - at) / 2) r.wrote (omega arith) reading_fits.3
          (f ∙ ap decoded (line_cut text r.inside e line.0)) kept;
    }
