-- The loop that writes lines: what is written after each turn. Assumes nothing.
use mathlib.Core.Path.{◌≡◌, refl, sym, ap, ◌∙◌}
use mathlib.Core.List.{List, [], ◌∷◌, ◌++◌, append-nil, append_assoc}
use Prim.Native.Nat.{ℕ, ◌+◌, ◌-◌, ◌*◌, ◌≤◌, ◌<◌}
use native.Mathlib.Omega.{arith}
use lib.ListN.{length, take, drop, get_or, set, drop_of_length-le}
use lib.Seq.{drop-drop}
use borrow.Rule.Slice.PartMut.{put_mid, same_len_mid}
use Rattle.slices.specs.Layout.{total}
use Rattle.slices.proofs.Put.{Wrote, front, wrote_none, cut_long, wrote_lent, wrote_one}
use Rattle.banquet.specs.Card.{encoded, encoded_lines}
use Rattle.text_lines.specs.Parts.{sizes_left}

-- the first p bytes of s are written in i lines, and l is d with these in front
pub record Writing (sizes s d : List ℕ) (i p : ℕ) (l : List ℕ) : Type 0 where
  pub upto : i ≤ length sizes
  pub left : p + total (drop i sizes) ≡ length s
  pub long : length d ≡ 2 * length s + length sizes
  pub text : List ℕ
  pub all : text ++ encoded_lines (drop i sizes) (drop p s) ≡ encoded_lines sizes s
  pub wrote : Wrote d text (2 * p + i) l

pub writing_none : (sizes s d : List ℕ) → length s ≡ total sizes → length d ≡ 2 * total sizes + length sizes → Writing sizes s d 0 0 d
writing_none sizes s d h k = record {
  upto = omega arith;
  left = omega arith;
  long = omega arith;
  text = [];
  all = refl;
  wrote = wrote_none d;
}

module _ {sizes s d : List ℕ} {i p : ℕ} {l : List ℕ} (w : Writing sizes s d i p l) where
  pub writing_all : i ≡ length sizes → l ≡ encoded_lines sizes s
  unfolding front encoded_lines
  writing_all h =
      let none : drop i sizes ≡ [] = drop_of_length-le sizes {i = i} (omega arith) in
      let whole : w.text ≡ encoded_lines sizes s = sym (append-nil w.text) ∙ (rw none at w.all) in
      let size : length d ≤ length w.text = omega (arith, ap total none, w.left, w.long, w.wrote.size) in
      w.wrote.is ∙ ap (w.text ++◌) (drop_of_length-le d size) ∙ append-nil w.text ∙ whole

  module _ (h : i < length sizes) where
    abbrev q : ℕ
    q = p + get_or sizes i 0

    left_total : total (drop i sizes) ≡ get_or sizes i 0 + total (drop (i + 1) sizes)
    left_total = ap total (sizes_left sizes i h)

    -- where the bytes lie, and the line
    pub writing_fits : (q ≤ length s) × (2 * q + i < length d)
    writing_fits = (omega (arith, w.left, left_total), omega (arith, w.left, w.long, left_total))

    pub writing_lent : length (take (2 * q + i - (2 * p + i)) (drop (2 * p + i) l)) ≡ 2 * length (take (q - p) (drop p s))
    writing_lent =
        let fits = writing_fits in
        cut_long (2 * p + i) (2 * q + i) l (omega arith) (omega (arith, fits, w.wrote.long))
        ∙ ap (2 *◌) (sym (cut_long p q s refl fits.0))

    pub writing_room : (y : List ℕ) → length y ≡ length (take (2 * q + i - (2 * p + i)) (drop (2 * p + i) l))
        → 2 * q + i < length (put_mid (2 * p + i) (2 * q + i - (2 * p + i)) l y)
    writing_room y kept =
        rw (same_len_mid (2 * p + i) (2 * q + i - (2 * p + i)) l y kept) (omega (arith, writing_fits.1, w.wrote.long))

    -- the line is written
    abbrev this : List ℕ
    this = encoded (take (get_or sizes i 0) (drop p s))

    all_next : ((w.text ++ this) ++ (0x0a ∷ [])) ++ encoded_lines (drop (i + 1) sizes) (drop q s) ≡ encoded_lines sizes s
    unfolding encoded_lines
    all_next =
        append_assoc (w.text ++ this) (0x0a ∷ []) (encoded_lines (drop (i + 1) sizes) (drop q s))
        ∙ append_assoc w.text this (0x0a ∷ encoded_lines (drop (i + 1) sizes) (drop q s))
        ∙ ap (λ (t : List ℕ). w.text ++ (this ++ (0x0a ∷ encoded_lines (drop (i + 1) sizes) t))) (sym (drop-drop (get_or sizes i 0) p s))
        ∙ (rw (sizes_left sizes i h) at w.all)

    pub writing_more : {y : List ℕ} → y ≡ encoded (take (q - p) (drop p s))
        → length y ≡ length (take (2 * q + i - (2 * p + i)) (drop (2 * p + i) l))
        → Writing sizes s d (i + 1) q (set (put_mid (2 * p + i) (2 * q + i - (2 * p + i)) l y) (2 * q + i) 0x0a)
    writing_more {y} f kept =
        let fits = writing_fits in
        let size : q - p ≡ get_or sizes i 0 = omega arith in
        let end : 2 * q + i + 1 ≡ 2 * q + (i + 1) = omega arith in
        let is : y ≡ this = f ∙ ap (λ (n : ℕ). encoded (take n (drop p s))) size in
        let line = wrote_lent this (2 * q + i) w.wrote (omega arith) (omega (arith, fits)) is kept in
        record {
          upto = omega arith;
          left = omega (arith, w.left, left_total);
          long = w.long;
          text = (w.text ++ this) ++ (0x0a ∷ []);
          all = all_next;
          wrote = rw (sym end) (wrote_one 0x0a line fits.1);
        }
