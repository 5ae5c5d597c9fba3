-- What is written in lines is in form, and is read back. Assumes nothing.
use Rattle.std.specs.Prelude.{◌≡◌, refl, Bool, true, false, List, [], ◌∷◌, ◌++◌, ℕ, suc, ◌+◌, ◌*◌, ◌/◌, ◌%◌, ◌<◌, ◌≤◌, eqb, leb, length, take, drop}
use Rattle.std.proofs.Common.{ap, ap₂, ◌∙◌, arith, length-append, length-drop, take-append-drop, length-take-le, lt-ltb, le-leb, eq-eqb}
use Rattle.std.proofs.Math.Seq.{drop-append-add, take-append_seam, drop-append_seam}
use Rattle.slices.specs.Lists.{choose}
use Rattle.slices.specs.Layout.{total}
use Rattle.slices.specs.Tests.{and_join}
use Rattle.slices.specs.Bytes.{Bytes, tail_bytes, take_bytes, drop_bytes}
use Rattle.banquet.specs.declared.Refusal.TheVariants.{TextForm}
use Rattle.banquet.specs.Answer.{Answer, require}
use Rattle.banquet.specs.Card.{all_digits, decoded, digit_of, encoded, line_of, after_line, decoded_lines, encoded_lines, has_size, is_line, check_lines}
use Rattle.hex_digits.specs.Hex.{digit_no_end, length_encoded, encoded_digits, decoded_encoded}

-- ---- a line

pub line_written : (s t : List ℕ) → Bytes s → line_of (encoded s ++ (0x0a ∷ t)) ≡ encoded s
unfolding encoded line_of
line_written [] t h = refl
line_written (b ∷ s) t h =
    let l : b < 256 = h.lt 0 in
    let high = digit_of (b / 16) in
    let low = digit_of (b % 16) in
    let left = encoded s ++ (0x0a ∷ t) in
    ap (λ (x : Bool). choose x [] (high ∷ line_of (low ∷ left))) (digit_no_end (b / 16) (omega arith))
    ∙ ap (high ∷◌)
    (ap (λ (x : Bool). choose x [] (low ∷ line_of left)) (digit_no_end (b % 16) (omega arith)) ∙ ap (low ∷◌) (line_written s t (tail_bytes h)))

pub after_written : (s t : List ℕ) → Bytes s → after_line (encoded s ++ (0x0a ∷ t)) ≡ t
after_written s t h =
    let e : suc (length (encoded s)) ≡ length (encoded s) + 1 = omega arith in
    rw (line_written s t h, e) (drop-append-add (encoded s) (0x0a ∷ t) 1)

pub line_read : (s t : List ℕ) → Bytes s → decoded (line_of (encoded s ++ (0x0a ∷ t))) ≡ s
line_read s t h = ap decoded (line_written s t h) ∙ decoded_encoded s h

chosen : (x : Bool) (k size : ℕ) → k ≤ size → (x ≡ false → k ≡ size) → choose x (leb k size) (eqb k size) ≡ true
chosen true k size h e = le-leb k size h
chosen false k size h e = eq-eqb k size (e refl)

pub line_is : (shorter : Bool) (size : ℕ) (s t : List ℕ) → Bytes s → length s ≤ size → (shorter ≡ false → length s ≡ size)
    → is_line shorter size (encoded s ++ (0x0a ∷ t)) ≡ true
unfolding is_line has_size
line_is shorter size s t h most exact =
    let text = encoded s ++ (0x0a ∷ t) in
    let long : length (line_of text) ≡ 2 * length s = ap length (line_written s t h) ∙ length_encoded s in
    let half : length (line_of text) / 2 ≡ length s = omega arith in
    let ended : length (line_of text) < length text = omega (arith, long, length-append (encoded s) (0x0a ∷ t), length_encoded s) in
    and_join _ _ (lt-ltb (length (line_of text)) (length text) ended)
    (and_join _ _ (ap all_digits (line_written s t h) ∙ encoded_digits s h)
    (and_join _ _ (eq-eqb (length (line_of text) % 2) 0 (omega arith))
    (chosen shorter (length (line_of text) / 2) size (omega arith) (λ e. half ∙ exact e))))

-- ---- lines

pub check_line : (message size : ℕ) (sizes : List ℕ) (n : ℕ) (s t : List ℕ) (rest : Answer) → Bytes s → length s ≤ size
    → (eqb n message ≡ false → length s ≡ size)
    → check_lines message (size ∷ sizes) n (encoded s ++ (0x0a ∷ t)) rest ≡ check_lines message sizes (suc n) t rest
unfolding check_lines require
check_line message size sizes n s t rest h most exact =
    ap₂ (λ (x : Bool) (u : List ℕ). require x (TextForm n) (check_lines message sizes (suc n) u rest))
    (line_is (eqb n message) size s t h most exact) (after_written s t h)

module _ (size : ℕ) (sizes s : List ℕ) (l : length s ≡ size + total sizes) where
  first_long : length (take size s) ≡ size
  first_long = length-take-le size s (omega arith)

  others_long : length (drop size s) ≡ total sizes
  others_long = omega (arith, l, length-drop size s)

pub lines_check : (sizes : List ℕ) (message n : ℕ) (s : List ℕ) (rest : Answer) → Bytes s → length s ≡ total sizes
    → check_lines message sizes n (encoded_lines sizes s) rest ≡ rest
unfolding encoded_lines check_lines require
lines_check [] message n s rest h l = refl
lines_check (size ∷ sizes) message n s rest h l =
    let k = first_long size sizes s l in
    check_line message size sizes n (take size s) (encoded_lines sizes (drop size s)) rest (take_bytes size s h) (omega arith) (λ _. k)
    ∙ lines_check sizes message (suc n) (drop size s) rest (drop_bytes size s h) (others_long size sizes s l)

pub lines_read : (sizes s : List ℕ) → Bytes s → length s ≡ total sizes → decoded_lines (length sizes) (encoded_lines sizes s) ≡ s
unfolding encoded_lines decoded_lines
lines_read [] [] h l = refl
lines_read [] (b ∷ s) h l = absurd (omega arith)
lines_read (size ∷ sizes) s h l =
    let first = take size s in
    let others = encoded_lines sizes (drop size s) in
    let hf = take_bytes size s h in
    ap₂ ◌++◌ (line_read first others hf)
    (ap (decoded_lines (length sizes)) (after_written first others hf)
    ∙ lines_read sizes (drop size s) (drop_bytes size s h) (others_long size sizes s l))
    ∙ take-append-drop size s

-- a part that is a line of its own
pub lines_split : (x y sizes : List ℕ) → encoded_lines (length x ∷ sizes) (x ++ y) ≡ encoded x ++ (0x0a ∷ encoded_lines sizes y)
unfolding encoded_lines
lines_split x y sizes = rw (take-append_seam x y, drop-append_seam x y)
