-- A text longer than its form allows is answered as it is without its end: a reader need not take in more than one byte beyond the longest text in
-- form. Assumes nothing.
use Rattle.std.specs.Prelude.{◌≡◌, refl, ◌⊎◌, Bool, true, false, ◌&&◌, ℕ, zero, suc, ◌+◌, ◌-◌, ◌*◌, ◌<◌, ◌≤◌, eqb, length, take, drop}
use Rattle.std.proofs.Common.{sym, ap, ◌∙◌, inl, inr, suc-add, zero-add, arith, length-take, take_all, length-take-le, lt-ltb, le-ltb, ne_eqb}
use Rattle.std.proofs.Math.Path.{ap₂}
use mathlib.Core.List.{List, [], ◌∷◌}
use Rattle.std.proofs.Math.Decide.{dec_lt}
use Rattle.std.proofs.Math.Dec.{ltb}
use Rattle.std.proofs.Math.Seq.{take-nil}
use Rattle.slices.specs.Lists.{choose}
use Rattle.slices.specs.Layout.{total}
use Rattle.banquet.specs.declared.Refusal.TheVariants.{TextForm}
use Rattle.banquet.specs.Answer.{Answer, accepted, require}
use Rattle.banquet.specs.Card.{all_digits, line_of, after_line, has_size, is_line, check_lines}
use Rattle.text_lines.specs.Form.{Broken, form_or_broken, line, form_length, form_most}

drop_cut : (m k : ℕ) (l : List ℕ) → drop m (take (m + k) l) ≡ take k (drop m l)
drop_cut zero k l = ap (λ (n : ℕ). take n l) (zero-add k)
drop_cut (suc m) k [] = ap (λ (n : ℕ). drop (suc m) (take n [])) (suc-add m k) ∙ sym (take-nil k)
drop_cut (suc m) k (x ∷ l) = ap (λ (n : ℕ). drop (suc m) (take n (x ∷ l))) (suc-add m k) ∙ drop_cut m k l

line_cut : (k : ℕ) (text : List ℕ) → line_of (take k text) ≡ take k (line_of text)
unfolding line_of
line_cut zero text = refl
line_cut (suc k) [] = refl
line_cut (suc k) (b ∷ text) = go (eqb b 0x0a) (line_cut k text)
  where
    go : (x : Bool) → line_of (take k text) ≡ take k (line_of text)
        → choose x [] (b ∷ line_of (take k text)) ≡ take (suc k) (choose x [] (b ∷ line_of text))
    go true e = refl
    go false e = ap (b ∷◌) e

line_le : (text : List ℕ) → length (line_of text) ≤ length text
unfolding line_of
line_le [] = omega arith
line_le (b ∷ text) = go (eqb b 0x0a) (line_le text)
  where
    go : (x : Bool) → length (line_of text) ≤ length text → length (choose x [] (b ∷ line_of text)) ≤ suc (length text)
    go true h = omega arith
    go false h = omega arith

-- ---- the first line, and its end, stand in what is left

module _ (k : ℕ) (text : List ℕ) (h : length (line_of text) < k) where
  line_kept : line_of (take k text) ≡ line_of text
  line_kept = line_cut k text ∙ take_all k (line_of text) (omega arith)

  ended_kept : ltb (length (line_of text)) (length (take k text)) ≡ ltb (length (line_of text)) (length text)
  ended_kept = go (dec_lt (length (line_of text)) (length text))
    where
      go : Dec (length (line_of text) < length text)
          → ltb (length (line_of text)) (length (take k text)) ≡ ltb (length (line_of text)) (length text)
      go (yes l) =
          lt-ltb (length (line_of text)) (length (take k text)) (omega (arith, length-take k text))
          ∙ sym (lt-ltb (length (line_of text)) (length text) l)
      go (no l) =
          le-ltb (length (line_of text)) (length (take k text)) (omega (arith, length-take k text))
          ∙ sym (le-ltb (length (line_of text)) (length text) (omega arith))

  is_line_kept : (shorter : Bool) (size : ℕ) → is_line shorter size (take k text) ≡ is_line shorter size text
  unfolding is_line
  is_line_kept shorter size =
      ap₂ (λ (l : List ℕ) (x : Bool). x && (all_digits l && has_size shorter size (length l))) line_kept
      (ap (λ (l : List ℕ). ltb (length l) (length (take k text))) line_kept ∙ ended_kept)

  after_kept : after_line (take k text) ≡ take (k - suc (length (line_of text))) (after_line text)
  after_kept =
      let m = suc (length (line_of text)) in
      let e : m + (k - m) ≡ k = omega arith in
      ap (λ (l : List ℕ). drop (suc (length l)) (take k text)) line_kept ∙ ap (λ (n : ℕ). drop m (take n text)) (sym e) ∙ drop_cut m (k - m) text

-- ---- it goes on beyond it

line_not_ended : (shorter : Bool) (size k : ℕ) (text : List ℕ) → k ≤ length (line_of text) → is_line shorter size (take k text) ≡ false
unfolding is_line
line_not_ended shorter size k text h =
    let long : length (line_of (take k text)) ≡ k = ap length (line_cut k text) ∙ length-take-le k (line_of text) h in
    ap (λ (x : Bool). x && (all_digits (line_of (take k text)) && has_size shorter size (length (line_of (take k text)))))
    (le-ltb (length (line_of (take k text))) (length (take k text)) (omega (arith, long, length-take k text)))

-- ---- all lines

bad_kept : (shorter : Bool) (size k : ℕ) (text : List ℕ) → is_line shorter size text ≡ false → is_line shorter size (take k text) ≡ false
bad_kept shorter size k text e = go (dec_lt (length (line_of text)) k)
  where
    go : Dec (length (line_of text) < k) → is_line shorter size (take k text) ≡ false
    go (yes l) = is_line_kept k text l shorter size ∙ e
    go (no l) = line_not_ended shorter size k text (omega arith)

cut : (sizes : List ℕ) (message n k : ℕ) (text : List ℕ) (rest : Answer) → 2 * total sizes + length sizes < k
    → check_lines message sizes n (take k text) rest ≡ check_lines message sizes n text rest
unfolding check_lines require
cut [] message n zero text rest h = absurd (omega arith)
cut [] message n (suc k) [] rest h = refl
cut [] message n (suc k) (b ∷ text) rest h =
    ap (λ (x : Bool). require x (TextForm n) rest)
    (ne_eqb (suc (length (take k text))) 0 (λ e. omega arith) ∙ sym (ne_eqb (suc (length text)) 0 (λ e. omega arith)))
cut (size ∷ sizes) message n k text rest h =
    go (is_line (eqb n message) size text) refl (cut sizes message (suc n) (k - suc (length (line_of text))) (after_line text) rest)
  where
    go : (x : Bool) → is_line (eqb n message) size text ≡ x
        → (2 * total sizes + length sizes < k - suc (length (line_of text))
        → check_lines message sizes (suc n) (take (k - suc (length (line_of text))) (after_line text)) rest
        ≡ check_lines message sizes (suc n) (after_line text) rest)
        → require (is_line (eqb n message) size (take k text)) (TextForm n) (check_lines message sizes (suc n) (after_line (take k text)) rest)
        ≡ require (is_line (eqb n message) size text) (TextForm n) (check_lines message sizes (suc n) (after_line text) rest)
    go true e others =
        let l = line (eqb n message) size text e in
        let inside : length (line_of text) < k = omega (arith, l.long, l.most) in
        ap₂ (λ (x : Bool) (u : List ℕ). require x (TextForm n) (check_lines message sizes (suc n) u rest))
        (is_line_kept k text inside (eqb n message) size) (after_kept k text inside)
        ∙ ap (require (is_line (eqb n message) size text) (TextForm n))
        (others (omega (arith, l.long, l.most)))
    go false e others = simp (bad_kept (eqb n message) size k text e, e)

-- the answer to a text, where what is asked next may look at all of it
pub cut_answer : (sizes : List ℕ) (message k : ℕ) (text : List ℕ) (next : List ℕ → Answer) → 2 * total sizes + length sizes < k
    → check_lines message sizes 1 (take k text) (next (take k text)) ≡ check_lines message sizes 1 text (next text)
cut_answer sizes message k text next h = go (dec_lt (length text) k) (form_or_broken sizes message 1 text)
  where
    go : Dec (length text < k) → (check_lines message sizes 1 text accepted ≡ accepted) ⊎ Broken (check_lines message sizes 1 text)
        → check_lines message sizes 1 (take k text) (next (take k text)) ≡ check_lines message sizes 1 text (next text)
    go (yes l) f = ap (λ (t : List ℕ). check_lines message sizes 1 t (next t)) (take_all k text (omega arith))
    go (no l) (inl e) = absurd (omega (arith, form_length sizes message 1 text e, form_most sizes message 1 text e))
    go (no l) (inr b) = cut sizes message 1 k text (next (take k text)) h ∙ b.answer (next (take k text)) ∙ sym (b.answer (next text))
