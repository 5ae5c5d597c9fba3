-- Texts in form, and texts that break it. Assumes nothing.
use Rattle.std.specs.Prelude.{◌≡◌, refl, Err, ◌⊎◌, Bool, true, false, ◌&&◌, List, [], ◌∷◌, ℕ, suc, ◌+◌, ◌*◌, ◌/◌, ◌%◌, ◌<◌, ◌≤◌, eqb, leb, length}
use Rattle.std.proofs.Common.{sym, ap, ◌∙◌, inl, inr, arith, length-append, length-drop, ltb-true, leb-true, eqb-true, ne_eqb}
use Rattle.slices.specs.Lists.{choose}
use Rattle.slices.specs.Layout.{total}
use Rattle.slices.specs.Tests.{and_split}
use Rattle.banquet.specs.declared.Refusal.{Refusal}
use Rattle.banquet.specs.declared.Refusal.TheVariants.{TextForm}
use Rattle.banquet.specs.Answer.{Answer, accepted, verdict_of, require, work_after, output_after}
use Rattle.banquet.proofs.Refusals.{refused, require_split, require_join}
use Rattle.banquet.specs.Card.{all_digits, decoded, line_of, after_line, is_ended, decoded_lines, has_size, is_line, check_lines}

-- ---- a text that breaks its form

-- what a check that refused says of its text, whatever it would have gone on with; nothing that a call was lent is touched then
pub record Broken (check : Answer → Answer) : Type 0 where
  pub refused : eqb (verdict_of (check accepted)).number 0 ≡ false
  pub answer : (rest : Answer) → check rest ≡ check accepted
  pub output : (file output : List ℕ) → output_after (check accepted) file output ≡ output
  pub work : (work : List ℕ) → work_after (check accepted) work ≡ work

form_at : (t : Bool) (n : ℕ) (next : Answer → Answer) → (next accepted ≡ accepted) ⊎ Broken next
    → (require t (TextForm n) (next accepted) ≡ accepted) ⊎ Broken (λ rest. require t (TextForm n) (next rest))
unfolding require output_after work_after
form_at true n next h = h
form_at false n next h = inr (record { refused = refl; answer = λ rest. refl; output = λ file output. refl; work = λ work. refl })

pub form_or_broken : (sizes : List ℕ) (message n : ℕ) (text : List ℕ)
    → (check_lines message sizes n text accepted ≡ accepted) ⊎ Broken (check_lines message sizes n text)
unfolding check_lines
form_or_broken [] message n text = form_at (eqb (length text) 0) n (λ rest. rest) (inl refl)
form_or_broken (size ∷ sizes) message n text =
    form_at (is_line (eqb n message) size text) n (check_lines message sizes (suc n) (after_line text))
    (form_or_broken sizes message (suc n) (after_line text))

-- the same where a refusal is returned
pub broken : (sizes : List ℕ) (message n : ℕ) (text : List ℕ) {refusal : Refusal} → check_lines message sizes n text accepted ≡ Err refusal
    → Broken (check_lines message sizes n text)
broken sizes message n text {refusal} h = go (form_or_broken sizes message n text)
  where
    go : (check_lines message sizes n text accepted ≡ accepted) ⊎ Broken (check_lines message sizes n text) → Broken (check_lines message sizes n text)
    go (inl e) = absurd (refused refusal (sym h ∙ e))
    go (inr b) = b

-- ---- a line in form

pub length_decoded : (s : List ℕ) → length (decoded s) ≡ length s / 2
unfolding decoded
length_decoded [] = refl
length_decoded (a ∷ []) = refl
length_decoded (a ∷ b ∷ s) = let e = length_decoded s in omega arith

chosen : (t : Bool) (k size : ℕ) → choose t (leb k size) (eqb k size) ≡ true → (k ≤ size) × (t ≡ false → k ≡ size)
chosen true k size h = (leb-true k size h, λ e. absurd (true_false e))
  where
    true_false : true ≡ false → ⊥
    true_false e = let z : ◌≡◌ {A = ℕ} 1 0 = ap (λ (b : Bool). choose b 1 0) e in omega arith
chosen false k size h = let e = eqb-true k size h in (omega arith, λ _. e)

-- the text begins with a line that stands for `size` bytes, or for at most so many where it may be shorter
pub record Line (shorter : Bool) (size : ℕ) (text : List ℕ) : Type 0 where
  pub digits : all_digits (line_of text) ≡ true
  pub long : length (line_of text) ≡ 2 * length (decoded (line_of text))
  pub ended : length (line_of text) < length text
  pub most : length (decoded (line_of text)) ≤ size
  pub exact : shorter ≡ false → length (decoded (line_of text)) ≡ size

pub line : (shorter : Bool) (size : ℕ) (text : List ℕ) → is_line shorter size text ≡ true → Line shorter size text
unfolding is_line has_size
line shorter size text h =
    let digits = length (line_of text) in
    let p = and_split (is_ended text) (all_digits (line_of text) && has_size shorter size digits) h in
    let q = and_split (all_digits (line_of text)) (has_size shorter size digits) p.1 in
    let r = and_split (eqb (digits % 2) 0) (choose shorter (leb (digits / 2) size) (eqb (digits / 2) size)) q.1 in
    let even = eqb-true (digits % 2) 0 r.0 in
    let sized = chosen shorter (digits / 2) size r.1 in
    let half = length_decoded (line_of text) in
    record {
      digits = q.0;
      long = omega arith;
      ended = ltb-true digits (length text) p.0;
      most = omega (arith, sized.0);
      exact = λ e. half ∙ sized.1 e;
    }

-- a line of so many digits can't stand for `size` bytes or fewer: it has more than two for each, or an odd count
abbrev pub Misfits : ℕ → ℕ → Type 0
Misfits size digits = (2 * size < digits) ⊎ (digits % 2 ≡ 1)

-- such a line is not in form, whether it may be shorter or not
pub no_line : (shorter : Bool) (size : ℕ) (text : List ℕ) → Misfits size (length (line_of text)) → is_line shorter size text ≡ false
no_line shorter size text h = otherwise (is_line shorter size text) (λ is. clash h (line shorter size text is))
  where
    otherwise : (t : Bool) → (t ≡ true → ⊥) → t ≡ false
    otherwise true n = absurd (n refl)
    otherwise false n = refl

    clash : Misfits size (length (line_of text)) → Line shorter size text → ⊥
    clash (inl more) l = omega (arith, l.long, l.most)
    clash (inr odd) l = omega (arith, l.long)

-- ---- a text in form

module _ (message size : ℕ) (sizes : List ℕ) (n : ℕ) (text : List ℕ) (h : check_lines message (size ∷ sizes) n text accepted ≡ accepted) where
  split : (is_line (eqb n message) size text ≡ true) × (check_lines message sizes (suc n) (after_line text) accepted ≡ accepted)
  unfolding check_lines
  split = require_split (is_line (eqb n message) size text) (TextForm n) (check_lines message sizes (suc n) (after_line text) accepted) h

  pub first_line : Line (eqb n message) size text
  first_line = line (eqb n message) size text split.0

  pub other_lines : check_lines message sizes (suc n) (after_line text) accepted ≡ accepted
  other_lines = split.1

pub no_lines : (message n : ℕ) (text : List ℕ) → check_lines message [] n text accepted ≡ accepted → length text ≡ 0
unfolding check_lines
no_lines message n text h = eqb-true (length text) 0 (require_split (eqb (length text) 0) (TextForm n) accepted h).0

-- the answer is what is asked next
pub in_form : (sizes : List ℕ) (message n : ℕ) (text : List ℕ) → check_lines message sizes n text accepted ≡ accepted → (rest : Answer)
    → check_lines message sizes n text rest ≡ rest
unfolding check_lines require
in_form [] message n text h rest =
    ap (λ (t : Bool). require t (TextForm n) rest) (require_split (eqb (length text) 0) (TextForm n) accepted h).0
in_form (size ∷ sizes) message n text h rest =
    ap (λ (t : Bool). require t (TextForm n) (check_lines message sizes (suc n) (after_line text) rest)) (split message size sizes n text h).0
    ∙ in_form sizes message (suc n) (after_line text) (other_lines message size sizes n text h) rest

-- what accepts a text has checked its form
pub form_split : (sizes : List ℕ) (message n : ℕ) (text : List ℕ) (rest : Answer) → check_lines message sizes n text rest ≡ accepted
    → (check_lines message sizes n text accepted ≡ accepted) × (rest ≡ accepted)
unfolding check_lines
form_split [] message n text rest h =
    let p = require_split (eqb (length text) 0) (TextForm n) rest h in
    (require_join (eqb (length text) 0) (TextForm n) accepted p.0 refl, p.1)
form_split (size ∷ sizes) message n text rest h =
    let p = require_split (is_line (eqb n message) size text) (TextForm n) (check_lines message sizes (suc n) (after_line text) rest) h in
    let q = form_split sizes message (suc n) (after_line text) rest p.1 in
    (require_join (is_line (eqb n message) size text) (TextForm n) (check_lines message sizes (suc n) (after_line text) accepted) p.0 q.0, q.1)

-- two digits a byte, and an end for each line
pub form_length : (sizes : List ℕ) (message n : ℕ) (text : List ℕ) → check_lines message sizes n text accepted ≡ accepted
    → length text ≡ 2 * length (decoded_lines (length sizes) text) + length sizes
unfolding decoded_lines
form_length [] message n text h = no_lines message n text h
form_length (size ∷ sizes) message n text h =
    let l = first_line message size sizes n text h in
    let r = form_length sizes message (suc n) (after_line text) (other_lines message size sizes n text h) in
    omega (
      arith,
      l.long,
      l.ended,
      r,
      length-drop (suc (length (line_of text))) text,
      length-append (decoded (line_of text)) (decoded_lines (length sizes) (after_line text)),
    )

pub form_most : (sizes : List ℕ) (message n : ℕ) (text : List ℕ) → check_lines message sizes n text accepted ≡ accepted
    → length (decoded_lines (length sizes) text) ≤ total sizes
unfolding decoded_lines
form_most [] message n text h = omega arith
form_most (size ∷ sizes) message n text h =
    let l = first_line message size sizes n text h in
    let r = form_most sizes message (suc n) (after_line text) (other_lines message size sizes n text h) in
    omega (arith, l.most, r, length-append (decoded (line_of text)) (decoded_lines (length sizes) (after_line text)))

-- from behind the message on each line has its size
pub form_exact : (sizes : List ℕ) (message n : ℕ) (text : List ℕ) → message < n → check_lines message sizes n text accepted ≡ accepted
    → length (decoded_lines (length sizes) text) ≡ total sizes
unfolding decoded_lines
form_exact [] message n text g h = refl
form_exact (size ∷ sizes) message n text g h =
    let l = first_line message size sizes n text h in
    let r = form_exact sizes message (suc n) (after_line text) (omega arith) (other_lines message size sizes n text h) in
    omega (
      arith,
      l.exact (ne_eqb n message (λ e. omega arith)),
      r,
      length-append (decoded (line_of text)) (decoded_lines (length sizes) (after_line text)),
    )
