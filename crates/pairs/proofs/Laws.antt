-- A line of key and plaintext that breaks its form and one that has it, and what is written for each answer. Assumes nothing.
use Rattle.std.specs.Prelude.{Err, IsErrAnd}
use mathlib.Core.Path.{◌≡◌, sym, ap, ap₂, ◌∙◌}
use mathlib.Core.List.{List, [], ◌∷◌, ◌++◌, append-nil}
use Prim.Native.Nat.{ℕ}
use native.Mathlib.Omega.{arith}
use borrow.Author.Tests.{eq-eqb, ne_eqb}
use lib.ListN.{length, take, drop, drop_of_length-le, length-drop}
use lib.Seq.{take_all}
use Rattle.banquet.specs.declared.Refusal.{Refusal}
use Rattle.banquet.specs.declared.Verdict.{Verdict}
use Rattle.banquet.specs.Sets.{base_scheme}
use Rattle.banquet.specs.Answer.{Answer, accepted, output_after}
use Rattle.banquet.specs.Key.{public_key_of}
use Rattle.banquet.specs.Calls.{written, written_after, make_public_key}
use Rattle.banquet.specs.Card.{decoded_line, decoded_lines, encoded_lines, check_lines, refusal_line, printed}
use Rattle.verdict.specs.Tests.{returned}
use Rattle.text_lines.specs.Form.{broken, in_form, form_exact}
use Rattle.pairs.specs.Pairs.{pair_key, pair_plaintext, pair_answer, make_pair, pair_line}

-- one line
one_line : (text : List ℕ) → decoded_lines 1 text ≡ decoded_line 1 text
unfolding decoded_lines decoded_line
one_line text = append-nil _

module _ (text public : List ℕ) where
  pub line_refused : {a : Answer} → a ≡ check_lines 0 (32 ∷ []) 1 text accepted → {refusal : Refusal} → a ≡ Err refusal
      → {r : Answer} → IsErrAnd r (λ e. e ≡ refusal) → written r public ≡ make_pair base_scheme text public
  unfolding pair_answer
  line_refused e h {r} up =
      let b = broken (32 ∷ []) 0 1 text (sym e ∙ h) in
      let file = public_key_of base_scheme (pair_key base_scheme text) (pair_plaintext base_scheme text) in
      let answer : pair_answer base_scheme text public ≡ check_lines 0 (32 ∷ []) 1 text accepted = b.answer _ in
      ap₂ written (returned r up ∙ sym h ∙ e ∙ sym answer) (sym (b.output file public) ∙ ap (λ (x : Answer). output_after x file public) (sym answer))

  -- where it has its form: 32 bytes, of which each half is lent
  module _ (h : check_lines 0 (32 ∷ []) 1 text accepted ≡ accepted) where
    line_long : length (decoded_lines 1 text) ≡ 32
    line_long = form_exact (32 ∷ []) 0 1 text (omega arith) h

    line_read : (z pair : List ℕ) → length z ≡ 32 → pair ≡ output_after accepted (decoded_lines 1 text) z → pair ≡ decoded_line 1 text
    unfolding output_after
    line_read z pair s e =
        let none : drop (length (decoded_lines 1 text)) z ≡ [] = drop_of_length-le z {i = length (decoded_lines 1 text)} (omega (arith, line_long)) in
        e ∙ ap (decoded_lines 1 text ++◌) none ∙ append-nil (decoded_lines 1 text) ∙ one_line text

    second_half : take 16 (drop 16 (decoded_line 1 text)) ≡ drop 16 (decoded_line 1 text)
    second_half =
        take_all 16 (drop 16 (decoded_line 1 text)) (omega (arith, length-drop 16 (decoded_line 1 text), line_long, ap length (one_line text)))

  pub line_accepted : (z pair : List ℕ) {a r : Answer} {out : List ℕ} → length z ≡ 32 → a ≡ check_lines 0 (32 ∷ []) 1 text accepted
      → pair ≡ output_after a (decoded_lines 1 text) z → a ≡ accepted
      → written r out ≡ make_public_key base_scheme (take 16 pair) (take 16 (drop 16 pair)) public
      → written r out ≡ make_pair base_scheme text public
  unfolding pair_answer
  line_accepted z pair long e p good told =
      let h : check_lines 0 (32 ∷ []) 1 text accepted ≡ accepted = sym e ∙ good in
      let read : pair ≡ decoded_line 1 text = line_read h z pair long (p ∙ ap (λ (b : Answer). output_after b (decoded_lines 1 text) z) good) in
      let first : take 16 pair ≡ pair_key base_scheme text = ap (take 16) read in
      let second : take 16 (drop 16 pair) ≡ pair_plaintext base_scheme text = ap (λ (l : List ℕ). take 16 (drop 16 l)) read ∙ second_half h in
      told ∙ ap₂ (λ (k p : List ℕ). make_public_key base_scheme k p public) first second
      ∙ ap (λ (b : Answer). written_after b (public_key_of base_scheme (pair_key base_scheme text) (pair_plaintext base_scheme text)) public)
      (sym (in_form (32 ∷ []) 0 1 text h _))

-- ---- what is written

module _ (v : Verdict) (public : List ℕ) (n : ℕ) where
  -- as many bytes as the part that was lent has
  pub key_written : (d : List ℕ) {y : List ℕ} → length public ≡ 32 → v.number ≡ 0 → y ≡ encoded_lines (32 ∷ []) public → length y ≡ 65
      → (65 ≡ length (pair_line v public n)) × (y ++ drop 65 d ≡ pair_line v public n ++ drop 65 d)
  unfolding pair_line
  key_written d {y} size zero w long =
      let line : y ≡ pair_line v public n = w ∙ rw (eq-eqb v.number 0 zero, size) in
      (sym long ∙ ap length line, ap (◌++ drop 65 d) line)

  -- r bytes at the front of an output that held d
  abbrev Printed : List ℕ → List ℕ → ℕ → List ℕ → Type 0
  Printed line d r out = (r ≡ length line) × (out ≡ line ++ drop r d)

  pub form_written : (d out : List ℕ) (r : ℕ) → v.number ≡ 18 → Printed (refusal_line 18 n) d r out → Printed (pair_line v public n) d r out
  unfolding pair_line
  form_written d out r e told = rw e told

  pub other_written : (d out : List ℕ) (r : ℕ) → (v.number ≡ 0 → ⊥) → (v.number ≡ 18 → ⊥) → Printed (printed v) d r out
      → Printed (pair_line v public n) d r out
  unfolding pair_line
  other_written d out r zero form told = rw (ne_eqb v.number 0 zero, ne_eqb v.number 18 form) told
