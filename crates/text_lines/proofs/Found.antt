-- What is known of a line by where the scan says that it ends. Assumes nothing.
use Rattle.std.specs.Prelude.{Some, None}
use Rattle.std.proofs.Common.{take_all}
use mathlib.Core.Path.{◌≡◌, refl, sym, ap, ◌∙◌}
use mathlib.Core.Bool.{Bool, true, false, ◌&&◌}
use mathlib.Core.List.{List, [], ◌∷◌}
use Prim.Native.Nat.{ℕ, suc, ◌+◌, ◌-◌, ◌≤◌, ◌<◌}
use native.Mathlib.Omega.{arith}
use lib.Dec.{eqb}
use lib.ListN.{length, take, drop, length-take, length-drop}
use lib.Seq.{drop-drop}
use borrow.Author.Tests.{ltb-true, lt-ltb}
use Rattle.slices.specs.Lists.{choose, found}
use Rattle.slices.specs.Found.{some_found, none_found}
use Rattle.banquet.specs.Card.{all_digits, line_of, after_line, is_ended, has_size, is_line}
use Rattle.text_lines.specs.Lines.{line_end}

-- ---- the first line of a text

tested : (a b : Bool) (x y : ℕ) → choose (a && b) x y < y → (a ≡ true) × (b ≡ true)
tested true true x y h = (refl, refl)
tested true false x y h = absurd (omega arith)
tested false b x y h = absurd (omega arith)

untested : (a b c : Bool) (x y : ℕ) → (a ≡ true → x < y) → choose (a && b) x y ≡ y → (a && (b && c)) ≡ false
untested true true c x y f h = absurd (omega (arith, f refl))
untested true false c x y f h = refl
untested false b c x y f h = refl

line_front : (s : List ℕ) → take (length (line_of s)) s ≡ line_of s
unfolding line_of
line_front [] = refl
line_front (b ∷ s) = go (eqb b 0x0a) (line_front s)
  where
    go : (t : Bool) → take (length (line_of s)) s ≡ line_of s
        → take (length (choose t [] (b ∷ line_of s))) (b ∷ s) ≡ choose t [] (b ∷ line_of s)
    go true h = refl
    go false h = ap (b ∷◌) h

line_short : (s : List ℕ) → length (line_of s) ≤ length s
line_short s = omega (arith, length-take (length (line_of s)) s, ap length (line_front s))

chosen_within : (t : Bool) (x y : ℕ) → x ≤ y → choose t x y ≤ y
chosen_within true x y h = h
chosen_within false x y h = omega arith

end_short : (s : List ℕ) → line_end s ≤ length s
unfolding line_end
end_short s = chosen_within (is_ended s && all_digits (line_of s)) (length (line_of s)) (length s) (line_short s)

-- ---- the line that begins at index at, by where the scan says that it ends

module _ (text : List ℕ) {at end : ℕ} (h : at ≤ length text) (e : end ≡ at + line_end (drop at text)) where
  abbrev rest : List ℕ
  rest = drop at text

  long : length rest ≡ length text - at
  long = length-drop at text

  pub no_line : (shorter : Bool) (size : ℕ) → end ≡ length text → is_line shorter size rest ≡ false
  unfolding line_end is_line
  no_line shorter size f =
      let whole : line_end rest ≡ length rest = omega (arith, long) in
      untested (is_ended rest) (all_digits (line_of rest)) (has_size shorter size (length (line_of rest))) (length (line_of rest)) (length rest)
      (ltb-true (length (line_of rest)) (length rest)) whole

  pub has_line : length (line_of rest) < length rest → all_digits (line_of rest) ≡ true → end ≡ at + length (line_of rest)
  unfolding line_end
  has_line ended digits = e ∙ simp (lt-ltb (length (line_of rest)) (length rest) ended, digits)

  module _ (inside : end < length text) where
    tests : (is_ended rest ≡ true) × (all_digits (line_of rest) ≡ true)
    unfolding line_end
    tests =
        let less : line_end rest < length rest = omega (arith, long) in
        tested (is_ended rest) (all_digits (line_of rest)) (length (line_of rest)) (length rest) less

    size_is : length (line_of rest) ≡ end - at
    unfolding line_end
    size_is =
        let this : line_end rest ≡ length (line_of rest) = simp (tests.0, tests.1) in
        omega arith

    pub line_is : (shorter : Bool) (size : ℕ) → is_line shorter size rest ≡ has_size shorter size (end - at)
    unfolding is_line
    line_is shorter size = simp (tests.0, tests.1) (ap (has_size shorter size) size_is)

    pub line_cut : take (end - at) rest ≡ line_of rest
    line_cut = ap (λ (n : ℕ). take n rest) (sym size_is) ∙ line_front rest

    pub line_after : after_line rest ≡ drop (end + 1) text
    line_after =
        let n : at + suc (length (line_of rest)) ≡ end + 1 = omega (arith, size_is) in
        drop-drop (suc (length (line_of rest))) at text ∙ ap (λ (n : ℕ). drop n text) n

-- ---- the same where the scan is of what is left, as `text[at..]` lends it

abbrev pub lent : List ℕ → ℕ → List ℕ
lent text at = take (length text - at) (drop at text)

module _ (text : List ℕ) (at : ℕ) where
  pub rest_lent : lent text at ≡ drop at text
  rest_lent = take_all (length text - at) (drop at text) (omega (arith, length-drop at text))

  pub line_found : (digits : ℕ) → Some digits ≡ found (length (lent text at)) (line_end (lent text at))
      → (at + digits ≡ at + line_end (drop at text)) × (at + digits < length text)
  line_found digits e =
      let f = some_found _ _ _ (rw rest_lent at e) in
      (ap (at +◌) f.0, omega (arith, f, length-drop at text))

  pub none_ended : at ≤ length text → None ≡ found (length (lent text at)) (line_end (lent text at)) → length text ≡ at + line_end (drop at text)
  none_ended h e = omega (arith, none_found _ _ (rw rest_lent at e), end_short (drop at text), length-drop at text)
