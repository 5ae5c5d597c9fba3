-- Where a line ends, as a scan finds it. Assumes nothing.
use mathlib.Core.Path.{◌≡◌, refl, ap}
use mathlib.Core.Bool.{Bool, true, false, ◌&&◌}
use mathlib.Core.List.{List, ◌∷◌}
use Prim.Native.Nat.{ℕ, suc, ◌+◌, ◌-◌, ◌<◌}
use native.Mathlib.Numerals.{add-one}
use native.Mathlib.Omega.{arith}
use lib.Dec.{eqb, leb-suc-suc}
use lib.ListN.{length, drop, get_or, length-drop, drop_of_length-le}
use lib.Seq.{drop-cons}
use borrow.Author.Tests.{ne_eqb, lt-ltb}
use Rattle.slices.specs.Lists.{choose}
use Rattle.banquet.specs.declared.Symbol.TheVariants.{Value, LineEnd, Other}
use Rattle.banquet.specs.Card.{within, symbol_of, is_digit, all_digits, line_of, is_ended}
use Rattle.text_lines.specs.Lines.{line_end}

-- ---- a line's first byte

end_byte : (r s t : Bool) (x y : ℕ) → choose r (Value x) (choose s (Value y) (choose t LineEnd Other)) ≡ LineEnd → t ≡ true
end_byte true s t x y e = let z : ◌≡◌ {A = ℕ} 0 1 = cc in absurd (omega arith)
end_byte false true t x y e = let z : ◌≡◌ {A = ℕ} 0 1 = cc in absurd (omega arith)
end_byte false false true x y e = refl
end_byte false false false x y e = let z : ◌≡◌ {A = ℕ} 0 1 = cc in absurd (omega arith)

is_end : (b : ℕ) → symbol_of b ≡ LineEnd → eqb b 0x0a ≡ true
unfolding symbol_of
is_end b e = end_byte (within 0x30 0x39 b) (within 0x61 0x66 b) (eqb b 0x0a) (b - 0x30) (b - 0x61 + 10) e

no_end : (b : ℕ) → (symbol_of b ≡ LineEnd → ⊥) → eqb b 0x0a ≡ false
unfolding symbol_of
no_end b n = ne_eqb b 0x0a (λ e. n (ap symbol_of e))

picked : (t : Bool) (x y : ℕ) → choose t (suc x) (suc y) ≡ suc (choose t x y)
picked true x y = refl
picked false x y = refl

and_false : (t : Bool) → (t && false) ≡ false
and_false true = refl
and_false false = refl

first_end : (b : ℕ) (s : List ℕ) → symbol_of b ≡ LineEnd → line_end (b ∷ s) ≡ 0
unfolding line_end line_of all_digits
first_end b s e = simp (is_end b e, lt-ltb 0 (suc (length s)) (omega arith))

first_digit : (b : ℕ) (s : List ℕ) {v : ℕ} → symbol_of b ≡ Value v → line_end (b ∷ s) ≡ suc (line_end s)
unfolding line_end line_of all_digits is_digit
first_digit b s {v} e =
    let z : eqb b 0x0a ≡ false = no_end b (λ f. let n : ◌≡◌ {A = ℕ} 0 1 = cc in omega arith) in
    simp (z, e, leb-suc-suc) (picked (is_ended s && all_digits (line_of s)) (length (line_of s)) (length s))

first_other : (b : ℕ) (s : List ℕ) → symbol_of b ≡ Other → line_end (b ∷ s) ≡ suc (length s)
unfolding line_end line_of all_digits is_digit
first_other b s e =
    let z : eqb b 0x0a ≡ false = no_end b (λ f. let n : ◌≡◌ {A = ℕ} 0 1 = cc in omega arith) in
    simp (z, e, and_false)

-- ---- a scan from index i on

module _ (text : List ℕ) (i : ℕ) (h : i < length text) where
  pub end_here : symbol_of (get_or text i 0) ≡ LineEnd → i + line_end (drop i text) ≡ i
  end_here e = rw (drop-cons text i 0 h) (omega (arith, first_end (get_or text i 0) (drop (suc i) text) e))

  pub end_later : {v : ℕ} → symbol_of (get_or text i 0) ≡ Value v → i + line_end (drop i text) ≡ i + 1 + line_end (drop (i + 1) text)
  end_later e = rw (add-one, drop-cons text i 0 h) (omega (arith, first_digit (get_or text i 0) (drop (suc i) text) e))

  pub end_other : symbol_of (get_or text i 0) ≡ Other → i + line_end (drop i text) ≡ length text
  end_other e =
      rw (drop-cons text i 0 h) (omega (arith, first_other (get_or text i 0) (drop (suc i) text) e, length-drop (suc i) text))

pub end_none : (text : List ℕ) (i : ℕ) → i ≡ length text → i + line_end (drop i text) ≡ length text
unfolding line_end line_of all_digits
end_none text i h = rw (drop_of_length-le text {i = i} (omega arith)) (omega arith)
