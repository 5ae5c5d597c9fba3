-- Digits have small values and are read back as they are written, and so are bytes. Assumes nothing.
use Rattle.std.specs.Prelude.{◌≡◌, refl, Bool, true, false, List, [], ◌∷◌, ℕ, ◌+◌, ◌-◌, ◌*◌, ◌/◌, ◌%◌, ◌<◌, eqb, leb, length, get_or}
use Rattle.std.proofs.Common.{sym, ap, ap₂, ◌∙◌, arith, leb-true}
use Rattle.slices.specs.Lists.{choose, tab}
use Rattle.slices.specs.Tab.{get_d_tab}
use Rattle.slices.specs.Tests.{and_split, and_join}
use Rattle.slices.specs.Bytes.{Bytes, nil_bytes, cons_bytes, tail_bytes}
use Rattle.banquet.specs.declared.Symbol.{Symbol}
use Rattle.banquet.specs.declared.Symbol.TheVariants.{Value, LineEnd, Other}
use Rattle.banquet.specs.Card.{within, symbol_of, is_digit, value_of, all_digits, decoded, digit_of, encoded}

-- the value of a byte's digit 0, the high one, and of digit 1
unfoldable pub half : ℕ → ℕ → ℕ
half b k = choose (eqb k 0) (b / 16) (b % 16)

-- ---- values

chosen_small : (t : Bool) (x y : Symbol) → (t ≡ true → value_of x < 16) → value_of y < 16 → value_of (choose t x y) < 16
chosen_small true x y f h = f refl
chosen_small false x y f h = h

pub value_small : (b : ℕ) → value_of (symbol_of b) < 16
unfolding symbol_of value_of
value_small b =
    chosen_small (within 0x30 0x39 b) (Value (b - 0x30)) _
    (λ t. omega (arith, leb-true b 0x39 (and_split (leb 0x30 b) (leb b 0x39) t).1))
    (chosen_small (within 0x61 0x66 b) (Value (b - 0x61 + 10)) _
    (λ t. omega (arith, leb-true b 0x66 (and_split (leb 0x61 b) (leb b 0x66) t).1))
    (chosen_small (eqb b 0x0a) LineEnd Other (λ t. omega arith) (omega arith)))

-- ---- the sixteen digits

symbols : tab (λ v. symbol_of (digit_of v)) 16 ≡ tab (λ v. Value v) 16
unfolding symbol_of digit_of
symbols = refl

no_ends : tab (λ v. eqb (digit_of v) 0x0a) 16 ≡ tab (λ v. false) 16
unfolding digit_of
no_ends = refl

pub symbol_digit : (v : ℕ) → v < 16 → symbol_of (digit_of v) ≡ Value v
symbol_digit v h =
    sym (get_d_tab (λ v. symbol_of (digit_of v)) 16 v Other h) ∙ ap (λ (l : List Symbol). get_or l v Other) symbols
    ∙ get_d_tab (λ v. Value v) 16 v Other h

-- a digit is no line end
pub digit_no_end : (v : ℕ) → v < 16 → eqb (digit_of v) 0x0a ≡ false
digit_no_end v h =
    sym (get_d_tab (λ v. eqb (digit_of v) 0x0a) 16 v false h) ∙ ap (λ (l : List Bool). get_or l v false) no_ends
    ∙ get_d_tab (λ v. false) 16 v false h

-- ---- bytes

high_small : (b : ℕ) → b < 256 → b / 16 < 16
high_small b h = omega arith

low_small : (b : ℕ) → b % 16 < 16
low_small b = omega arith

pub length_encoded : (s : List ℕ) → length (encoded s) ≡ 2 * length s
unfolding encoded
length_encoded [] = refl
length_encoded (b ∷ s) = let e = length_encoded s in omega arith

pub encoded_digits : (s : List ℕ) → Bytes s → all_digits (encoded s) ≡ true
unfolding encoded all_digits is_digit
encoded_digits [] h = refl
encoded_digits (b ∷ s) h =
    and_join _ _ (ap is_digit (symbol_digit (b / 16) (high_small b (h.lt 0))))
    (and_join _ _ (ap is_digit (symbol_digit (b % 16) (low_small b))) (encoded_digits s (tail_bytes h)))

pub decoded_encoded : (s : List ℕ) → Bytes s → decoded (encoded s) ≡ s
unfolding decoded encoded value_of
decoded_encoded [] h = refl
decoded_encoded (b ∷ s) h =
    let e : 16 * (b / 16) + b % 16 ≡ b = omega arith in
    ap₂ ◌∷◌
    (ap₂ (λ (x y : Symbol). 16 * value_of x + value_of y) (symbol_digit (b / 16) (high_small b (h.lt 0))) (symbol_digit (b % 16) (low_small b)) ∙ e)
    (decoded_encoded s (tail_bytes h))

pub decoded_bytes : (s : List ℕ) → Bytes (decoded s)
unfolding decoded
decoded_bytes [] = nil_bytes
decoded_bytes (a ∷ []) = nil_bytes
decoded_bytes (a ∷ b ∷ s) = cons_bytes (omega (arith, value_small a, value_small b)) (decoded_bytes s)
