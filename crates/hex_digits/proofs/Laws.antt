-- Bytes read and written element by element, as a loop does it. Assumes nothing.
use mathlib.Core.Path.{◌≡◌, refl, sym, ap, ap₂, ◌∙◌}
use mathlib.Core.List.{List, [], ◌∷◌}
use Prim.Native.Nat.{ℕ, zero, suc, ◌+◌, ◌*◌, ◌/◌, ◌%◌, ◌<◌}
use native.Mathlib.Omega.{arith}
use lib.ListN.{length, get_or}
use Rattle.slices.specs.Lists.{tab}
use Rattle.slices.specs.Tab.{tab_cong}
use Rattle.slices.specs.Bytes.{Bytes, tail_bytes}
use Rattle.banquet.specs.declared.Symbol.{Symbol}
use Rattle.banquet.specs.Card.{symbol_of, value_of, decoded, digit_of, encoded}
use Rattle.hex_digits.specs.Hex.{half, value_small}

-- the value of a byte by what it was found to be
pub value_is : (b : ℕ) {x known : Symbol} {v : ℕ} → x ≡ symbol_of b → x ≡ known → v ≡ value_of known → (v ≡ value_of (symbol_of b)) × (v < 16)
value_is b {v = v} e told h = let k : v ≡ value_of (symbol_of b) = h ∙ ap value_of (sym told ∙ e) in (k, omega (arith, value_small b))

-- the byte that the digits at 2 * i stand for
abbrev pub pair_at : List ℕ → ℕ → ℕ
pair_at s i = 16 * value_of (symbol_of (get_or s (2 * i) 0)) + value_of (symbol_of (get_or s (2 * i + 1) 0))

pair_next : (a b : ℕ) (s : List ℕ) (i : ℕ) → pair_at (a ∷ b ∷ s) (suc i) ≡ pair_at s i
pair_next a b s i =
    let e : 2 * suc i ≡ suc (suc (2 * i)) = omega arith in
    let f : suc (suc (2 * i)) + 1 ≡ suc (suc (2 * i + 1)) = omega arith in
    rw (e, f)

pub tab_decoded : (n : ℕ) (s : List ℕ) → length s ≡ 2 * n → tab (pair_at s) n ≡ decoded s
unfolding decoded
tab_decoded zero [] h = refl
tab_decoded zero (a ∷ s) h = absurd (omega arith)
tab_decoded (suc n) [] h = absurd (omega arith)
tab_decoded (suc n) (a ∷ []) h = absurd (omega arith)
tab_decoded (suc n) (a ∷ b ∷ s) h =
    ap ((16 * value_of (symbol_of a) + value_of (symbol_of b)) ∷◌) (tab_cong n (λ i l. pair_next a b s i) ∙ tab_decoded n s (omega arith))

-- digit i of the text that bytes are written as
abbrev pub digit_at : List ℕ → ℕ → ℕ
digit_at s i = digit_of (half (get_or s (i / 2) 0) (i % 2) % 16)

digit_next : (b : ℕ) (s : List ℕ) (i : ℕ) → digit_at (b ∷ s) (suc (suc i)) ≡ digit_at s i
digit_next b s i =
    let e : suc (suc i) / 2 ≡ suc (i / 2) = omega arith in
    let f : suc (suc i) % 2 ≡ i % 2 = omega arith in
    rw (e, f)

pub tab_encoded : (s : List ℕ) → Bytes s → tab (digit_at s) (2 * length s) ≡ encoded s
unfolding encoded half
tab_encoded [] h = refl
tab_encoded (b ∷ s) h =
    let l : b < 256 = h.lt 0 in
    let two : 2 * suc (length s) ≡ suc (suc (2 * length s)) = omega arith in
    let high : b / 16 % 16 ≡ b / 16 = omega arith in
    let low : b % 16 % 16 ≡ b % 16 = omega arith in
    rw two
    (ap₂ ◌∷◌ (ap digit_of high)
    (ap₂ ◌∷◌ (ap digit_of low) (tab_cong (2 * length s) (λ i l. digit_next b s i) ∙ tab_encoded s (tail_bytes h))))
