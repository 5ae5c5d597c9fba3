-- How the program works AES's steps out, and why that is right. Assumes nothing.
use Rattle.std.specs.Prelude.{◌≡◌, refl, List, ◌∷◌, ℕ, ◌+◌, ◌*◌, ◌%◌, ◌^◌, ◌<◌, ◌≤◌, get_or}
use Rattle.std.proofs.Common.{sym, ap, ap₂, ◌∙◌, mod-eq_of_lt, arith}
use Rattle.std.specs.Int.Bits.{bit_xor, xor_zero_r}
use Rattle.slices.specs.Lists.{tab}
use Rattle.slices.specs.Bytes.{Bytes}
use Rattle.slices.specs.Xor.{xor_assoc}
use Rattle.field.specs.Linear.{combine, orbit}
use Rattle.field.specs.Ring.{times, xtime, xtime_even, xtime_odd}
use Rattle.field.specs.Field.{adds_l}
use Rattle.field.specs.Byte.{mul8, field8, low8}
use Rattle.field.proofs.Byte.{times_one}
use Rattle.aes.specs.Aes.{cell, state, add, mixed, mix_columns}

-- ---- 4.2.1: 02 a, by the bit d that leaves

xtime_double : (a : ℕ) → a < 256 → xtime 8 low8 a ≡ mul8 2 a
unfolding times combine orbit
xtime_double a h = sym (field8.ring.comm 2 a ∙ xor_zero_r (xtime 8 low8 (a % 256)) ∙ ap (xtime 8 low8) (mod-eq_of_lt h))

pub double_low : (a : ℕ) → a < 128 → a * 2 % 2 ^ 8 ≡ mul8 2 a
double_low a h = xtime_even 8 low8 a (omega arith) ∙ xtime_double a (omega arith)

pub double_high : (a : ℕ) → a < 256 → 128 ≤ a → bit_xor (a * 2 % 2 ^ 8) low8 ≡ mul8 2 a
double_high a h l = xtime_odd 8 low8 a (omega arith) ∙ xtime_double a h

-- ---- 5.1.3: 02 a + 03 b + c + d = 02 (a + b) + b + (c + d), for all bytes of a block at a time

mixed_by_double : (a b c d : ℕ) → b < 256 → bit_xor (bit_xor (mul8 2 (bit_xor a b)) b) (bit_xor c d) ≡ mixed a b c d
mixed_by_double a b c d h =
    ap (λ (x : ℕ). bit_xor x (bit_xor c d))
    (ap (λ (x : ℕ). bit_xor x b) ((field8.ring.adds 2).adds a b) ∙ xor_assoc (mul8 2 a) (mul8 2 b) b ∙ ap (bit_xor (mul8 2 a)) thrice)
  where
    thrice : bit_xor (mul8 2 b) b ≡ mul8 3 b
    thrice = sym ((adds_l 8 mul8 field8.ring b).adds 2 1 ∙ ap (bit_xor (mul8 2 b)) (times_one h))

-- the bytes below those of s, each in its column
abbrev pub below : List ℕ → List ℕ
below s = state (λ r c. cell s ((r + 1) % 4) c)

-- 02 u + t + v
abbrev pub doubled_plus : List ℕ → List ℕ → List ℕ → List ℕ
doubled_plus u t v = tab (λ i. bit_xor (bit_xor (mul8 2 (get_or u i 0)) (get_or t i 0)) (get_or v i 0)) 16

module _ {s : List ℕ} (h : Bytes s) where
  abbrev worked : ℕ → ℕ → ℕ → ℕ → ℕ
  worked a b c d = bit_xor (bit_xor (mul8 2 (bit_xor (get_or s a 0) (get_or s b 0))) (get_or s b 0)) (bit_xor (get_or s c 0) (get_or s d 0))

  abbrev stated : ℕ → ℕ → ℕ → ℕ → ℕ
  stated a b c d = mixed (get_or s a 0) (get_or s b 0) (get_or s c 0) (get_or s d 0)

  same : (a b c d : ℕ) → worked a b c d ≡ stated a b c d
  same a b c d = mixed_by_double (get_or s a 0) (get_or s b 0) (get_or s c 0) (get_or s d 0) (h.lt b)

  column : (a b c d : ℕ) {l m : List ℕ} → l ≡ m
      → worked a b c d ∷ worked b c d a ∷ worked c d a b ∷ worked d a b c ∷ l
      ≡ stated a b c d ∷ stated b c d a ∷ stated c d a b ∷ stated d a b c ∷ m
  column a b c d e = ap₂ ◌∷◌ (same a b c d) (ap₂ ◌∷◌ (same b c d a) (ap₂ ◌∷◌ (same c d a b) (ap₂ ◌∷◌ (same d a b c) e)))

  pub mix_columns_by_blocks : doubled_plus (add 16 s (below s)) (below s) (below (below (add 16 s (below s)))) ≡ mix_columns s
  mix_columns_by_blocks = column 0 1 2 3 (column 4 5 6 7 (column 8 9 10 11 (column 12 13 14 15 refl)))
