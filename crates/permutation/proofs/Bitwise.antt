-- Bitwise expressions of five numbers of w bits: two that agree on bits agree. Assumes nothing.
use mathlib.Core.Path.{◌≡◌, refl, sym, ap, ap₂, ◌∙◌}
use mathlib.Core.List.{List, [], ◌∷◌, map}
use Prim.Native.Nat.{ℕ, zero, suc, ◌+◌, ◌-◌, ◌*◌, ◌/◌, ◌%◌, ◌^◌, ◌<◌}
use native.Mathlib.Nat.{div-add-mod', mul_comm, pow-suc}
use native.Mathlib.Omega.{arith}
use lib.Arith.{lt-one}
use lib.Bits.{bit_and, bit_or, bit_xor, and_lt, or_lt, xor_lt, and_block, or_block, xor_block}
use lib.ListN.{get_or, get_or-map}
use lib.Pow.{pow_pos}
use Rattle.slices.specs.Lists.{tab}
use Rattle.slices.specs.Tab.{get_d_tab}
use Rattle.slices.specs.Xor.{digit}
use Rattle.permutation.proofs.Below.{Below, each_below}

-- bitwise expressions of numbered variables; none is 0
pub data Expr : Type 0 where
  none : Expr
  var : ℕ → Expr
  neg : Expr → Expr
  and or xor : Expr → Expr → Expr

-- the value of an expression, on w bits, where variable k is number k of l
unfoldable pub eval : ℕ → Expr → List ℕ → ℕ
eval w none l = 0
eval w (var k) l = get_or l k 0
eval w (neg e) l = 2 ^ w - 1 - eval w e l
eval w (and e f) l = bit_and (eval w e l) (eval w f l)
eval w (or e f) l = bit_or (eval w e l) (eval w f l)
eval w (xor e f) l = bit_xor (eval w e l) (eval w f l)

eval_lt : (e : Expr) (w : ℕ) (l : List ℕ) → Below w l → eval w e l < 2 ^ w
unfolding eval
eval_lt none w l h = pow_pos w
eval_lt (var k) w l h = h.lt k
eval_lt (neg e) w l h = omega (arith, pow_pos w)
eval_lt (and e f) w l h = and_lt w (eval w e l) (eval w f l) (eval_lt e w l h) (eval_lt f w l h)
eval_lt (or e f) w l h = or_lt w (eval w e l) (eval w f l) (eval_lt e w l h) (eval_lt f w l h)
eval_lt (xor e f) w l h = xor_lt w (eval w e l) (eval w f l) (eval_lt e w l h) (eval_lt f w l h)

abbrev halves : List ℕ → List ℕ
halves l = map (◌/ 2) l

abbrev digits : List ℕ → List ℕ
digits l = map (◌% 2) l

below_halves : (w : ℕ) (l : List ℕ) → Below (suc w) l → Below w (halves l)
below_halves w l h = record { lt = λ k. rw (get_or-map (◌/ 2) l k 0) (omega (arith, h.lt k)) }

below_digits : (l : List ℕ) → Below 1 (digits l)
below_digits l = record { lt = λ k. rw (get_or-map (◌% 2) l k 0) (digit (get_or l k 0)) }

neg_step : (p v v' d : ℕ) → v ≡ v' * 2 + d → v' < p → d < 2 → 2 * p - 1 - v ≡ (p - 1 - v') * 2 + (2 - 1 - d)
neg_step p v v' d e h l = omega arith

-- all but the lowest bit, and the lowest
eval_step : (e : Expr) (w : ℕ) (l : List ℕ) → Below (suc w) l → eval (suc w) e l ≡ eval w e (halves l) * 2 + eval 1 e (digits l)
unfolding eval
eval_step none w l h = refl
eval_step (var k) w l h =
    sym (ap₂ (λ x y. x * 2 + y) (get_or-map (◌/ 2) l k 0) (get_or-map (◌% 2) l k 0) ∙ div-add-mod' (get_or l k 0) 2)
eval_step (neg e) w l h =
    ap (λ n. n - 1 - eval (suc w) e l) (pow-suc 2 w ∙ mul_comm (2 ^ w) 2)
    ∙ neg_step (2 ^ w) (eval (suc w) e l) (eval w e (halves l)) (eval 1 e (digits l)) (eval_step e w l h)
    (eval_lt e w (halves l) (below_halves w l h)) (eval_lt e 1 (digits l) (below_digits l))
eval_step (and e f) w l h =
    ap₂ bit_and (eval_step e w l h) (eval_step f w l h)
    ∙ and_block 1 (eval w e (halves l)) (eval w f (halves l)) (eval 1 e (digits l)) (eval 1 f (digits l)) (eval_lt e 1 (digits l) (below_digits l))
    (eval_lt f 1 (digits l) (below_digits l))
eval_step (or e f) w l h =
    ap₂ bit_or (eval_step e w l h) (eval_step f w l h)
    ∙ or_block 1 (eval w e (halves l)) (eval w f (halves l)) (eval 1 e (digits l)) (eval 1 f (digits l)) (eval_lt e 1 (digits l) (below_digits l))
    (eval_lt f 1 (digits l) (below_digits l))
eval_step (xor e f) w l h =
    ap₂ bit_xor (eval_step e w l h) (eval_step f w l h)
    ∙ xor_block 1 (eval w e (halves l)) (eval w f (halves l)) (eval 1 e (digits l)) (eval 1 f (digits l)) (eval_lt e 1 (digits l) (below_digits l))
    (eval_lt f 1 (digits l) (below_digits l))

-- ---- agreement on bits, for expressions of five variables

-- the five lowest bits of n
abbrev bits : ℕ → List ℕ
bits n = n % 2 ∷ n / 2 % 2 ∷ n / 4 % 2 ∷ n / 8 % 2 ∷ n / 16 % 2 ∷ []

-- the values of an expression at all choices of five bits
abbrev pub table : Expr → List ℕ
table e = tab (λ n. eval 1 e (bits n)) 32

-- the values of five variables
abbrev pub five : ℕ → ℕ → ℕ → ℕ → ℕ → List ℕ
five a b c d e = a ∷ b ∷ c ∷ d ∷ e ∷ []

bits_of : (a b c d e : ℕ) → a < 2 → b < 2 → c < 2 → d < 2 → e < 2 → five a b c d e ≡ bits (a + 2 * b + 4 * c + 8 * d + 16 * e)
bits_of a b c d e ha hb hc hd he =
    ap₂ ◌∷◌ (omega arith) (ap₂ ◌∷◌ (omega arith) (ap₂ ◌∷◌ (omega arith) (ap₂ ◌∷◌ (omega arith) (ap (◌∷ []) (omega arith)))))

on_bits : (e f : Expr) → table e ≡ table f → (a b c d g : ℕ) → a < 2 → b < 2 → c < 2 → d < 2 → g < 2
    → eval 1 e (five a b c d g) ≡ eval 1 f (five a b c d g)
on_bits e f t a b c d g ha hb hc hd hg =
    let n = a + 2 * b + 4 * c + 8 * d + 16 * g in
    let h : n < 32 = omega arith in
    rw (bits_of a b c d g ha hb hc hd hg)
    (sym (get_d_tab (λ n. eval 1 e (bits n)) 32 n 0 h) ∙ ap (λ s. get_or s n 0) t ∙ get_d_tab (λ n. eval 1 f (bits n)) 32 n 0 h)

agree_all : (w : ℕ) (e f : Expr) → table e ≡ table f → (a b c d g : ℕ) → Below w (five a b c d g) → eval w e (five a b c d g) ≡ eval w f (five a b c d g)
agree_all zero e f t a b c d g h = lt-one (eval_lt e 0 _ h) ∙ sym (lt-one (eval_lt f 0 _ h))
agree_all (suc w) e f t a b c d g h =
    eval_step e w (five a b c d g) h
    ∙ ap₂ (λ x y. x * 2 + y) (agree_all w e f t (a / 2) (b / 2) (c / 2) (d / 2) (g / 2) (below_halves w (five a b c d g) h))
    (on_bits e f t (a % 2) (b % 2) (c % 2) (d % 2) (g % 2) (digit a) (digit b) (digit c) (digit d) (digit g))
    ∙ sym (eval_step f w (five a b c d g) h)

pub agree : (e f : Expr) → table e ≡ table f → (a b c d g : ℕ) → a < 2 ^ 64 → b < 2 ^ 64 → c < 2 ^ 64 → d < 2 ^ 64 → g < 2 ^ 64
    → eval 64 e (five a b c d g) ≡ eval 64 f (five a b c d g)
agree e f t a b c d g ha hb hc hd hg = agree_all 64 e f t a b c d g (each_below 64 (five a b c d g) (ha, (hb, (hc, (hd, (hg, tt))))))
