-- Numbers of some bytes, "low byte first": the number that a list of bytes holds, and the bytes of a number. Assumes nothing.
use Rattle.std.specs.Prelude.{◌≡◌, refl, List, [], ◌∷◌, ◌++◌, ℕ, zero, suc, ◌+◌, ◌*◌, ◌/◌, ◌%◌, ◌^◌, ◌<◌, ◌≤◌, length, get_or}
use Rattle.std.proofs.Common.{sym, ap, ap₂, ◌∙◌, mod-lt, zero-lt-suc, not-suc-le-zero, le_of_suc-le-suc, mul_assoc, arith, pow_pos, pow-add, shr-shr}
use Rattle.std.proofs.Math.Nat.{mod-one}
use Rattle.std.proofs.lemmas.Nat.{mod-pow-add}
use Rattle.slices.specs.Lists.{rows, row}
use Rattle.slices.specs.Tab.{length_rows}
use Rattle.slices.specs.Bytes.{Bytes, nil_bytes, cons_bytes, tail_bytes, rows_bytes}

unfoldable pub number : List ℕ → ℕ
number [] = 0
number (b ∷ s) = b + 256 * number s

unfoldable pub bytes_of : ℕ → ℕ → List ℕ
bytes_of zero x = []
bytes_of (suc n) x = x % 256 ∷ bytes_of n (x / 256)

-- number k of a list, where a number has w bytes
abbrev pub number_at : ℕ → ℕ → List ℕ → ℕ
number_at w k s = number (row w k s)

-- the numbers f 0, .. f (n - 1), of w bytes each
abbrev pub numbers : ℕ → ℕ → (ℕ → ℕ) → List ℕ
numbers w n f = rows (λ k. bytes_of w (f k)) n

-- ---- the bytes of a number

pub length_bytes_of : (n x : ℕ) → length (bytes_of n x) ≡ n
unfolding bytes_of
length_bytes_of zero x = refl
length_bytes_of (suc n) x = ap suc (length_bytes_of n (x / 256))

pub bytes_of_bytes : (n x : ℕ) → Bytes (bytes_of n x)
unfolding bytes_of
bytes_of_bytes zero x = nil_bytes
bytes_of_bytes (suc n) x = cons_bytes (mod-lt x (zero-lt-suc 255)) (bytes_of_bytes n (x / 256))

eight : (n : ℕ) → 8 * suc n ≡ 8 + 8 * n
eight n = omega arith

pow_eight : (n : ℕ) → 2 ^ (8 * suc n) ≡ 256 * 2 ^ (8 * n)
pow_eight n = ap (2 ^◌) (eight n) ∙ pow-add 2 8 (8 * n)

-- byte i
pub get_d_bytes_of : (n x i : ℕ) → i < n → get_or (bytes_of n x) i 0 ≡ x / 2 ^ (8 * i) % 256
unfolding bytes_of
get_d_bytes_of zero x i h = absurd (not-suc-le-zero h)
get_d_bytes_of (suc n) x zero h = ap (◌% 256) (omega arith)
get_d_bytes_of (suc n) x (suc i) h =
    get_d_bytes_of n (x / 256) i (le_of_suc-le-suc h) ∙ ap (◌% 256) (shr-shr x 8 (8 * i) ∙ ap (λ k. x / 2 ^ k) (sym (eight i)))

-- one byte more
pub bytes_of_snoc : (n x : ℕ) → bytes_of (suc n) x ≡ bytes_of n x ++ (x / 2 ^ (8 * n) % 256 ∷ [])
unfolding bytes_of
bytes_of_snoc zero x = ap (λ y. y % 256 ∷ []) (omega arith)
bytes_of_snoc (suc n) x =
    ap (x % 256 ∷◌)
    (bytes_of_snoc n (x / 256) ∙ ap (λ y. bytes_of n (x / 256) ++ (y % 256 ∷ [])) (shr-shr x 8 (8 * n) ∙ ap (λ k. x / 2 ^ k) (sym (eight n))))

-- ---- the number of a list

pub number_lt : (s : List ℕ) (w : ℕ) → Bytes s → length s ≤ w → number s < 2 ^ (8 * w)
unfolding number
number_lt [] w p l = pow_pos (8 * w)
number_lt (b ∷ s) zero p l = absurd (omega arith)
number_lt (b ∷ s) (suc w) p l = omega (arith, number_lt s w (tail_bytes p) (omega arith), p.lt 0, pow_eight w)

-- of two lists, one behind the other
pub number_append : (s t : List ℕ) → number (s ++ t) ≡ number s + 2 ^ (8 * length s) * number t
unfolding number
number_append [] t = omega arith
number_append (b ∷ s) t =
    let more : 2 ^ (8 * suc (length s)) * number t ≡ 256 * (2 ^ (8 * length s) * number t) =
    ap (◌* number t) (pow_eight (length s)) ∙ mul_assoc 256 (2 ^ (8 * length s)) (number t) in
    omega (arith, number_append s t, more)

-- ---- there and back

pub number_bytes_of : (n x : ℕ) → number (bytes_of n x) ≡ x % 2 ^ (8 * n)
unfolding number bytes_of
number_bytes_of zero x = sym (mod-one x)
number_bytes_of (suc n) x =
    ap (λ y. x % 256 + 256 * y) (number_bytes_of n (x / 256)) ∙ omega (arith, split)
  where
    split : x % 2 ^ (8 * suc n) ≡ x / 256 % 2 ^ (8 * n) * 256 + x % 256
    split = ap (λ k. x % 2 ^ k) swap ∙ mod-pow-add x (8 * n) 8
      where
        swap : 8 * suc n ≡ 8 * n + 8
        swap = omega arith

pub bytes_of_number : (s : List ℕ) (n : ℕ) → Bytes s → length s ≡ n → bytes_of n (number s) ≡ s
unfolding number bytes_of
bytes_of_number [] zero p e = refl
bytes_of_number [] (suc n) p e = absurd (omega arith)
bytes_of_number (b ∷ s) zero p e = absurd (omega arith)
bytes_of_number (b ∷ s) (suc n) p e =
    let h : b < 256 = p.lt 0 in
    let low : (b + 256 * number s) % 256 ≡ b = omega arith in
    let high : (b + 256 * number s) / 256 ≡ number s = omega arith in
    ap₂ ◌∷◌ low (ap (bytes_of n) high ∙ bytes_of_number s n (tail_bytes p) (omega arith))

-- ---- many numbers

pub length_numbers : (w n : ℕ) (f : ℕ → ℕ) → length (numbers w n f) ≡ n * w
length_numbers w n f = length_rows w (λ k. bytes_of w (f k)) n (λ k l. length_bytes_of w (f k))

pub numbers_bytes : (w n : ℕ) (f : ℕ → ℕ) → Bytes (numbers w n f)
numbers_bytes w n f = rows_bytes (λ k. bytes_of w (f k)) n (λ k l. bytes_of_bytes w (f k))
