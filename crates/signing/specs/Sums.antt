-- The sum of all parties' rows of shares has, behind the output, the bytes of the sums of c, a and b. Assumes nothing.
use Rattle.std.specs.Prelude.{◌≡◌, List, [], ◌∷◌, ◌++◌, length, drop}
use Rattle.std.proofs.Math.Path.{refl, sym, ap}
use Rattle.std.proofs.Common.{ap₂, ◌∙◌, append_assoc, arith, length-append}
use Prim.Native.Nat.{ℕ, zero, suc, ◌+◌, ◌*◌, ◌/◌, ◌<◌}
use Rattle.std.specs.Int.Bits.{bit_xor, xor_zero_l}
use Rattle.std.proofs.lemmas.Nat.{xor_shr, xor_mod}
use Rattle.std.proofs.Math.Seq.{drop-nil, drop_at}
use Rattle.slices.specs.Lists.{rows, zip_xor, sum_xor}
use Rattle.slices.specs.Tab.{length_rows, rows_cong}
use Rattle.slices.specs.Sums.{length_zip, zip_append, drop_zip, sum_xor_cong}
use Rattle.slices.specs.Numbers.{bytes_of, numbers, length_bytes_of, length_numbers}
use Rattle.poly.specs.Sum.{sum}
use Rattle.field.specs.Wide.{ops}
use Rattle.banquet.specs.declared.Shape.{Shape}
use Rattle.banquet.specs.Scheme.{wide_ops}
use Rattle.banquet.specs.Sets.{scheme_of}
use Rattle.banquet.specs.Execution.{Committed, Challenge, output_share, opened_c, opened_a, opened_b}
use Rattle.banquet.specs.Signature.{opened_bytes}
use Rattle.sets.specs.Circuit.{output_long}
use Rattle.forms.specs.Party.{share_row}

-- ---- the sum of lists, cut and joined

pub drop_sum : (k n : ℕ) (f : ℕ → List ℕ) → drop k (sum_xor n f) ≡ sum_xor n (λ i. drop k (f i))
unfolding sum_xor
drop_sum k zero f = drop-nil k
drop_sum k (suc n) f = drop_zip k (sum_xor n f) (f n) ∙ ap (λ s. zip_xor s (drop k (f n))) (drop_sum k n f)

module _ (m : ℕ) where
  length_sum : (n : ℕ) (f : ℕ → List ℕ) → ((i : ℕ) → length (f i) ≡ m) → length (sum_xor (suc n) f) ≡ m
  unfolding sum_xor zip_xor
  length_sum zero f h = h 0
  length_sum (suc n) f h = length_zip m (sum_xor (suc n) f) (f (suc n)) (length_sum n f h) (h (suc n))

  sum_append : (n : ℕ) (f g : ℕ → List ℕ) → ((i : ℕ) → length (f i) ≡ m) → sum_xor n (λ i. f i ++ g i) ≡ sum_xor n f ++ sum_xor n g
  unfolding sum_xor zip_xor
  sum_append zero f g h = refl
  sum_append (suc zero) f g h = refl
  sum_append (suc (suc n)) f g h =
      ap (λ s. zip_xor s (f (suc n) ++ g (suc n))) (sum_append (suc n) f g h)
      ∙ sym (zip_append (sum_xor (suc n) f) (f (suc n)) (sum_xor (suc n) g) (g (suc n)) (length_sum n f h ∙ sym (h (suc n))))

sum_nil : (n : ℕ) → sum_xor n (λ i. []) ≡ []
unfolding sum_xor zip_xor
sum_nil zero = refl
sum_nil (suc n) = ap (λ s. zip_xor s []) (sum_nil n)

-- rows of w elements, added row by row
sum_rows : (m w n : ℕ) (f : ℕ → ℕ → List ℕ) → ((i j : ℕ) → length (f i j) ≡ w)
    → sum_xor n (λ i. rows (f i) m) ≡ rows (λ j. sum_xor n (λ i. f i j)) m
sum_rows zero w n f h = sum_nil n
sum_rows (suc m) w n f h =
    sum_append (m * w) n (λ i. rows (f i) m) (λ i. f i m) (λ i. length_rows w (f i) m (λ j l. h i j))
    ∙ ap (◌++ sum_xor n (λ i. f i m)) (sum_rows m w n f h)

-- ---- the bytes of a sum are the sum of the bytes

bytes_xor : (w x y : ℕ) → bytes_of w (bit_xor x y) ≡ zip_xor (bytes_of w x) (bytes_of w y)
unfolding bytes_of zip_xor
bytes_xor zero x y = refl
bytes_xor (suc w) x y = ap₂ ◌∷◌ (xor_mod x y 8) (ap (bytes_of w) (xor_shr x y 8) ∙ bytes_xor w (x / 256) (y / 256))

module _ (w low : ℕ) where
  sum_number : (n : ℕ) (x : ℕ → ℕ) → sum_xor (suc n) (λ i. bytes_of w (x i)) ≡ bytes_of w (sum (ops (8 * w) low) (suc n) x)
  unfolding sum_xor zip_xor sum
  sum_number zero x = ap (bytes_of w) (sym (xor_zero_l (x 0)))
  sum_number (suc n) x =
      ap (λ s. zip_xor s (bytes_of w (x (suc n)))) (sum_number n x) ∙ sym (bytes_xor w (sum (ops (8 * w) low) (suc n) x) (x (suc n)))

  sum_one : (n : ℕ) → 0 < n → (x : ℕ → ℕ) → sum_xor n (λ i. bytes_of w (x i)) ≡ bytes_of w (sum (ops (8 * w) low) n x)
  sum_one zero l x = absurd (omega arith)
  sum_one (suc n) l x = sum_number n x

  sum_numbers : (n m : ℕ) → 0 < n → (x : ℕ → ℕ → ℕ)
      → sum_xor n (λ i. numbers w m (x i)) ≡ numbers w m (λ j. sum (ops (8 * w) low) n (λ i. x i j))
  sum_numbers n m l x =
      sum_rows m w n (λ i j. bytes_of w (x i j)) (λ i j. length_bytes_of w (x i j)) ∙ rows_cong m (λ j k. sum_one n l (λ i. x i j))

-- ---- c, a and b of all parties, and their sums

module _ (S : Shape) (x : Committed) (d : Challenge) (t : ℕ → List ℕ) where
  open S use {parties, wide, low, m1}

  abbrev share_c : ℕ → ℕ
  share_c i = opened_c (scheme_of S) i (t i) d

  abbrev share_a : ℕ → ℕ → ℕ
  share_a i = opened_a (scheme_of S) x i (t i) d

  abbrev share_b : ℕ → ℕ → ℕ
  share_b i = opened_b (scheme_of S) x i (t i) d

  abbrev row_of : ℕ → List ℕ
  row_of i = share_row (scheme_of S) x d i (t i)

  opened_row : (i : ℕ) → drop 16 (row_of i) ≡ opened_bytes (scheme_of S) (share_c i) (share_a i) (share_b i)
  unfolding share_row
  opened_row i =
      drop_at (output_share (scheme_of S) x i (t i)) _ 16 (output_long S x i (t i))
      ∙ sym (append_assoc (bytes_of wide (share_c i)) (numbers wide m1 (share_a i)) (numbers wide m1 (share_b i)))

  pub opened_rows : rows (λ i. drop 16 (row_of i)) parties ≡ rows (λ i. opened_bytes (scheme_of S) (share_c i) (share_a i) (share_b i)) parties
  opened_rows = rows_cong parties (λ i l. opened_row i)

  abbrev bytes_c : ℕ → List ℕ
  bytes_c i = bytes_of wide (share_c i)

  abbrev bytes_a : ℕ → List ℕ
  bytes_a i = numbers wide m1 (share_a i)

  length_ca : (i : ℕ) → length (bytes_c i ++ bytes_a i) ≡ wide + m1 * wide
  length_ca i = length-append (bytes_c i) (bytes_a i) ∙ ap₂ ◌+◌ (length_bytes_of wide (share_c i)) (length_numbers wide m1 (share_a i))

  pub opened_sums : 0 < parties → drop 16 (sum_xor parties row_of)
      ≡ opened_bytes (scheme_of S) (sum (wide_ops (scheme_of S)) parties share_c) (λ j. sum (wide_ops (scheme_of S)) parties (λ i. share_a i j))
      (λ j. sum (wide_ops (scheme_of S)) parties (λ i. share_b i j))
  opened_sums some =
      drop_sum 16 parties row_of ∙ sum_xor_cong parties (λ i l. opened_row i)
      ∙ sum_append (wide + m1 * wide) parties (λ i. bytes_c i ++ bytes_a i) (λ i. numbers wide m1 (share_b i)) length_ca
      ∙ ap₂ ◌++◌
      (sum_append wide parties bytes_c bytes_a (λ i. length_bytes_of wide (share_c i))
      ∙ ap₂ ◌++◌ (sum_one wide low parties some share_c) (sum_numbers wide low parties m1 some share_a))
      (sum_numbers wide low parties m1 some share_b)
