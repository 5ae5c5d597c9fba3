-- A sum of lists, one of which may be missing, in its fields and numbers. Assumes nothing.
use Rattle.std.specs.Prelude.{◌≡◌, refl, Bool, true, false, ℕ, ◌*◌, ◌^◌, ◌<◌, ◌≤◌, eqb, length, take, drop}
use Rattle.std.proofs.Math.Path.{sym, ap}
use Rattle.std.proofs.Common.{ap₂, ◌∙◌, arith, take-append-drop, length-drop, take_all}
use mathlib.Core.List.{List, [], ◌∷◌, ◌++◌}
use Rattle.std.proofs.Math.Nat.{mod-eq_of_lt}
use Rattle.std.specs.Int.Bits.{bit_xor}
use Rattle.slices.specs.Lists.{choose, tab, row, zip_xor, sum_xor}
use Rattle.slices.specs.Tab.{rows_cong, rows_of}
use Rattle.slices.specs.Bytes.{Bytes, Sized, nil_bytes}
use Rattle.slices.specs.Sums.{sum_xor_cong, sum_bytes, zip_bytes, length_zip_sum}
use Rattle.slices.specs.Numbers.{number, number_at, numbers, bytes_of, length_bytes_of, bytes_of_bytes, number_bytes_of, bytes_of_number, length_numbers, numbers_bytes}
use Rattle.slices.proofs.Numbers.{number_at_numbers_lt}
use Rattle.slices.specs.Layout.{total, field, layout, field_nil}
use Rattle.poly.specs.Index.{at, at_cases}
use Rattle.poly.specs.Sum.{sum, sum_cong}
use Rattle.field.specs.Wide.{ops}
use Rattle.forms.specs.Point.{sum_xor_lem}
use Rattle.forms.specs.Linear.{part_nil, field_zip, field_sum, number_zip, number_sum, number_at_zip, number_at_sum}
use Rattle.forms.specs.Stated.{sized_row}

-- ---- a value at one index, and another elsewhere

pub at_map : {C D : Type 0} (g : C → D) (i k : ℕ) (a b : C) → g (at i k a b) ≡ at i k (g a) (g b)
unfolding at
at_map g i k a b = go (eqb i k)
  where
    go : (t : Bool) → g (choose t a b) ≡ choose t (g a) (g b)
    go true = refl
    go false = refl

at_less : {size : ℕ} (i k : ℕ) (s : List ℕ) → length s ≡ size → length (at i k [] s) ≤ size
at_less {size} i k s h = at_cases (λ x. length x ≤ size) i k [] s (λ e. omega arith) (λ n. omega arith)

at_bytes : (i k : ℕ) {s : List ℕ} → Bytes s → Bytes (at i k [] s)
at_bytes i k {s} h = at_cases Bytes i k [] s (λ e. nil_bytes) (λ n. h)

-- ---- a list is made of its fields, and bytes of the numbers that they are

pub layout_fields : (sizes : List ℕ) (s : List ℕ) → length s ≡ total sizes → s ≡ layout (tab (λ k. field sizes k s) (length sizes))
unfolding layout field
layout_fields [] [] h = refl
layout_fields [] (x ∷ s) h = absurd (omega arith)
layout_fields (n ∷ sizes) s h =
    sym (take-append-drop n s) ∙ ap (take n s ++◌) (layout_fields sizes (drop n s) (omega (arith, length-drop n s)))

pub numbers_back : (w n : ℕ) {s : List ℕ} → Sized (n * w) s → numbers w n (λ j. number_at w j s) ≡ s
numbers_back w n {s} z =
    rows_cong n (λ k l. let r = sized_row w n z k l in bytes_of_number (row w k s) w r.bytes r.size)
    ∙ sym (rows_of w n s) ∙ take_all (n * w) s (omega (arith, z.size))

number_at_nil : (w j : ℕ) → number_at w j [] ≡ 0
unfolding number
number_at_nil w j = ap number (part_nil (j * w) w)

-- ---- what n lists, but for the one at h, leave of a whole

module _ (n h : ℕ) where
  abbrev left : List ℕ → (ℕ → List ℕ) → List ℕ
  left whole f = zip_xor whole (sum_xor n (λ i. at i h [] (f i)))

  pub field_left : (sizes : List ℕ) (k : ℕ) (whole : List ℕ) (f : ℕ → List ℕ)
      → field sizes k (left whole f) ≡ left (field sizes k whole) (λ i. field sizes k (f i))
  field_left sizes k whole f =
      field_zip sizes k whole (sum_xor n (λ i. at i h [] (f i)))
      ∙ ap (zip_xor (field sizes k whole))
      (field_sum sizes k n (λ i. at i h [] (f i))
      ∙ sum_xor_cong n (λ i l. at_map (field sizes k) i h [] (f i) ∙ ap (λ (x : List ℕ). at i h x (field sizes k (f i))) (field_nil sizes k)))

  pub length_left : {size : ℕ} (whole : List ℕ) (f : ℕ → List ℕ) → length whole ≡ size → ((i : ℕ) → i < n → length (f i) ≡ size)
      → length (left whole f) ≡ size
  length_left {size} whole f z zs = length_zip_sum size n whole (λ i. at i h [] (f i)) z (λ i l. at_less i h (f i) (zs i l))

  sized_left : (size : ℕ) {whole : List ℕ} {f : ℕ → List ℕ} → Sized size whole → ((i : ℕ) → i < n → Sized size (f i))
      → Sized size (left whole f)
  sized_left size {whole} {f} z zs = record {
    size = length_left whole f z.size (λ i l. (zs i l).size);
    bytes = zip_bytes z.bytes (sum_bytes n (λ i l. at_bytes i h (zs i l).bytes));
  }

  -- of numbers of w bytes
  module _ (w low : ℕ) where
    abbrev left_of : ℕ → (ℕ → ℕ) → ℕ
    left_of whole x = bit_xor whole (sum (ops (8 * w) low) n (λ i. at i h 0 (x i)))

    pub number_left : {whole : List ℕ} (x : ℕ → ℕ) → Sized w whole → ((i : ℕ) → i < n → x i < 2 ^ (8 * w))
        → left whole (λ i. bytes_of w (x i)) ≡ bytes_of w (left_of (number whole) x)
    unfolding number
    number_left {whole} x z b =
        sym (bytes_of_number (left whole (λ i. bytes_of w (x i))) w s.bytes s.size)
        ∙ ap (bytes_of w)
        (number_zip whole (sum_xor n (λ i. at i h [] (bytes_of w (x i)))) z.bytes (sum_bytes n (λ i l. at_bytes i h (bytes_of_bytes w (x i))))
        ∙ ap (bit_xor (number whole))
        (number_sum n (λ i. at i h [] (bytes_of w (x i))) (λ i l. at_bytes i h (bytes_of_bytes w (x i)))
        ∙ sym (sum_xor_lem (8 * w) low n (λ i. number (at i h [] (bytes_of w (x i)))))
        ∙ sum_cong (ops (8 * w) low) n (λ i l. at_map number i h [] (bytes_of w (x i))
        ∙ ap (at i h (number [])) (number_bytes_of w (x i) ∙ mod-eq_of_lt (b i l)))))
      where
        s : Sized w (left whole (λ i. bytes_of w (x i)))
        s = sized_left w z (λ i l. record { size = length_bytes_of w (x i); bytes = bytes_of_bytes w (x i) })

    pub numbers_left : (m : ℕ) {whole : List ℕ} (x : ℕ → ℕ → ℕ) → Sized (m * w) whole → ((i : ℕ) → i < n → (j : ℕ) → x i j < 2 ^ (8 * w))
        → left whole (λ i. numbers w m (x i)) ≡ numbers w m (λ j. left_of (number_at w j whole) (λ i. x i j))
    numbers_left m {whole} x z b =
        sym (numbers_back w m s)
        ∙ rows_cong m (λ j k. ap (bytes_of w)
        (number_at_zip w j z.bytes (sum_bytes n (λ i l. at_bytes i h (numbers_bytes w m (x i))))
        ∙ ap (bit_xor (number_at w j whole))
        (number_at_sum w j n (λ i. at i h [] (numbers w m (x i))) (λ i l. at_bytes i h (numbers_bytes w m (x i)))
        ∙ sym (sum_xor_lem (8 * w) low n (λ i. number_at w j (at i h [] (numbers w m (x i)))))
        ∙ sum_cong (ops (8 * w) low) n (λ i l. at_map (number_at w j) i h [] (numbers w m (x i))
        ∙ ap₂ (at i h) (number_at_nil w j) (number_at_numbers_lt w m (x i) j k (b i l j))))))
      where
        s : Sized (m * w) (left whole (λ i. numbers w m (x i)))
        s = sized_left (m * w) z (λ i l. record { size = length_numbers w m (x i); bytes = numbers_bytes w m (x i) })
