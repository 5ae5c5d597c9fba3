-- Dot products of fixed coefficients with lifted bytes, by tables. A lift is a combination of the powers of y, so coefficient times lift(b)
-- is linear in b: it is the sum of an entry for the low four bits of b and one for the high four, in two tables of 16 entries for each
-- coefficient. With Lagrange's values as coefficients the sum is a value of the interpolating polynomial. Assumes nothing.
use Rattle.std.specs.Prelude.{◌≡◌, List, ◌++◌, map, take, drop}
use Rattle.std.proofs.Math.Path.{refl, sym, ap, ap₂}
use Rattle.std.proofs.Common.{◌∙◌, arith, length-take, take-append-drop, get_or-append-add}
use Prim.Native.Nat.{ℕ, zero, suc, ◌+◌, ◌*◌, ◌/◌, ◌%◌, ◌^◌, ◌≤◌, ◌<◌}
use Rattle.std.specs.Int.Bits.{bit_xor}
use Rattle.std.proofs.Math.ListN.{length, get_or, get_or-append}
use Rattle.slices.specs.Lists.{tab, rows}
use Rattle.slices.specs.Tab.{length_tab, tab_map, get_d_tab, get_d_rows}
use Rattle.poly.specs.Index.{at, at_same, at_other}
use Rattle.poly.specs.Field.{BinaryField}
use Rattle.poly.specs.Sum.{sum, sum_cong}
use Rattle.field.specs.Linear.{combine, combine_map, combine_append, combine_low}
use Rattle.field.specs.Ring.{mul}
use Rattle.field.specs.Wide.{ops, Element}
use Rattle.lagrange.specs.Values.{interpolated, lagrange_value}
use Rattle.lagrange.proofs.Laws.{sum_interpolated}

-- the two tables of eight numbers: the combinations of the first four, and of the last four
unfoldable pub halves : List ℕ → List ℕ
halves p = tab (combine (take 4 p)) 16 ++ tab (combine (drop 4 p)) 16

-- the tables of a coefficient c, where the lift of a byte is the combination of these powers
unfoldable pub table_of : ℕ → ℕ → List ℕ → ℕ → List ℕ
table_of w low powers c = halves (map (mul w low c) powers)

-- the sum of the entries for the bytes f k in the tables of coefficient k, k < n
unfoldable pub tabled : ℕ → (ℕ → ℕ) → List ℕ → ℕ
tabled zero f t = 0
tabled (suc n) f t = bit_xor (tabled n f t) (bit_xor (get_or t (n * 32 + f n % 16) 0) (get_or t (n * 32 + (16 + f n / 16)) 0))

-- ---- laws

length_halves : (p : List ℕ) → length (halves p) ≡ 32
unfolding halves
length_halves p = refl

-- the two entries for a byte
halves_sum : (p : List ℕ) (b : ℕ) → length p ≡ 8 → b < 256
    → bit_xor (get_or (halves p) (b % 16) 0) (get_or (halves p) (16 + b / 16) 0) ≡ combine p b
unfolding halves
halves_sum p b size h =
    ap₂ bit_xor
    (get_or-append (tab (combine (take 4 p)) 16) (tab (combine (drop 4 p)) 16) 0 (b % 16) (omega arith)
    ∙ get_d_tab (combine (take 4 p)) 16 (b % 16) 0 (omega arith) ∙ low)
    (get_or-append-add (tab (combine (take 4 p)) 16) (tab (combine (drop 4 p)) 16) (b / 16) 0
    ∙ get_d_tab (combine (drop 4 p)) 16 (b / 16) 0 (omega arith))
    ∙ ap (λ n. bit_xor (combine (take 4 p) b) (combine (drop 4 p) (b / 2 ^ n))) (sym four)
    ∙ sym (combine_append (take 4 p) (drop 4 p) b) ∙ ap (λ q. combine q b) (take-append-drop 4 p)
  where
    four : length (take 4 p) ≡ 4
    four = length-take 4 p ∙ omega arith

    low : combine (take 4 p) (b % 16) ≡ combine (take 4 p) b
    low = ap (λ n. combine (take 4 p) (b % 2 ^ n)) (sym four) ∙ combine_low (take 4 p) b

module _ (w low : ℕ) (F : BinaryField (ops w low) (Element w)) (powers : List ℕ) (eight : length powers ≡ 8) (f : ℕ → ℕ)
    (bytes : (k : ℕ) → f k < 256) where
  module _ (c : ℕ → ℕ) where
    entries : (n k : ℕ) {t : List ℕ} → t ≡ rows (λ k. table_of w low powers (c k)) n → k < n
        → bit_xor (get_or t (k * 32 + f k % 16) 0) (get_or t (k * 32 + (16 + f k / 16)) 0) ≡ mul w low (combine powers (f k)) (c k)
    unfolding table_of
    entries n k {t} e l =
        ap₂ bit_xor (entry (f k % 16) (omega (arith, bytes k))) (entry (16 + f k / 16) (omega (arith, bytes k)))
        ∙ halves_sum (map (mul w low (c k)) powers) (f k) (ap length (sym (tab_map _ powers)) ∙ length_tab _ _ ∙ eight) (bytes k)
        ∙ sym (combine_map (record { adds = F.mul_add (c k) }) powers (f k)) ∙ F.mul_comm (c k) _
      where
        entry : (i : ℕ) → i < 32 → get_or t (k * 32 + i) 0 ≡ get_or (table_of w low powers (c k)) i 0
        entry i h = ap (λ t. get_or t (k * 32 + i) 0) e ∙ get_d_rows 32 (λ k. table_of w low powers (c k)) n (λ j m. length_halves _) k i l h

    -- the tables give the sum of the lifted bytes times the coefficients
    pub tabled_dot : (m : ℕ) {t : List ℕ} → t ≡ rows (λ k. table_of w low powers (c k)) m → (n : ℕ) → n ≤ m
        → tabled n f t ≡ sum (ops w low) n (λ k. mul w low (combine powers (f k)) (c k))
    unfolding tabled sum
    tabled_dot m e zero l = refl
    tabled_dot m e (suc n) l = ap₂ bit_xor (tabled_dot m e n (omega arith)) (entries m n e (omega arith))

  -- With Lagrange's values as coefficients: the value at x of the polynomial through n lifted bytes, and through s at point n.
  pub tabled_interpolated : (n x : ℕ) → n < 2 ^ w → Element w x → (s : ℕ) {t : List ℕ}
      → t ≡ rows (λ k. table_of w low powers (lagrange_value w low (suc n) x k)) n
      → bit_xor (tabled n f t) (mul w low s (lagrange_value w low (suc n) x n))
      ≡ interpolated w low (suc n) (λ k. at k n s (combine powers (f k))) x
  unfolding sum
  tabled_interpolated n x points h s e =
      let c = lagrange_value w low (suc n) x in
      ap₂ bit_xor
      (tabled_dot c n e n (omega arith)
      ∙ sum_cong (ops w low) n (λ k l. ap (λ a. mul w low a (c k)) (sym (at_other k n s (combine powers (f k)) (omega arith)))))
      (ap (λ a. mul w low a (c n)) (sym (at_same n n s (combine powers (f n)) refl)))
      ∙ sum_interpolated w low F (suc n) (omega arith) x h (λ k. at k n s (combine powers (f k)))
