-- The loop that sums elements picked by bits, and the entries of two tables of combinations. Assumes nothing.
use Rattle.std.proofs.Common.{◌≡◌, sym, ap, List, ◌++◌, ℕ, suc, ◌+◌, ◌-◌, ◌*◌, ◌/◌, ◌%◌, ◌<◌, ◌≤◌, length, get_or, take, drop, add-one, arith, take_all, drop-cons, length-drop}
use Rattle.std.proofs.Math.ListN.{drop_of_length-le}
use Rattle.std.specs.Int.Bits.{bit_xor, xor_zero_r}
use Rattle.slices.specs.Lists.{tab}
use Rattle.slices.specs.Xor.{xor_assoc}
use Rattle.field.specs.Linear.{pick, combine}
use Rattle.tables.specs.Tables.{halves}

-- ---- a combination of the elements from i on: the sum so far, and what the rest of the bits add to it

module _ (p : List ℕ) where
  pub combine_turn : (i s v : ℕ) {s' : ℕ} → i < length p → s' ≡ bit_xor s (pick (v % 2) (get_or p i 0))
      → bit_xor s' (combine (drop (i + 1) p) (v / 2)) ≡ bit_xor s (combine (drop i p) v)
  unfolding combine
  combine_turn i s v h q = rw (drop-cons p i 0 h, add-one, q) (xor_assoc s (pick (v % 2) (get_or p i 0)) (combine (drop (suc i) p) (v / 2)))

  pub combine_end : (i s v : ℕ) → length p ≤ i → s ≡ bit_xor s (combine (drop i p) v)
  unfolding combine
  combine_end i s v h = rw (drop_of_length-le p h) (sym (xor_zero_r s))

-- ---- entry n of the two tables, of the four elements that the code cuts out

abbrev pub entry : List ℕ → ℕ → ℕ
entry p n = let a = n / 16 * 4 in combine (take (a + 4 - a) (drop a p)) (n % 16)

pub entries : (p : List ℕ) → length p ≡ 8 → tab (entry p) 32 ≡ halves p
unfolding halves
entries p h =
    ap (λ (q : List ℕ). tab (combine (take 4 p)) 16 ++ tab (combine q) 16) (take_all 4 (drop 4 p) (omega (arith, length-drop 4 p)))
