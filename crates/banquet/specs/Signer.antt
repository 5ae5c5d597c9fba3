-- One execution as the holder of the key runs it: all seeds and tapes below a root seed, and the offsets.
use Rattle.std.specs.Prelude.{List, ℕ, suc, ◌+◌, get_or}
use Rattle.std.specs.Int.Bits.{bit_xor}
use Rattle.slices.specs.Lists.{sum_xor, zip_xor}
use Rattle.slices.specs.Numbers.{number_at, numbers}
use Rattle.poly.specs.Sum.{sum}
use Rattle.poly.specs.Balance.{values_s, values_t}
use Rattle.banquet.specs.Shape.{sbox_at, product_points}
use Rattle.banquet.specs.Scheme.{Scheme, wide_ops, wide_mul, lifted, true_inverses}
use Rattle.banquet.specs.Hash.{tape}
use Rattle.banquet.specs.Tree.{leaves, seed_at}
use Rattle.banquet.specs.Execution.{Committed, through, tape_key, tape_inverses, tape_s, tape_t, tape_product}

-- The parties' seeds and tapes.
module _ (𝓢 : Scheme) (salt root : List ℕ) (e : ℕ) where
  abbrev pub seed_of : ℕ → List ℕ
  seed_of i = seed_at (leaves 𝓢.hash salt e 𝓢.shape.depth 0 root) i

  abbrev pub tape_of : ℕ → List ℕ
  tape_of i = tape 𝓢 salt e i (seed_of i)

-- The true lifted input and inverse of S-box j+10k.
module _ (𝓢 : Scheme) (front key : List ℕ) where
  abbrev pub true_input : ℕ → ℕ → ℕ
  true_input j k = lifted 𝓢 (get_or (𝓢.circuit.sbox_inputs front key) (sbox_at 𝓢.shape j k) 0)

  abbrev pub true_inverse : ℕ → ℕ → ℕ
  true_inverse j k = lifted 𝓢 (get_or (true_inverses 𝓢 front key) (sbox_at 𝓢.shape j k) 0)

-- The true extra points are the sums of the tapes'.
module _ (𝓢 : Scheme) (tapes : ℕ → List ℕ) where
  open 𝓢.shape use {parties}

  abbrev pub true_extra_s : ℕ → ℕ
  true_extra_s j = sum (wide_ops 𝓢) parties (λ i. tape_s 𝓢 (tapes i) j)

  abbrev pub true_extra_t : ℕ → ℕ
  true_extra_t j = sum (wide_ops 𝓢) parties (λ i. tape_t 𝓢 (tapes i) j)

-- "An offset is the true value plus the sum of tape shares."
module _ (𝓢 : Scheme) (tapes : ℕ → List ℕ) (front key : List ℕ) where
  open 𝓢.shape use {parties, wide, m1, m2}

  abbrev pub own_committed : Committed
  own_committed = record {
    front = front;
    key_offset = zip_xor key (sum_xor parties (λ i. tape_key 𝓢 (tapes i)));
    inverse_offsets = zip_xor (true_inverses 𝓢 front key) (sum_xor parties (λ i. tape_inverses 𝓢 (tapes i)));
  }

  -- "S_j(k) = r_j times the lifted input of S-box j+10k for k below 20, and S_j(20) the extra point. T_j likewise with lifted inverses, without
  -- r_j.": S_j and T_j at u
  abbrev pub true_t : ℕ → ℕ → ℕ
  true_t j u = through 𝓢 (suc m2) (values_t m2 (true_inverse 𝓢 front key) (true_extra_t 𝓢 tapes) j) u

  module _ (first_bytes : List ℕ) where
    abbrev pub true_s : ℕ → ℕ → ℕ
    true_s j u =
        through 𝓢 (suc m2) (values_s (wide_ops 𝓢) m2 (λ j. number_at wide j first_bytes) (true_input 𝓢 front key) (true_extra_s 𝓢 tapes) j) u

    -- "P is the sum of S_j times T_j."
    abbrev pub true_p : ℕ → ℕ
    true_p u = sum (wide_ops 𝓢) m1 (λ j. wide_mul 𝓢 (true_s j u) (true_t j u))

    unfoldable pub product_offset_at : ℕ → ℕ
    product_offset_at k = bit_xor (true_p k) (sum (wide_ops 𝓢) parties (λ i. tape_product 𝓢 (tapes i) k))

    -- at the points 20 to 40
    unfoldable pub product_offsets : List ℕ
    product_offsets = numbers wide (product_points 𝓢.shape) (λ n. product_offset_at (m2 + n))
