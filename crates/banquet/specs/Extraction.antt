-- What the tapes of all parties give, and the parts of an opening of which demand 3 speaks. Its statement is in `theorems`.
use Rattle.std.specs.Prelude.{List, ℕ, suc, get_or, take, drop}
use Rattle.slices.specs.Lists.{sum_xor, zip_xor}
use Rattle.poly.specs.Sum.{sum}
use Rattle.poly.specs.Balance.{values_s, values_t, values_p, check_poly}
use Rattle.banquet.specs.Shape.{sbox_at}
use Rattle.banquet.specs.Scheme.{Scheme, wide_ops, lifted}
use Rattle.banquet.specs.Execution.{Committed, Challenge, tape_key, tape_inverses, tape_s, tape_t, input_shares, product_at}
use Rattle.banquet.specs.Opening.{shown_seed}
use Rattle.banquet.specs.Figures.{Figures}

-- ---- what all parties' tapes give

module _ (𝓢 : Scheme) (tapes : ℕ → List ℕ) where
  open 𝓢.shape use {parties}

  abbrev pub given_s : ℕ → ℕ
  given_s j = sum (wide_ops 𝓢) parties (λ i. tape_s 𝓢 (tapes i) j)

  abbrev pub given_t : ℕ → ℕ
  given_t j = sum (wide_ops 𝓢) parties (λ i. tape_t 𝓢 (tapes i) j)

  -- P at the points 20 to 40, "from its shares"
  abbrev pub given_product : Challenge → ℕ → ℕ
  given_product d k = sum (wide_ops 𝓢) parties (λ i. product_at 𝓢 i (tapes i) d k)

module _ (𝓢 : Scheme) (x : Committed) (tapes : ℕ → List ℕ) where
  open 𝓢.shape use {parties, m1, m2}

  -- "The key given is the key offset plus all key shares; inverses likewise"
  unfoldable pub given_key : List ℕ
  given_key = zip_xor x.key_offset (sum_xor parties (λ i. tape_key 𝓢 (tapes i)))

  unfoldable pub given_inverses : List ℕ
  given_inverses = zip_xor x.inverse_offsets (sum_xor parties (λ i. tape_inverses 𝓢 (tapes i)))

  -- "S-box inputs are the sums of the input shares, extra points those of s and t."
  unfoldable pub given_inputs : List ℕ
  given_inputs = sum_xor parties (λ i. input_shares 𝓢 x i (tapes i))

  -- the lifted input and inverse of S-box j+10k
  abbrev pub given_input : ℕ → ℕ → ℕ
  given_input j k = lifted 𝓢 (get_or given_inputs (sbox_at 𝓢.shape j k) 0)

  abbrev pub given_inverse : ℕ → ℕ → ℕ
  given_inverse j k = lifted 𝓢 (get_or given_inverses (sbox_at 𝓢.shape j k) 0)

  -- "Rows, S_j, T_j, P and the check polynomial are taken from these, the product offsets and the draws."
  module _ (d : Challenge) where
    abbrev pub check_polynomial : List ℕ
    check_polynomial =
        check_poly (wide_ops 𝓢) m1 m2 (λ k. k) (values_s (wide_ops 𝓢) m2 d.first given_input (given_s 𝓢 tapes))
        (values_t m2 given_inverse (given_t 𝓢 tapes))
        (values_p m2 (sum (wide_ops 𝓢) m1 d.first) (given_product 𝓢 tapes d))

-- ---- of an opening o: "all bytes before the hidden party", and the hidden party

abbrev pub before : Figures → List ℕ → List ℕ
before F o = take F.transcript o

abbrev pub hidden : Figures → List ℕ → ℕ
hidden F o = get_or o F.transcript 0

module _ (𝓢 : Scheme) (F : Figures) where
  -- "An opening shows every party that it doesn't hide, under the seed that its sibling seeds expand to."
  abbrev pub shown : List ℕ → ℕ → List ℕ
  shown o i = shown_seed 𝓢 (before F o) (hidden F o) (drop (suc F.transcript) o) i
