-- "One execution": what each party computes from its tape and what is public.
use Rattle.std.specs.Prelude.{List, ℕ, suc, ◌+◌, ◌-◌, ◌*◌, get_or}
use Rattle.std.specs.Int.Bits.{bit_xor}
use Rattle.slices.specs.Lists.{zip_xor}
use Rattle.slices.specs.Numbers.{number_at}
use Rattle.slices.specs.Layout.{field}
use Rattle.poly.specs.Index.{at}
use Rattle.poly.specs.Sum.{sum}
use Rattle.poly.specs.Poly.{eval}
use Rattle.poly.specs.Lagrange.{interpolate}
use Rattle.poly.specs.Balance.{values_s, values_t, values_p}
use Rattle.circuit.specs.Circuit.{party}
use Rattle.banquet.specs.Shape.{sbox_at, tape_sizes}
use Rattle.banquet.specs.Scheme.{Scheme, wide_ops, lifted}

-- What parties compute with of what is public before the first challenge. `front` is the public key without the ciphertext.
pub record Committed : Type 0 where
  pub front : List ℕ
  pub key_offset : List ℕ
  pub inverse_offsets : List ℕ

-- The first challenge, which is r by j; the product offsets by point, which come between the challenges; the second challenge, which is R.
pub record Challenge : Type 0 where
  pub first : ℕ → ℕ
  pub product_offset : ℕ → ℕ
  pub second : ℕ

module _ (𝓢 : Scheme) where
  open 𝓢.shape use {wide, m1, m2}

  -- From the bytes of the first challenge, the bytes of the product offsets (of the points k from 20 to 40), and the second challenge.
  abbrev pub challenge : List ℕ → List ℕ → ℕ → Challenge
  challenge first_bytes offsets R = record {
    first = λ j. number_at wide j first_bytes;
    product_offset = λ k. number_at wide (k - m2) offsets;
    second = R;
  }

  -- The value at u of the polynomial that has the values v 0, .. v (n - 1) at 0, .. n - 1: "Points are wide elements with those numbers."
  abbrev pub through : ℕ → (ℕ → ℕ) → ℕ → ℕ
  through n v u = eval (wide_ops 𝓢) (interpolate (wide_ops 𝓢) (λ k. k) n v) u

  -- ---- the parts of a tape t: "key share 16, inverse shares 200, per j the extra points s and t (4 each), 21 product shares (4 each)", these of the
  -- points k from 20 to 40

  unfoldable pub tape_part : ℕ → List ℕ → List ℕ
  tape_part = field (tape_sizes 𝓢.shape)

  abbrev pub tape_key : List ℕ → List ℕ
  tape_key = tape_part 0

  abbrev pub tape_inverses : List ℕ → List ℕ
  tape_inverses = tape_part 1

  abbrev pub tape_s : List ℕ → ℕ → ℕ
  tape_s t j = number_at wide (2 * j) (tape_part 2 t)

  abbrev pub tape_t : List ℕ → ℕ → ℕ
  tape_t t j = number_at wide (2 * j + 1) (tape_part 2 t)

  abbrev pub tape_product : List ℕ → ℕ → ℕ
  tape_product t k = number_at wide (k - m2) (tape_part 3 t)

  -- ---- party i with its tape t: its share of P, and its share of c = P(R)

  -- "Its shares at 0 to 19 are public: party 0 has the sum of the r, others 0"
  abbrev pub public_product : ℕ → Challenge → ℕ
  public_product i d = at i 0 (sum (wide_ops 𝓢) m1 d.first) 0

  module _ (i : ℕ) (t : List ℕ) (d : Challenge) where
    -- P's share at the points 20 to 40: "they are tape shares with product offsets", which party 0 alone adds
    unfoldable pub product_at : ℕ → ℕ
    product_at k = at i 0 (bit_xor (tape_product t k) (d.product_offset k)) (tape_product t k)

    -- P goes through 41 points
    unfoldable pub opened_c : ℕ
    opened_c = through (suc (2 * m2)) (values_p m2 (public_product i d) product_at) d.second

  -- ---- its shares of the S-boxes, and of a_j = S_j(R) and b_j = T_j(R)

  module _ (x : Committed) (i : ℕ) (t : List ℕ) where
    -- "Party 0 alone adds offsets and public constants."
    abbrev pub key_share : List ℕ
    key_share = at i 0 (zip_xor (tape_key t) x.key_offset) (tape_key t)

    abbrev pub inverse_shares : List ℕ
    inverse_shares = at i 0 (zip_xor (tape_inverses t) x.inverse_offsets) (tape_inverses t)

    -- "Each party carries its key share through AES, its inverse shares standing for the inverses, to its S-box input shares and its output share"
    unfoldable pub input_shares : List ℕ
    input_shares = 𝓢.circuit.input_shares x.front (party i key_share inverse_shares)

    unfoldable pub output_share : List ℕ
    output_share = 𝓢.circuit.output_share x.front (party i key_share inverse_shares)

    -- the lifted shares of S-box j+10k
    unfoldable pub input_at : ℕ → ℕ → ℕ
    input_at j k = lifted 𝓢 (get_or input_shares (sbox_at 𝓢.shape j k) 0)

    unfoldable pub inverse_at : ℕ → ℕ → ℕ
    inverse_at j k = lifted 𝓢 (get_or inverse_shares (sbox_at 𝓢.shape j k) 0)

    module _ (d : Challenge) where
      -- "Opened are c = P(R), a_j = S_j(R), b_j = T_j(R), with shares": the shares. S_j and T_j go through 21 points.
      unfoldable pub opened_a : ℕ → ℕ
      opened_a j = through (suc m2) (values_s (wide_ops 𝓢) m2 d.first input_at (tape_s t) j) d.second

      unfoldable pub opened_b : ℕ → ℕ
      opened_b j = through (suc m2) (values_t m2 inverse_at (tape_t t) j) d.second
