-- The numbers that all parties have in common are right, and then so are the parties' rows. Assumes nothing.
use mathlib.Core.Path.{◌≡◌, refl, ap, ap₂, ◌∙◌}
use mathlib.Core.List.{List}
use Prim.Native.Nat.{ℕ, zero, suc, ◌*◌, ◌^◌, ◌<◌}
use native.Mathlib.Omega.{arith}
use lib.Bits.{bit_xor}
use lib.ListN.{length, get_or, take, drop}
use Rattle.slices.specs.Lists.{tab, rows, row}
use Rattle.slices.specs.Tab.{length_tab, get_d_tab, rows_cong}
use Rattle.slices.specs.Bytes.{Bytes}
use Rattle.slices.specs.Sums.{zip_bytes}
use Rattle.slices.specs.Numbers.{number_at}
use Rattle.poly.specs.Index.{at_cases}
use Rattle.field.specs.Ring.{mul}
use Rattle.circuit.specs.Circuit.{party}
use Rattle.banquet.specs.declared.Shape.{Shape}
use Rattle.banquet.specs.Sets.{scheme_of}
use Rattle.banquet.specs.Hash.{tape}
use Rattle.banquet.specs.Execution.{challenge, inverse_shares, input_shares}
use Rattle.theorems.specs.Shares.{IsTape, hashed_tape, tape_bytes}
use Rattle.sets.specs.Valid.{Valid}
use Rattle.sets.specs.Laws.{laws}
use Rattle.forms.specs.Point.{near, far, tables_at, xor_sum}
use Rattle.forms.specs.Party.{own, committed, worked_row, share_row, Right}
use Rattle.forms.proofs.Party.{row_right}

-- ---- sums

xor_cong : (n : ℕ) {f g : ℕ → ℕ} → ((k : ℕ) → k < n → f k ≡ g k) → xor_sum n f ≡ xor_sum n g
unfolding xor_sum
xor_cong zero h = refl
xor_cong (suc n) h = ap₂ bit_xor (xor_cong n (λ k l. h k (omega arith))) (h n (omega arith))

-- of the elements of a list
xor_tab : (f : ℕ → ℕ) (n : ℕ) {s : List ℕ} {a : ℕ} → s ≡ tab f n → a ≡ xor_sum (length s) (λ k. get_or s k 0) → a ≡ xor_sum n f
xor_tab f n e h =
    h ∙ ap (λ s. xor_sum (length s) (λ k. get_or s k 0)) e ∙ ap (λ m. xor_sum m (λ k. get_or (tab f n) k 0)) (length_tab f n)
    ∙ xor_cong n (λ k l. get_d_tab f n k 0 l)

-- ---- shares are bytes

own_bytes : (i : ℕ) {s offset : List ℕ} → Bytes s → Bytes offset → Bytes (own i s offset)
own_bytes i p q = at_cases Bytes i 0 _ _ (λ e. zip_bytes p q) (λ n. p)

key_bytes : (i : ℕ) {k : List ℕ} (y : List ℕ) → Bytes k → Bytes (party i k y).key
key_bytes zero y p = p
key_bytes (suc i) y p = p

module _ {S : Shape} (v : Valid S) where
  open S use {parties, wide, low, m1}

  module _ {front key inverse : List ℕ} (size : length front ≡ S.front) (f : Bytes front) (k : Bytes key) (n : Bytes inverse) (i : ℕ) {t : List ℕ}
      (h : IsTape (scheme_of S) (laws v) t) where
    inverses_bytes : Bytes (inverse_shares (scheme_of S) (committed front key inverse) i t)
    inverses_bytes = own_bytes i (tape_bytes (scheme_of S) (laws v) h 1) n

    inputs_bytes : Bytes (input_shares (scheme_of S) (committed front key inverse) i t)
    unfolding input_shares
    inputs_bytes =
        (((laws v).circuit {f = front} (record { size = size; bytes = f })).inputs_sized _
        (key_bytes i _ (own_bytes i (tape_bytes (scheme_of S) (laws v) h 0) k))).bytes

  -- ---- the second challenge

  module _ (first_bytes product : List ℕ) (R : ℕ) (w : R < 2 ^ (8 * wide)) where
    -- from what the calls give
    pub right : {draws values tables : List ℕ} {last a b given n : ℕ} → n ≡ m1 → draws ≡ tab (λ j. number_at wide j first_bytes) n
        → values ≡ tab (far S R) 41
        → a ≡ xor_sum (length (take 20 values)) (λ k. get_or (take 20 values) k 0) → b ≡ xor_sum (length draws) (λ k. get_or draws k 0)
        → given ≡ mul (8 * wide) low a b → tables ≡ tables_at S R → last ≡ near S R 20
        → Right v first_bytes product R w draws (take 21 (drop 20 values)) given tables last
    right n_is d h s r g t l =
        let e = d ∙ ap (tab (λ j. number_at wide j first_bytes)) n_is in
        record {
          first_is = e;
          far_is = ap (λ s. take 21 (drop 20 s)) h;
          given_is = g ∙ ap₂ (mul (8 * wide) low) (xor_tab (far S R) 20 (ap (take 20) h) s) (xor_tab (λ j. number_at wide j first_bytes) m1 e r);
          tables_is = t;
          last_is = l;
        }

    -- the rows worked out from them, y, are the rows of shares
    pub rows_right : (salt : List ℕ) (e : ℕ) (seeds front key inverse : List ℕ) → length front ≡ S.front → Bytes front → Bytes key → Bytes inverse
        → Bytes product → {first fars : List ℕ} {given : ℕ} {tables : List ℕ} {last : ℕ} → Right v first_bytes product R w first fars given tables last
        → {y : List ℕ}
        → y ≡ rows (λ i. worked_row S (committed front key inverse) product first fars given tables last i
        (tape (scheme_of S) salt e i (row 16 i seeds))) parties
        → y ≡ rows (λ i. share_row (scheme_of S) (committed front key inverse) (challenge (scheme_of S) first_bytes product R) i
        (tape (scheme_of S) salt e i (row 16 i seeds))) parties
    rows_right salt e seeds front key inverse size f k n q g worked =
        worked
        ∙ rows_cong parties
        (λ i l.
        let t = tape (scheme_of S) salt e i (row 16 i seeds) in
        let h = hashed_tape (scheme_of S) (laws v) salt e i (row 16 i seeds) in
        row_right v first_bytes product R w g (committed front key inverse) i t (tape_bytes (scheme_of S) (laws v) h 3) q
        (inputs_bytes size f k n i h) (inverses_bytes size f k n i h))
