-- The row that an execution begins with, by its parts: the offsets of key and inverses, and behind them what the tapes add up to. Assumes nothing.
use Rattle.std.specs.Prelude.{◌≡◌, List, ◌++◌, ℕ, suc, ◌*◌, ◌<◌, length, get_or, take, drop}
use Rattle.std.proofs.Common.{sym, ◌∙◌, arith, drop_of_length-le, drop_at, drop-drop}
use Rattle.std.proofs.Math.Path.{ap}
use Rattle.std.specs.Int.Bits.{bit_xor}
use Rattle.std.proofs.Math.Seq.{take_at, take_all}
use Rattle.slices.specs.Lists.{tab, row, part, zip_xor, sum_xor}
use Rattle.slices.specs.Bytes.{Bytes, Sized, append_bytes, rows_bytes, take_bytes}
use Rattle.slices.specs.Sums.{zip_nil, zip_comm, length_zip_max, drop_zip, zip_bytes, sized_sum}
use Rattle.slices.specs.Numbers.{number_at, numbers}
use Rattle.slices.specs.Layout.{total, field}
use Rattle.banquet.specs.declared.Shape.{Shape}
use Rattle.banquet.specs.Shape.{tape_sizes}
use Rattle.banquet.specs.Sets.{scheme_of}
use Rattle.banquet.specs.Execution.{tape_part}
use Rattle.banquet.specs.Signer.{seed_of, tape_of}
use Rattle.theorems.specs.Shares.{IsTape, sized_commitment, hashed_tape, tape_bytes}
use Rattle.sets.specs.Valid.{Valid}
use Rattle.sets.specs.Bounds.{all_sboxes, tape_total}
use Rattle.sets.specs.Circuit.{output_bytes}
use Rattle.sets.specs.Laws.{laws}
use Rattle.forms.specs.Point.{product_value}
use Rattle.forms.specs.Linear.{take_zip, part_zip}
use Rattle.forms.specs.Offsets.{worked_offsets}
use Rattle.signing.specs.Steps.{witness_length, own_row, own_part}

module _ {S : Shape} (v : Valid S) (witness salt root : List ℕ) (e : ℕ) where
  open S use {parties, wide, m1, m2}

  abbrev pub tapes : ℕ → List ℕ
  tapes = tape_of (scheme_of S) salt root e

  abbrev tape_sum : List ℕ
  tape_sum = sum_xor parties tapes

  abbrev own : List ℕ
  own = own_row S witness salt root e

  pub drawn : (i : ℕ) → i < parties → IsTape (scheme_of S) (laws v) (tapes i)
  drawn i l = hashed_tape (scheme_of S) (laws v) salt e i (seed_of (scheme_of S) salt root e i)

  sum_sized : Sized (total (tape_sizes S)) tape_sum
  sum_sized = sized_sum parties v.some drawn

  -- ---- bytes

  pub own_bytes : Bytes witness → Bytes own
  unfolding own_row
  own_bytes p = zip_bytes sum_sized.bytes p

  pub own_part_bytes : (front : List ℕ) → Bytes witness → Bytes (own_part S front witness salt root e)
  unfolding own_part
  own_part_bytes front p =
      append_bytes
      (append_bytes (rows_bytes _ parties (λ i l. (sized_commitment (scheme_of S) (laws v) salt e i (seed_of (scheme_of S) salt root e i)).bytes))
      (rows_bytes _ parties
      (λ i l. output_bytes S _ i (tapes i) (take_bytes 16 own (own_bytes p)) (tape_bytes (scheme_of S) (laws v) (drawn i l) 0))))
      (take_bytes (witness_length S) own (own_bytes p))

  -- ---- parts

  module _ (size : length witness ≡ witness_length S) where
    pub own_long : length own ≡ total (tape_sizes S)
    unfolding own_row
    own_long = length_zip_max tape_sum witness ∙ omega (arith, sum_sized.size, tape_total v, all_sboxes v)

    -- behind the first two parts
    own_rest : drop (witness_length S) own ≡ drop (witness_length S) tape_sum
    unfolding own_row
    own_rest =
        let n = witness_length S in
        drop_zip n tape_sum witness ∙ ap (zip_xor (drop n tape_sum)) (drop_of_length-le witness {i = n} (omega arith)) ∙ zip_nil (drop n tape_sum)

    behind : drop (m1 * m2) (drop 16 own) ≡ drop (m1 * m2) (drop 16 tape_sum)
    behind = drop-drop (m1 * m2) 16 own ∙ own_rest ∙ sym (drop-drop (m1 * m2) 16 tape_sum)

    -- the product offsets look there only
    pub own_worked : (us vs lasts first : List ℕ) → worked_offsets S us vs lasts own first ≡ worked_offsets S us vs lasts tape_sum first
    unfolding worked_offsets tape_part field
    own_worked us vs lasts first =
        ap (λ s. numbers wide 21 (λ k. bit_xor
        (product_value S (tab (λ j. number_at wide j first) m1) (tab (λ n. number_at wide n (take (2 * m1 * wide) s)) (2 * m1)) (row m1 k us)
        (row m1 k vs) (get_or lasts k 0))
        (number_at wide k (take (suc m2 * wide) (drop (2 * m1 * wide) s)))))
        behind

  module _ (key inverses : List ℕ) (is : witness ≡ key ++ inverses) (k_size : length key ≡ 16) (y_size : length inverses ≡ m1 * m2) where
    pub own_key : take 16 own ≡ zip_xor key (tape_part (scheme_of S) 0 tape_sum)
    unfolding own_row tape_part field
    own_key =
        take_zip 16 tape_sum witness ∙ zip_comm (take 16 tape_sum) (take 16 witness)
        ∙ ap (λ k. zip_xor k (take 16 tape_sum)) (ap (take 16) is ∙ take_at key inverses 16 k_size)

    pub own_inverses : part 16 (m1 * m2) own ≡ zip_xor inverses (tape_part (scheme_of S) 1 tape_sum)
    unfolding own_row tape_part field
    own_inverses =
        let n = m1 * m2 in
        part_zip 16 n tape_sum witness ∙ zip_comm (part 16 n tape_sum) (part 16 n witness)
        ∙ ap (λ y. zip_xor y (part 16 n tape_sum)) (ap (part 16 n) is ∙ ap (take n) (drop_at key inverses 16 k_size) ∙ take_all n inverses (omega arith))
