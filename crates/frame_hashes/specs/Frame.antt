-- The parties of an execution as its frame shows them: their commitments; each one's shares in a row, the hidden one's being what the others leave of
-- the sums; and what h1 and h3 bind of these. Assumes nothing.
use Rattle.std.specs.Prelude.{◌≡◌, ℕ, ◌+◌, ◌*◌, ◌<◌, ◌≤◌, get_or, take}
use Rattle.std.proofs.Math.Path.{sym, ap, ap₂}
use Rattle.std.proofs.Common.{◌∙◌, arith, length-append, length-drop, take_at, drop_at, take_all}
use mathlib.Core.List.{List, [], ◌∷◌, ◌++◌, append-nil, append_assoc}
use Rattle.std.proofs.Math.Decide.{ℕ_discrete}
use Rattle.std.specs.Int.Bits.{bit_xor}
use Rattle.std.proofs.Math.ListN.{length}
use Rattle.slices.specs.Lists.{rows, row, part, zip_xor, sum_xor}
use Rattle.slices.specs.Tab.{rows_cong, row_of_rows}
use Rattle.slices.specs.Bytes.{Bytes, Sized, drop_bytes}
use Rattle.slices.specs.Sums.{sum_xor_cong}
use Rattle.slices.specs.Numbers.{numbers, bytes_of, bytes_of_number, length_bytes_of, length_numbers}
use Rattle.slices.proofs.Numbers.{number_at_lt}
use Rattle.slices.specs.Layout.{total, field, layout, HasSizes, length_layout}
use Rattle.slices.proofs.Layouts.{field_layout, sized_field}
use Rattle.shake.specs.Shake128.{shake128}
use Rattle.poly.specs.Index.{at, at_same, at_other, at_cases}
use Rattle.poly.specs.Sum.{sum}
use Rattle.columns.specs.Column.{column_of}
use Rattle.complete.specs.Complete.{completed_row}
use Rattle.banquet.specs.declared.Shape.{Shape}
use Rattle.banquet.specs.Shape.{public_key_length, frame_sizes}
use Rattle.banquet.specs.Scheme.{Wide, wide_ops}
use Rattle.banquet.specs.Sets.{scheme_of}
use Rattle.banquet.specs.Hash.{commitment, tape}
use Rattle.banquet.specs.Tree.{shown_leaves, seed_at}
use Rattle.banquet.specs.Key.{front_of, ciphertext_of}
use Rattle.banquet.specs.Execution.{Committed, Challenge, challenge, output_share, opened_c, opened_a, opened_b}
use Rattle.banquet.specs.Signature.{frame_part, frame_c, frame_a, frame_b, opened_bytes, h1_part, h3_part, completed, completed_output}
use Rattle.theorems.specs.Keys.{sized_front}
use Rattle.theorems.specs.Shares.{IsTape, Fits, hashed_tape, sized_output_share}
use Rattle.theorems.specs.Opened.{WideChallenge, wide_C, wide_A, wide_B}
use Rattle.sets.specs.Valid.{Valid}
use Rattle.sets.specs.Bounds.{row_sizes}
use Rattle.sets.specs.Laws.{laws}
use Rattle.forms.specs.Party.{committed, share_row}
use Rattle.frame_hashes.specs.Linear.{layout_fields, numbers_back, field_left, length_left, number_left, numbers_left}

-- the sum of all parties' rows: "the hidden output share from the ciphertext", and the frame's c, a, b
abbrev pub whole_row : Shape → List ℕ → List ℕ → List ℕ
whole_row S public_key frame =
    ciphertext_of (scheme_of S) public_key
    ++ (frame_part (scheme_of S) frame 5 ++ (frame_part (scheme_of S) frame 6 ++ frame_part (scheme_of S) frame 7))

-- the seeds that the frame's "sibling seeds from the top down" expand to
abbrev pub seed_shown : Shape → List ℕ → ℕ → ℕ → List ℕ → ℕ → List ℕ
seed_shown S salt e hidden frame i = seed_at (shown_leaves shake128 salt e S.depth 0 (frame_part (scheme_of S) frame 0) hidden) i

-- under the parties' seeds
module _ (S : Shape) (public_key salt : List ℕ) (e hidden : ℕ) (first : List ℕ) (second : ℕ) (frame : List ℕ) (seed : ℕ → List ℕ) where
  open S use {parties, wide, m1}

  abbrev shown : ℕ → List ℕ
  shown k = frame_part (scheme_of S) frame k

  abbrev pub tape_shown : ℕ → List ℕ
  tape_shown i = tape (scheme_of S) salt e i (seed i)

  abbrev pub committed_shown : Committed
  committed_shown = committed (front_of (scheme_of S) public_key) (shown 2) (shown 3)

  abbrev pub challenge_shown : Challenge
  challenge_shown = challenge (scheme_of S) first (shown 4) second

  -- "hidden commitment (32)"; the others from the seeds
  abbrev pub frame_commitment : ℕ → List ℕ
  frame_commitment i = at i hidden (shown 1) (commitment (scheme_of S) salt e i (seed i))

  abbrev whole : List ℕ
  whole = whole_row S public_key frame

  -- party i's row: "The checker works hidden shares out as sum minus the rest"
  unfoldable pub frame_row : ℕ → List ℕ
  frame_row = completed_row parties hidden whole (λ i. share_row (scheme_of S) committed_shown challenge_shown i (tape_shown i))

  -- the shares of the output, of c, a and b
  abbrev share_o : ℕ → List ℕ
  share_o i = output_share (scheme_of S) committed_shown i (tape_shown i)

  abbrev share_c : ℕ → ℕ
  share_c i = opened_c (scheme_of S) i (tape_shown i) challenge_shown

  abbrev share_a : ℕ → ℕ → ℕ
  share_a i = opened_a (scheme_of S) committed_shown i (tape_shown i) challenge_shown

  abbrev share_b : ℕ → ℕ → ℕ
  share_b i = opened_b (scheme_of S) committed_shown i (tape_shown i) challenge_shown

  abbrev row_o : ℕ → List ℕ
  row_o = completed_output (scheme_of S) hidden (ciphertext_of (scheme_of S) public_key) share_o

  abbrev row_c : ℕ → ℕ
  row_c = completed (scheme_of S) hidden (frame_c (scheme_of S) frame) share_c

  abbrev row_a : ℕ → ℕ → ℕ
  row_a i j = completed (scheme_of S) hidden (frame_a (scheme_of S) frame j) (λ k. share_a k j) i

  abbrev row_b : ℕ → ℕ → ℕ
  row_b i j = completed (scheme_of S) hidden (frame_b (scheme_of S) frame j) (λ k. share_b k j) i

  -- h1: "16 commitments, 16 output shares, key offset, 200 inverse offsets"
  unfoldable pub shown_h1 : List ℕ
  shown_h1 = h1_part (scheme_of S) frame_commitment row_o (shown 2) (shown 3)

  -- h3: "the sums c, a, b and each party's c, a, b"
  unfoldable pub shown_h3 : List ℕ
  shown_h3 = h3_part (scheme_of S) (frame_c (scheme_of S) frame) (frame_a (scheme_of S) frame) (frame_b (scheme_of S) frame) row_c row_a row_b

  module _ (v : Valid S) (pk : Sized (public_key_length S) public_key) (fr : Sized (total (frame_sizes S)) frame) (fb : Bytes first)
      (sw : Wide (scheme_of S) second) where
    shown_sized : (k : ℕ) → Sized (get_or (frame_sizes S) k 0) (shown k)
    shown_sized k = sized_field (frame_sizes S) k fr

    fits : Fits (scheme_of S) (laws v) committed_shown
    fits = record { fits_front = sized_front (scheme_of S) (laws v) pk; fits_key = shown_sized 2; fits_inverses = shown_sized 3 }

    wides : WideChallenge (scheme_of S) (laws v) challenge_shown
    wides = record {
      wide_first = λ j. number_at_lt wide j fb;
      wide_offset = λ k. number_at_lt wide _ (shown_sized 4).bytes;
      wide_second = sw;
    }

    tape_sized : (i : ℕ) → IsTape (scheme_of S) (laws v) (tape_shown i)
    tape_sized i = hashed_tape (scheme_of S) (laws v) salt e i (seed i)

    sized_O : (i : ℕ) → Sized 16 (share_o i)
    sized_O i = sized_output_share (scheme_of S) (laws v) committed_shown fits i (tape_sized i)

    sized_ciphertext : Sized 16 (ciphertext_of (scheme_of S) public_key)
    sized_ciphertext = record {
      size = length-drop S.front public_key ∙ omega (arith, pk.size);
      bytes = drop_bytes S.front public_key pk.bytes;
    }

    -- ---- a shown party's row, and the sum of all, by their fields

    abbrev pub shown_row : ℕ → List ℕ
    shown_row i = share_row (scheme_of S) committed_shown challenge_shown i (tape_shown i)

    abbrev parts : ℕ → List (List ℕ)
    parts i = share_o i ∷ bytes_of wide (share_c i) ∷ numbers wide m1 (share_a i) ∷ numbers wide m1 (share_b i) ∷ []

    row_laid : (i : ℕ) → shown_row i ≡ layout (parts i)
    unfolding share_row layout
    row_laid i =
        ap (share_o i ++◌)
        (ap (bytes_of wide (share_c i) ++◌) (ap (numbers wide m1 (share_a i) ++◌) (sym (append-nil (numbers wide m1 (share_b i))))))

    row_sizes_lem : (i : ℕ) → HasSizes (row_sizes S) (parts i)
    row_sizes_lem i =
        ((sized_O i).size, (length_bytes_of wide (share_c i), (length_numbers wide m1 (share_a i), (length_numbers wide m1 (share_b i), tt))))

    field_shown : (k i : ℕ) → field (row_sizes S) k (shown_row i) ≡ get_or (parts i) k []
    field_shown k i = ap (field (row_sizes S) k) (row_laid i) ∙ field_layout (row_sizes S) (parts i) (row_sizes_lem i) k

    pub shown_long : (i : ℕ) → length (shown_row i) ≡ total (row_sizes S)
    shown_long i = ap length (row_laid i) ∙ length_layout (row_sizes S) (parts i) (row_sizes_lem i)

    abbrev wholes : List (List ℕ)
    wholes = ciphertext_of (scheme_of S) public_key ∷ shown 5 ∷ shown 6 ∷ shown 7 ∷ []

    whole_laid : whole ≡ layout wholes
    unfolding layout
    whole_laid = ap (ciphertext_of (scheme_of S) public_key ++◌) (ap (shown 5 ++◌) (ap (shown 6 ++◌) (sym (append-nil (shown 7)))))

    whole_sizes : HasSizes (row_sizes S) wholes
    whole_sizes = (sized_ciphertext.size, ((shown_sized 5).size, ((shown_sized 6).size, ((shown_sized 7).size, tt))))

    field_whole : (k : ℕ) → field (row_sizes S) k whole ≡ get_or wholes k []
    field_whole k = ap (field (row_sizes S) k) whole_laid ∙ field_layout (row_sizes S) wholes whole_sizes k

    -- ---- the hidden party's row

    abbrev hidden_row : List ℕ
    hidden_row = zip_xor whole (sum_xor parties (λ k. at k hidden [] (shown_row k)))

    hidden_field : (k : ℕ) → field (row_sizes S) k hidden_row ≡ zip_xor (get_or wholes k []) (sum_xor parties (λ i. at i hidden [] (get_or (parts i) k [])))
    hidden_field k =
        field_left parties hidden (row_sizes S) k whole shown_row
        ∙ ap₂ zip_xor (field_whole k) (sum_xor_cong parties (λ i l. ap (at i hidden []) (field_shown k i)))

    hidden_long : length hidden_row ≡ total (row_sizes S)
    hidden_long = length_left parties hidden whole shown_row (ap length whole_laid ∙ length_layout (row_sizes S) wholes whole_sizes) (λ i l. shown_long i)

    abbrev left_o : List ℕ
    left_o = zip_xor (ciphertext_of (scheme_of S) public_key) (sum_xor parties (λ i. at i hidden [] (share_o i)))

    abbrev left_c : ℕ
    left_c = bit_xor (frame_c (scheme_of S) frame) (sum (wide_ops (scheme_of S)) parties (λ i. at i hidden 0 (share_c i)))

    abbrev left_a : ℕ → ℕ
    left_a j = bit_xor (frame_a (scheme_of S) frame j) (sum (wide_ops (scheme_of S)) parties (λ i. at i hidden 0 (share_a i j)))

    abbrev left_b : ℕ → ℕ
    left_b j = bit_xor (frame_b (scheme_of S) frame j) (sum (wide_ops (scheme_of S)) parties (λ i. at i hidden 0 (share_b i j)))

    hidden_laid : hidden_row ≡ left_o ++ (bytes_of wide left_c ++ (numbers wide m1 left_a ++ numbers wide m1 left_b))
    unfolding layout
    hidden_laid =
        layout_fields (row_sizes S) hidden_row hidden_long
        ∙ ap₂ ◌++◌ (hidden_field 0)
        (ap₂ ◌++◌
        (hidden_field 1
        ∙ number_left parties hidden wide S.low share_c (shown_sized 5)
        (λ i l. wide_C (scheme_of S) (laws v) challenge_shown wides i (tape_sized i)))
        (ap₂ ◌++◌
        (hidden_field 2
        ∙ numbers_left parties hidden wide S.low m1 share_a (shown_sized 6)
        (λ i l. wide_A (scheme_of S) (laws v) committed_shown challenge_shown wides i (tape_sized i)))
        (append-nil (field (row_sizes S) 3 hidden_row) ∙ hidden_field 3
        ∙ numbers_left parties hidden wide S.low m1 share_b (shown_sized 7)
        (λ i l. wide_B (scheme_of S) (laws v) committed_shown challenge_shown wides i (tape_sized i)))))

    -- ---- every party's row

    laid : {o o' : List ℕ} {c c' : ℕ} {a a' b b' : ℕ → ℕ} → o ≡ o' → c ≡ c' → ((j : ℕ) → a j ≡ a' j) → ((j : ℕ) → b j ≡ b' j)
        → o ++ (bytes_of wide c ++ (numbers wide m1 a ++ numbers wide m1 b)) ≡ o' ++ opened_bytes (scheme_of S) c' a' b'
    laid {o} {o'} {c} {c'} {a} {a'} {b} {b'} p q f g =
        ap₂ ◌++◌ p
        (ap₂ ◌++◌ (ap (bytes_of wide) q)
        (ap₂ ◌++◌ (rows_cong m1 (λ j l. ap (bytes_of wide) (f j))) (rows_cong m1 (λ j l. ap (bytes_of wide) (g j))))
        ∙ sym (append_assoc (bytes_of wide c') (numbers wide m1 a') (numbers wide m1 b')))

    row_opened : (i : ℕ) → frame_row i ≡ row_o i ++ opened_bytes (scheme_of S) (row_c i) (row_a i) (row_b i)
    unfolding frame_row completed completed_output share_row
    row_opened i = go (ℕ_discrete i hidden)
      where
        go : Dec (i ≡ hidden) → at i hidden hidden_row (shown_row i)
            ≡ at i hidden left_o (share_o i)
            ++ opened_bytes (scheme_of S) (at i hidden left_c (share_c i)) (λ j. at i hidden (left_a j) (share_a i j)) (λ j. at i hidden (left_b j) (share_b i j))
        go (yes q) =
            at_same i hidden hidden_row (shown_row i) q ∙ hidden_laid
            ∙ laid (sym (at_same i hidden left_o (share_o i) q)) (sym (at_same i hidden left_c (share_c i) q))
            (λ j. sym (at_same i hidden (left_a j) (share_a i j) q)) (λ j. sym (at_same i hidden (left_b j) (share_b i j) q))
        go (no q) =
            at_other i hidden hidden_row (shown_row i) q
            ∙ laid (sym (at_other i hidden left_o (share_o i) q)) (sym (at_other i hidden left_c (share_c i) q))
            (λ j. sym (at_other i hidden (left_a j) (share_a i j) q)) (λ j. sym (at_other i hidden (left_b j) (share_b i j) q))

    output_long : (i : ℕ) → length (row_o i) ≡ 16
    unfolding completed_output
    output_long i =
        at_cases (λ x. length x ≡ 16) i hidden left_o (share_o i)
        (λ q. length_left parties hidden (ciphertext_of (scheme_of S) public_key) share_o sized_ciphertext.size (λ i l. (sized_O i).size))
        (λ q. (sized_O i).size)

    abbrev rest : ℕ
    rest = wide + m1 * wide + m1 * wide

    opened_long : (c : ℕ) (a b : ℕ → ℕ) → length (opened_bytes (scheme_of S) c a b) ≡ rest
    opened_long c a b =
        simp length-append (omega (arith, length_bytes_of wide c, length_numbers wide m1 a, length_numbers wide m1 b))

    row_long : (i : ℕ) → length (frame_row i) ≡ total (row_sizes S)
    row_long i =
        ap length (row_opened i) ∙ length-append (row_o i) (opened_bytes (scheme_of S) (row_c i) (row_a i) (row_b i))
        ∙ omega (arith, output_long i, opened_long (row_c i) (row_a i) (row_b i))

    -- ---- what the hashes bind

    module _ {R : List ℕ} (is : R ≡ rows frame_row parties) where
      cell : (from len i : ℕ) → i < parties → part from len (row (total (row_sizes S)) i R)
          ≡ part from len (row_o i ++ opened_bytes (scheme_of S) (row_c i) (row_a i) (row_b i))
      cell from len i l =
          ap (part from len)
          (ap (row (total (row_sizes S)) i) is ∙ row_of_rows (total (row_sizes S)) frame_row parties (λ i l. row_long i) i l ∙ row_opened i)

      pub outputs_are : column_of parties (total (row_sizes S)) 0 16 R ≡ rows row_o parties
      outputs_are = rows_cong parties (λ i l. cell 0 16 i l ∙ take_at (row_o i) _ 16 (output_long i))

      pub shares_are : (len : ℕ) → rest ≤ len
          → column_of parties (total (row_sizes S)) 16 len R ≡ rows (λ i. opened_bytes (scheme_of S) (row_c i) (row_a i) (row_b i)) parties
      shares_are len h =
          rows_cong parties (λ i l. cell 16 len i l
          ∙ ap (take len) (drop_at (row_o i) (opened_bytes (scheme_of S) (row_c i) (row_a i) (row_b i)) 16 (output_long i))
          ∙ take_all len _ (omega (arith, opened_long (row_c i) (row_a i) (row_b i), h)))

    -- the sums as the frame has them
    pub sums_are : shown 5 ++ shown 6 ++ shown 7
        ≡ opened_bytes (scheme_of S) (frame_c (scheme_of S) frame) (frame_a (scheme_of S) frame) (frame_b (scheme_of S) frame)
    sums_are =
        let c = shown_sized 5 in
        sym (ap₂ ◌++◌ (ap₂ ◌++◌ (bytes_of_number (shown 5) wide c.bytes c.size) (numbers_back wide m1 (shown_sized 6)))
        (numbers_back wide m1 (shown_sized 7)))
