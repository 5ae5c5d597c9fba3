-- The rows of an execution's parties, their sum and what h3 binds of them, from what the functions leave. Assumes nothing.
use mathlib.Core.Path.{◌≡◌, refl, ap, ap₂, ◌∙◌}
use mathlib.Core.List.{List, ◌++◌}
use Prim.Native.Nat.{ℕ, ◌+◌, ◌-◌, ◌*◌, ◌^◌, ◌<◌, ◌≤◌}
use native.Mathlib.Nat.{sub-zero}
use native.Mathlib.Omega.{arith}
use lib.ListN.{length, take, drop, replicate, length-append, length-drop}
use lib.Seq.{take_at, take_all, drop-append-le}
use borrow.Rule.Slice.PartMut.{put_mid}
use Rattle.slices.specs.Lists.{rows, row, put, sum_xor}
use Rattle.slices.specs.Tab.{rows_cong, row_of_rows}
use Rattle.slices.specs.Sums.{sum_xor_cong}
use Rattle.slices.specs.Numbers.{length_bytes_of, length_numbers}
use Rattle.slices.specs.Layout.{total}
use Rattle.absorb_rows.proofs.Laws.{more}
use Rattle.shake.specs.Shake128.{shake128}
use Rattle.stream.specs.declared.Sponge.{Sponge}
use Rattle.stream.specs.Stream.{absorbed}
use Rattle.columns.specs.Column.{column_of}
use Rattle.banquet.specs.declared.Shape.{Shape}
use Rattle.banquet.specs.Sets.{scheme_of}
use Rattle.banquet.specs.Hash.{tape}
use Rattle.banquet.specs.Tree.{node_seeds, leaves}
use Rattle.banquet.specs.Execution.{Committed, Challenge, challenge}
use Rattle.banquet.specs.Signature.{frame_part}
use Rattle.sets.specs.Valid.{Valid}
use Rattle.sets.specs.Circuit.{output_long}
use Rattle.sets.specs.Bounds.{row_sizes}
use Rattle.forms.specs.Party.{committed, share_row}
use Rattle.leaf_seeds.specs.Seeds.{seeds_row}
use Rattle.signing.specs.Steps.{offsets_at, witness_length, opened_length, frame_shares, opened_frame, opened_part}

-- ---- a front that is lent as `&mut d[0..n]`

-- it came back as y, of which `&d[a..n]` is read
pub rest_again : (a n : ℕ) (d y : List ℕ) → length y ≡ n → a ≤ n → take (n - a) (drop a (put_mid 0 (n - 0) d y)) ≡ drop a y
rest_again a n d y h l =
    let front : a ≤ length y = omega arith in
    let size : length (drop a y) ≡ n - a = length-drop a y ∙ ap (◌- a) h in
    rw (sub-zero, drop-append-le a y (drop n d) front) (take_at (drop a y) (drop n d) (n - a) size)

-- ---- the parties' rows

module _ {S : Shape} (v : Valid S) where
  open S use {parties, depth, wide, m1}

  abbrev pub size : ℕ
  size = total (row_sizes S)

  length_shares : (x : Committed) (d : Challenge) (i : ℕ) (t : List ℕ) → length (share_row (scheme_of S) x d i t) ≡ size
  unfolding share_row
  length_shares x d i t =
      simp (length-append, length_bytes_of, length_numbers) (omega (arith, output_long S x i t))

  module _ (front salt root : List ℕ) (e : ℕ) (first : List ℕ) (second : ℕ) (frame : List ℕ) where
    abbrev shares : ℕ → List ℕ
    shares = frame_shares S front salt root e first second frame

    -- as `share_rows` leaves them
    pub rows_opened : {seeds key inverse product out : List ℕ} → length root ≡ 16
        → seeds ≡ node_seeds (leaves shake128 salt e depth 0 root) ++ replicate (2048 - 16 * 2 ^ depth) 0
        → key ≡ frame_part (scheme_of S) frame 2 → inverse ≡ frame_part (scheme_of S) frame 3 → product ≡ frame_part (scheme_of S) frame 4
        → out ≡ rows (λ i. share_row (scheme_of S) (committed front key inverse) (challenge (scheme_of S) first product second) i
        (tape (scheme_of S) salt e i (row 16 i seeds))) parties
        → out ≡ rows shares parties
    unfolding frame_shares
    rows_opened {seeds} {key} {inverse} {product} h w k i p o =
        o
        ∙ rows_cong parties (λ j l. ap (λ seed. share_row (scheme_of S) (committed front key inverse) (challenge (scheme_of S) first product second) j
        (tape (scheme_of S) salt e j seed)) (seeds_row v salt root e h w j l))
        ∙ rw (k, i, p) refl

    shares_long : (i : ℕ) → length (shares i) ≡ size
    unfolding frame_shares
    shares_long i = length_shares _ _ i _

    module _ {made : List ℕ} (m : made ≡ rows shares parties) where
      row_made : (i : ℕ) → i < parties → row size i made ≡ shares i
      row_made i l = ap (row size i) m ∙ row_of_rows size shares parties (λ j k. shares_long j) i l

      -- their sum, where n is the length of a row
      pub sums_made : {n : ℕ} {sums : List ℕ} → n ≡ size → sums ≡ sum_xor parties (λ i. row n i made) → sums ≡ sum_xor parties shares
      sums_made e h = h ∙ ap (λ k. sum_xor parties (λ i. row k i made)) e ∙ sum_xor_cong parties row_made

      -- each party's c, a and b
      pub column_made : column_of parties size 16 (opened_length S) made ≡ rows (λ i. drop 16 (shares i)) parties
      column_made =
          rows_cong parties (λ i l. ap (λ s. take (opened_length S) (drop 16 s)) (row_made i l)
          ∙ take_all (opened_length S) (drop 16 (shares i)) (omega (arith, length-drop 16 (shares i), shares_long i)))

      module _ {sums opened : List ℕ} (s : sums ≡ sum_xor parties shares) (o : opened ≡ drop 16 sums) where
        pub frame_opened : {at : ℕ} {out : List ℕ} → at ≡ offsets_at S + witness_length S + 21 * wide → out ≡ put frame at opened
            → out ≡ opened_frame S front salt root e first second frame
        unfolding opened_frame
        frame_opened a p = p ∙ ap₂ (put frame) a (o ∙ ap (drop 16) s)

        pub part_opened : (start : Sponge) {t u : Sponge} {n w : ℕ} → n ≡ size → w ≡ opened_length S → t ≡ absorbed start opened
            → u ≡ absorbed t (column_of parties n 16 w made)
            → u ≡ absorbed start (opened_part S front salt root e first second frame)
        unfolding opened_part
        part_opened start {t} n_is w_is p q =
            more start opened (column_of parties size 16 (opened_length S) made) p (q ∙ ap₂ (λ n w. absorbed t (column_of parties n 16 w made)) n_is w_is)
            ∙ ap₂ (λ x y. absorbed start (x ++ y)) (o ∙ ap (drop 16) s) column_made
