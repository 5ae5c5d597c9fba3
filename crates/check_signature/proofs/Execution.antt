-- An execution's challenges among those drawn for all, and its parts of h1 and h3. Assumes nothing.
use mathlib.Core.Path.{◌≡◌, refl, sym, ap, ap₂, ◌∙◌}
use mathlib.Core.List.{List, ◌∷◌, ◌++◌}
use Prim.Native.Nat.{ℕ, ◌+◌, ◌-◌, ◌*◌, ◌<◌, ◌≤◌}
use native.Mathlib.Nat.{min-le_right, sub-zero}
use native.Mathlib.Omega.{arith}
use lib.ListN.{length, take, drop, replicate, length-replicate, length-take, length-drop, take-append-drop}
use lib.Seq.{drop-append-le, take-append-le}
use borrow.Rule.Slice.PartMut.{put_mid, same_len_mid}
use Rattle.slices.specs.Lists.{row, rows}
use Rattle.slices.specs.Bytes.{Sized}
use Rattle.slices.specs.Numbers.{number, number_at}
use Rattle.slices.proofs.Put.{front_long, front_again}
use Rattle.slices.proofs.Rows.{row_fits}
use Rattle.absorb_rows.proofs.Laws.{part_more}
use Rattle.stream.specs.declared.Sponge.{Sponge}
use Rattle.stream.specs.Stream.{absorbed}
use Rattle.shake.specs.Shake128.{shake128}
use Rattle.shake.proofs.Laws.{sized_shake}
use Rattle.banquet.specs.declared.Shape.{Shape}
use Rattle.banquet.specs.Shape.{first_challenge_length}
use Rattle.banquet.specs.Sets.{scheme_of}
use Rattle.banquet.specs.Hash.{evaluation_point, party_of, first_challenge, second_challenge, hidden_party}
use Rattle.banquet.specs.Signature.{signature_salt, signature_h1, signature_h3, frame_of, frame_h1_part, frame_h3_part}
use Rattle.sets.proofs.Bounds.{firsts_most}
use Rattle.challenges.specs.Challenges.{second_wide, hidden_lt}
use Rattle.frames.specs.Frames.{sized_frame}
use Rattle.frame_hashes.specs.Given.{Given}
use Rattle.frame_hashes.specs.Frame.{seed_shown, shown_h1, shown_h3}
use Rattle.forms.specs.Stated.{sized_row}
use Rattle.heads.specs.Heads.{salt_long}
use Rattle.check_signature.specs.Steps.{Files, Drawn, h2_of, first_part, third_part}

-- u and v are x and y with the parts of e executions absorbed
pub record Absorbed (S : Shape) (public_key s : List ℕ) (x y : Sponge) (e : ℕ) (u v : Sponge) : Type 0 where
  pub first : u ≡ absorbed x (rows (first_part S s public_key) e)
  pub third : v ≡ absorbed y (rows (third_part S s public_key) e)

pub absorbed_none : (S : Shape) (public_key s : List ℕ) (x y : Sponge) → Absorbed S public_key s x y 0 x y
unfolding absorbed
absorbed_none S public_key s x y = record { first = refl; third = refl }

-- a row of the front that holds n rows is that row of the whole
row_front : (k : ℕ) {i n : ℕ} (x y : List ℕ) → length x ≡ n * k → i < n → row k i (x ++ y) ≡ row k i x
row_front k {i} {n} x y e h =
    let fits : i * k + k ≤ n * k = row_fits k h in
    ap (take k) (drop-append-le (i * k) x y (omega arith)) ∙ take-append-le k (drop (i * k) x) y (omega (arith, length-drop (i * k) x))

row_taken : (k : ℕ) {i n : ℕ} (l : List ℕ) → length (take (n * k) l) ≡ n * k → i < n → row k i l ≡ row k i (take (n * k) l)
row_taken k {i} {n} l e h = ap (row k i) (sym (take-append-drop (n * k) l)) ∙ row_front k (take (n * k) l) (drop (n * k) l) e h

taken_most : (n : ℕ) (l : List ℕ) → length (take n l) ≤ length l
taken_most n l = rw (length-take n l) (min-le_right n (length l))

-- ---- the challenges are drawn into the front of an array

module _ (n : ℕ) {m : ℕ} (fits : n ≤ m) where
  abbrev zeros : List ℕ
  zeros = replicate m 0

  zeros_long : n ≤ length zeros
  zeros_long = rw (length-replicate {A = ℕ} m 0) fits

  pub drawn_front : {y k h : List ℕ} → k ≡ h → y ≡ shake128 k (length (take (n - 0) zeros)) → take n (put_mid 0 (n - 0) zeros y) ≡ shake128 h n
  drawn_front {y} {k} {h} q e =
      let asked : length (take (n - 0) zeros) ≡ n = front_long n zeros zeros_long in
      let is : y ≡ shake128 h n = e ∙ ap₂ shake128 q asked in
      let long : length y ≡ n = ap length is ∙ (sized_shake h n).size in
      ap (λ j. take j (put_mid 0 (n - 0) zeros y)) (sym (sub-zero n)) ∙ front_again n zeros long ∙ is

  pub array_kept : (y : List ℕ) → length y ≡ length (take (n - 0) zeros) → m ≡ length (put_mid 0 (n - 0) zeros y)
  array_kept y kept = sym (same_len_mid 0 (n - 0) zeros y kept ∙ length-replicate {A = ℕ} m 0)

-- as many bytes as are asked for
drawn : (m : List ℕ) {n : ℕ} {out : List ℕ} → out ≡ shake128 m n → Sized n out
drawn m {n} e = rw e (sized_shake m n)

module _ {S : Shape} {public_key s firsts seconds thirds : List ℕ} (f : Files S public_key s) (d : Drawn S s firsts seconds thirds) where
  open S use {parties, executions, wide}

  abbrev n : ℕ
  n = first_challenge_length S

  firsts_sized : Sized (executions * n) (take (executions * n) firsts)
  firsts_sized = drawn (6 ∷ signature_h1 s) d.firsts_are

  seconds_sized : Sized (executions * wide) (take (executions * wide) seconds)
  seconds_sized = drawn (7 ∷ h2_of S s) d.seconds_are

  thirds_sized : Sized (executions * 4) (take (executions * 4) thirds)
  thirds_sized = drawn (8 ∷ signature_h3 s) d.thirds_are

  module _ {e : ℕ} (l : e < executions) where
    -- they are there, and few
    pub first_room : e * n + n ≤ length firsts
    first_room = omega (arith, row_fits n l, firsts_sized.size, taken_most (executions * n) firsts)

    pub first_most : e * n + n ≤ 2460
    first_most = omega (arith, row_fits n l, firsts_most f.valid)

    pub second_room : e * wide + wide ≤ length seconds
    second_room = omega (arith, row_fits wide l, seconds_sized.size, taken_most (executions * wide) seconds)

    pub third_room : e * 4 + 4 ≤ length thirds
    third_room = omega (arith, row_fits 4 l, thirds_sized.size, taken_most (executions * 4) thirds)

    -- ---- what the execution is given

    module _ {salt first frame : List ℕ} {hidden second : ℕ} (salt_is : salt ≡ signature_salt s)
        (hidden_is : hidden ≡ party_of parties (number_at 4 e thirds)) (first_is : first ≡ row n e firsts)
        (second_is : second ≡ evaluation_point S.m2 (number_at wide e seconds)) (frame_is : frame ≡ frame_of (scheme_of S) s e) where
      first_taken : first ≡ row n e (take (executions * n) firsts)
      first_taken = first_is ∙ row_taken n firsts firsts_sized.size l

      second_taken : second ≡ evaluation_point S.m2 (number_at wide e (take (executions * wide) seconds))
      second_taken = second_is ∙ ap (λ r. evaluation_point S.m2 (number r)) (row_taken wide seconds seconds_sized.size l)

      hidden_taken : hidden ≡ party_of parties (number_at 4 e (take (executions * 4) thirds))
      hidden_taken = hidden_is ∙ ap (λ r. party_of parties (number r)) (row_taken 4 thirds thirds_sized.size l)

      pub given : Given S public_key salt hidden first second frame
      given = record {
        valid = f.valid;
        public_sized = f.public_sized;
        salt_size = ap length salt_is ∙ salt_long s (omega (arith, f.file_sized.size));
        hidden_below = rw hidden_is (hidden_lt f.valid (number_at 4 e thirds));
        first_sized = rw first_taken (sized_row n executions firsts_sized e l);
        second_wide = rw second_taken (second_wide f.valid e seconds_sized.bytes);
        frame_sized = rw frame_is (sized_frame S s f.file_sized l);
      }

      hidden_right : hidden ≡ hidden_party (scheme_of S) (signature_h3 s) e
      unfolding hidden_party
      hidden_right = hidden_taken ∙ ap (λ t. party_of parties (number_at 4 e t)) d.thirds_are

      first_right : first ≡ first_challenge (scheme_of S) (signature_h1 s) e
      unfolding first_challenge
      first_right = first_taken ∙ ap (row n e) d.firsts_are

      second_right : second ≡ second_challenge (scheme_of S) (h2_of S s) e
      unfolding second_challenge
      second_right = second_taken ∙ ap (λ t. evaluation_point S.m2 (number_at wide e t)) d.seconds_are

      first_part_lem : shown_h1 S public_key salt e hidden first second frame (seed_shown S salt e hidden frame) ≡ first_part S s public_key e
      unfolding shown_h1 frame_h1_part
      first_part_lem = rw (salt_is, hidden_right, frame_is) refl

      third_part_lem : shown_h3 S public_key salt e hidden first second frame (seed_shown S salt e hidden frame) ≡ third_part S s public_key e
      unfolding shown_h3 frame_h3_part
      third_part_lem = rw (salt_is, hidden_right, first_right, second_right, frame_is) refl

      -- the hashes absorb them after those of the executions before
      pub turn : {x y u v x' y' : Sponge} → Absorbed S public_key s x y e u v
          → x' ≡ absorbed u (shown_h1 S public_key salt e hidden first second frame (seed_shown S salt e hidden frame))
          → y' ≡ absorbed v (shown_h3 S public_key salt e hidden first second frame (seed_shown S salt e hidden frame))
          → Absorbed S public_key s x y (e + 1) x' y'
      turn {x} {y} {u} {v} before is is' = record {
        first = part_more (first_part S s public_key) e x before.first (is ∙ ap (absorbed u) first_part_lem);
        third = part_more (third_part S s public_key) e y before.third (is' ∙ ap (absorbed v) third_part_lem);
      }
