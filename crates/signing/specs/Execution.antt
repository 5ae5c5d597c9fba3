-- One execution: what the steps leave in its frame, and what h2 and h3 absorb of it, in the terms of the definitions. Assumes nothing.
use Rattle.std.specs.Prelude.{◌≡◌, ℕ, ◌+◌, ◌*◌, length}
use Rattle.std.proofs.Math.Path.{ap, ap₂}
use Rattle.std.proofs.Common.{◌∙◌}
use mathlib.Core.List.{List, ◌++◌}
use Rattle.std.proofs.Math.ListN.{drop}
use Rattle.slices.specs.Lists.{rows, row, part, put, sum_xor}
use Rattle.slices.specs.Numbers.{bytes_of, numbers}
use Rattle.slices.specs.Layout.{total}
use Rattle.shake.specs.Shake128.{shake128}
use Rattle.banquet.specs.declared.Shape.{Shape}
use Rattle.banquet.specs.Shape.{tape_sizes, frame_sizes}
use Rattle.banquet.specs.Sets.{scheme_of}
use Rattle.banquet.specs.Key.{front_of}
use Rattle.banquet.specs.Hash.{commitment, first_challenge, second_challenge}
use Rattle.banquet.specs.Tree.{sibling_seeds}
use Rattle.banquet.specs.Execution.{Committed, Challenge, challenge}
use Rattle.banquet.specs.Signer.{seed_of, tape_of}
use Rattle.banquet.specs.Signature.{
  h3_part,
  opened_bytes,
  signer_committed,
  signer_h1,
  signer_offsets,
  signer_h2,
  signer_challenge,
  signer_c,
  signer_a,
  signer_b,
  signer_h3_part,
  signer_hidden,
  signer_frame,
}
use Rattle.sets.specs.Valid.{Valid}
use Rattle.forms.specs.Point.{point_rows, point_lasts}
use Rattle.forms.specs.Party.{committed, share_row}
use Rattle.forms.specs.Offsets.{worked_offsets}
use Rattle.signing.specs.Steps.{
  witness_length,
  offsets_at,
  own_row,
  offset_frame,
  frame_shares,
  opened_frame,
  opened_part,
  finished_frame,
}
use Rattle.signing.specs.Sums.{opened_rows, opened_sums}
use Rattle.signing.specs.Own.{own_long}
use Rattle.signing.specs.Frames.{begun_row, held_products, field_key, field_inverses, field_products, opened_tail, assembled}
use Rattle.signing.specs.Kept.{sums_long}
use Rattle.signing.specs.Witness.{Witness, witness_long, key_is, inverses_are, offsets_are, offsets_long}

module _ {S : Shape} {key public_key inputs inverses witness : List ℕ} (w : Witness S key public_key inputs inverses witness) (v : Valid S)
    (message salt roots : List ℕ) (e : ℕ) (d : List ℕ) (long : length d ≡ total (frame_sizes S)) where
  open S use {parties, depth, wide, m1}

  abbrev root : List ℕ
  root = row 16 e roots

  abbrev own : List ℕ
  own = own_row S witness salt root e

  own_size : length own ≡ total (tape_sizes S)
  own_size = own_long v witness salt root e (witness_long v w)

  abbrev x : Committed
  x = signer_committed (scheme_of S) key public_key salt roots e

  -- ---- under the first challenge

  abbrev first : List ℕ
  first = first_challenge (scheme_of S) (signer_h1 (scheme_of S) key public_key message salt roots) e

  abbrev offsets : List ℕ
  offsets = signer_offsets (scheme_of S) key public_key message salt roots e

  offsets_size : length offsets ≡ 21 * wide
  offsets_size = offsets_long v w message salt roots e

  abbrev held : List ℕ
  held = offset_frame S (point_rows S inputs) (point_rows S inverses) (point_lasts S) first (put d (offsets_at S) own)

  held_is : held ≡ put (put d (offsets_at S) own) (offsets_at S + witness_length S) offsets
  unfolding offset_frame
  held_is =
      ap (put (put d (offsets_at S) own) (offsets_at S + witness_length S))
      (ap (λ s. worked_offsets S (point_rows S inputs) (point_rows S inverses) (point_lasts S) s first)
      (begun_row v d own offsets long own_size offsets_size)
      ∙ offsets_are v w message salt roots e)

  pub second_part : part (offsets_at S + witness_length S) (21 * wide) held ≡ offsets
  second_part = ap (part (offsets_at S + witness_length S) (21 * wide)) held_is ∙ held_products v d own offsets long own_size offsets_size

  -- ---- under the second challenge

  abbrev second : ℕ
  second = second_challenge (scheme_of S) (signer_h2 (scheme_of S) key public_key message salt roots) e

  abbrev c : Challenge
  c = signer_challenge (scheme_of S) key public_key message salt roots e

  abbrev tapes : ℕ → List ℕ
  tapes = tape_of (scheme_of S) salt root e

  shares : frame_shares S (front_of (scheme_of S) public_key) salt root e first second held ≡ (λ i. share_row (scheme_of S) x c i (tapes i))
  unfolding frame_shares
  shares =
      ap (frame_shares S (front_of (scheme_of S) public_key) salt root e first second) held_is
      ∙ (λ j i.
      share_row (scheme_of S)
      (committed (front_of (scheme_of S) public_key)
      ((field_key v d own offsets long own_size offsets_size ∙ key_is v w message salt roots e) j)
      ((field_inverses v d own offsets long own_size offsets_size ∙ inverses_are v w message salt roots e) j))
      (challenge (scheme_of S) first (field_products v d own offsets long own_size offsets_size j) second) i (tapes i))

  abbrev sums : List ℕ
  sums = drop 16 (sum_xor parties (frame_shares S (front_of (scheme_of S) public_key) salt root e first second held))

  abbrev C : ℕ
  C = signer_c (scheme_of S) key public_key message salt roots e

  abbrev A : ℕ → ℕ
  A = signer_a (scheme_of S) key public_key message salt roots e

  abbrev B : ℕ → ℕ
  B = signer_b (scheme_of S) key public_key message salt roots e

  sums_are : sums ≡ opened_bytes (scheme_of S) C A B
  sums_are = ap (λ f. drop 16 (sum_xor parties f)) shares ∙ opened_sums S x c tapes v.some

  pub third_part_lem : opened_part S (front_of (scheme_of S) public_key) salt root e first second held ≡ signer_h3_part (scheme_of S) key public_key message salt roots e
  unfolding opened_part signer_h3_part h3_part
  third_part_lem = ap₂ ◌++◌ sums_are (ap (λ f. rows (λ i. drop 16 (f i)) parties) shares ∙ opened_rows S x c tapes)

  abbrev opened : List ℕ
  opened = opened_frame S (front_of (scheme_of S) public_key) salt root e first second held

  tail : drop (offsets_at S) opened ≡ (x.key_offset ++ x.inverse_offsets) ++ (offsets ++ opened_bytes (scheme_of S) C A B)
  unfolding opened_frame
  tail =
      ap (λ f. drop (offsets_at S) (put f (offsets_at S + witness_length S + 21 * wide) sums)) held_is
      ∙ opened_tail v d own offsets long own_size offsets_size sums (sums_long v (front_of (scheme_of S) public_key) salt root e first second held)
      ∙ (λ j. (key_is v w message salt roots e j ++ inverses_are v w message salt roots e j) ++ (offsets ++ sums_are j))

  -- ---- when the hidden party is known

  pub frame_made : finished_frame S salt root e (signer_hidden (scheme_of S) key public_key message salt roots e) opened
      ≡ signer_frame (scheme_of S) key public_key message salt roots e
  unfolding finished_frame signer_frame
  frame_made =
      let hidden = signer_hidden (scheme_of S) key public_key message salt roots e in
      let siblings = sibling_seeds shake128 salt e depth 0 root hidden in
      let hides = commitment (scheme_of S) salt e hidden (seed_of (scheme_of S) salt root e hidden) in
      ap (λ t. siblings ++ (hides ++ t)) tail
      ∙ assembled siblings hides x.key_offset x.inverse_offsets offsets (bytes_of wide C) (numbers wide m1 A) (numbers wide m1 B)
