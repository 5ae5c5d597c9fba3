-- The steps in which the holder of the key makes a signature's frames, each from what the step before left in the frame.
use Rattle.std.specs.Prelude.{List, ◌++◌, ℕ, ◌+◌, ◌*◌, take, drop}
use Rattle.slices.specs.Lists.{rows, part, put, zip_xor, sum_xor}
use Rattle.slices.specs.Layout.{total}
use Rattle.shake.specs.Shake128.{shake128}
use Rattle.banquet.specs.declared.Shape.{Shape}
use Rattle.banquet.specs.Shape.{sboxes, tape_sizes, frame_sizes}
use Rattle.banquet.specs.Sets.{scheme_of}
use Rattle.banquet.specs.Hash.{commitment}
use Rattle.banquet.specs.Tree.{sibling_seeds}
use Rattle.banquet.specs.Execution.{Committed, challenge, output_share}
use Rattle.banquet.specs.Signer.{seed_of, tape_of}
use Rattle.banquet.specs.Signature.{frame_part}
use Rattle.forms.specs.Party.{committed, share_row}
use Rattle.forms.specs.Offsets.{worked_offsets}

module _ (S : Shape) where
  open S use {parties, depth, wide, m1}

  -- where a frame's offsets begin: behind the sibling seeds and the hidden commitment
  abbrev pub offsets_at : ℕ
  offsets_at = total (take 2 (frame_sizes S))

  -- the bytes of key and inverses, or of their offsets
  abbrev pub witness_length : ℕ
  witness_length = 16 + sboxes S

  -- the bytes of c, a and b
  abbrev pub opened_length : ℕ
  opened_length = wide + 2 * (m1 * wide)

  -- ---- before the first challenge; `witness` is the key and then the inverses of the S-boxes' inputs

  -- the sum of all tapes, with the true values of key and inverses added: "An offset is the true value plus the sum of tape shares."
  unfoldable pub own_row : List ℕ → List ℕ → List ℕ → ℕ → List ℕ
  own_row witness salt root e = zip_xor (sum_xor parties (tape_of (scheme_of S) salt root e)) witness

  module _ (front witness salt root : List ℕ) (e : ℕ) where
    abbrev own : List ℕ
    own = own_row witness salt root e

    abbrev own_commitments : Committed
    own_commitments = committed front (take 16 own) (part 16 (sboxes S) own)

    -- h1: "16 commitments, 16 output shares, key offset, 200 inverse offsets"
    unfoldable pub own_part : List ℕ
    own_part =
        rows (λ i. commitment (scheme_of S) salt e i (seed_of (scheme_of S) salt root e i)) parties
        ++ rows (λ i. output_share (scheme_of S) own_commitments i (tape_of (scheme_of S) salt root e i)) parties ++ take witness_length own

  -- ---- under the first challenge: the product offsets, in the frame behind the other offsets. P's shares "at 20 to 40 .. are tape shares with
  -- product offsets", and P there is "the sum of S_j times T_j".

  unfoldable pub offset_frame : List ℕ → List ℕ → List ℕ → List ℕ → List ℕ → List ℕ
  offset_frame us vs lasts first frame =
      put frame (offsets_at + witness_length) (worked_offsets S us vs lasts (part offsets_at (total (tape_sizes S)) frame) first)

  -- ---- under the second challenge, with the offsets that the frame has: "Opened are c = P(R), a_j = S_j(R), b_j = T_j(R), with shares."

  module _ (front salt root : List ℕ) (e : ℕ) (first : List ℕ) (second : ℕ) (frame : List ℕ) where
    -- party i's shares of the output, of c, a and b
    unfoldable pub frame_shares : ℕ → List ℕ
    frame_shares i =
        share_row (scheme_of S) (committed front (frame_part (scheme_of S) frame 2) (frame_part (scheme_of S) frame 3))
        (challenge (scheme_of S) first (frame_part (scheme_of S) frame 4) second) i (tape_of (scheme_of S) salt root e i)

    -- the sums c, a and b
    abbrev opened_sums : List ℕ
    opened_sums = drop 16 (sum_xor parties frame_shares)

    unfoldable pub opened_frame : List ℕ
    opened_frame = put frame (offsets_at + witness_length + 21 * wide) opened_sums

    -- h3: "the sums c, a, b and each party's c, a, b"
    unfoldable pub opened_part : List ℕ
    opened_part = opened_sums ++ rows (λ i. drop 16 (frame_shares i)) parties

  -- ---- when the hidden party is known: "four sibling seeds from the top down (64), hidden commitment (32)"

  unfoldable pub finished_frame : List ℕ → List ℕ → ℕ → ℕ → List ℕ → List ℕ
  finished_frame salt root e hidden frame =
      sibling_seeds shake128 salt e depth 0 root hidden
      ++ (commitment (scheme_of S) salt e hidden (seed_of (scheme_of S) salt root e hidden) ++ drop offsets_at frame)
