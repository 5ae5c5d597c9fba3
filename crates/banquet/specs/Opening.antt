-- Openings of one execution: how they are read, what their check recomputes, and how they are made.
use Rattle.std.specs.Prelude.{Bool, ◌&&◌, ◌||◌, List, [], ◌∷◌, ◌++◌, ℕ, suc, ◌*◌, eqb, ltb, leb, get_or, take, drop}
use Rattle.slices.specs.Lists.{rows, row, sum_xor, same}
use Rattle.slices.specs.Numbers.{number, bytes_of, number_at, numbers}
use Rattle.slices.specs.Layout.{field, total, layout}
use Rattle.poly.specs.Sum.{sum}
use Rattle.banquet.specs.declared.Shape.{Shape}
use Rattle.banquet.specs.declared.Refusal.TheVariants.{ExecutionRange, HiddenPartyRange, SecondChallengeRange, CommitmentDiffers, ShareDiffers, ProductDiffers}
use Rattle.banquet.specs.Shape.{transcript_sizes}
use Rattle.banquet.specs.Scheme.{Scheme, wide_ops, wide_mul}
use Rattle.banquet.specs.Answer.{Answer, accepted, Test, in_order, each, all}
use Rattle.banquet.specs.Hash.{commitment, tape}
use Rattle.banquet.specs.Tree.{sibling_seeds, shown_leaves, seed_at}
use Rattle.banquet.specs.Key.{front_of, ciphertext_of}
use Rattle.banquet.specs.Execution.{Committed, Challenge, challenge, output_share, opened_c, opened_a, opened_b}
use Rattle.banquet.specs.Signer.{seed_of, tape_of, own_committed, product_offsets}

-- "An opening's execution is over 40, whether lent for opening or read in a check; 9 and 10 likewise.": numbers 8, 9 and 10, in order
abbrev pub range_tests : Shape → ℕ → ℕ → ℕ → List Test
range_tests S e hidden R =
    (ltb e S.executions, ExecutionRange) ∷ (ltb hidden S.parties, HiddenPartyRange) ∷ (leb S.m2 R, SecondChallengeRange) ∷ []

module _ (𝓢 : Scheme) where
  open 𝓢.shape use {parties, depth, wide, m1}

  -- ---- the parts of an opening o: the transcript, which is "all bytes before the hidden party", "hidden party 1, sibling seeds 64"

  abbrev pub transcript_of : List ℕ → List ℕ
  transcript_of o = take (total (transcript_sizes 𝓢.shape)) o

  abbrev pub hidden_of : List ℕ → ℕ
  hidden_of o = get_or o (total (transcript_sizes 𝓢.shape)) 0

  abbrev pub siblings_of : List ℕ → List ℕ
  siblings_of o = drop (suc (total (transcript_sizes 𝓢.shape))) o

  -- ---- the parts of a transcript: "salt 32, e 1, commitments 512, output shares 256, key offset 16, inverse offsets 200, r 40, product offsets 84,
  -- R 4, shares of c 64, of a 640, of b 640 (by party)"

  module _ (transcript : List ℕ) where
    abbrev pub transcript_part : ℕ → List ℕ
    transcript_part k = field (transcript_sizes 𝓢.shape) k transcript

    abbrev pub salt_of : List ℕ
    salt_of = transcript_part 0

    abbrev pub execution_of : ℕ
    execution_of = number (transcript_part 1)

    abbrev pub commitment_of : ℕ → List ℕ
    commitment_of i = row 32 i (transcript_part 2)

    abbrev pub output_of : ℕ → List ℕ
    output_of i = row 16 i (transcript_part 3)

    abbrev pub second_of : ℕ
    second_of = number (transcript_part 8)

    abbrev pub challenge_of : Challenge
    challenge_of = challenge 𝓢 (transcript_part 6) (transcript_part 7) second_of

    -- party i's shares of c, a_j and b_j
    abbrev pub c_of : ℕ → ℕ
    c_of i = number_at wide i (transcript_part 9)

    abbrev pub a_of : ℕ → ℕ → ℕ
    a_of i j = number_at wide j (row (m1 * wide) i (transcript_part 10))

    abbrev pub b_of : ℕ → ℕ → ℕ
    b_of i j = number_at wide j (row (m1 * wide) i (transcript_part 11))

    -- "c isn't the sum of a_j times b_j": "Sums are taken from the shares."
    abbrev pub sum_c : ℕ
    sum_c = sum (wide_ops 𝓢) parties c_of

    abbrev pub sum_a : ℕ → ℕ
    sum_a j = sum (wide_ops 𝓢) parties (λ i. a_of i j)

    abbrev pub sum_b : ℕ → ℕ
    sum_b j = sum (wide_ops 𝓢) parties (λ i. b_of i j)

    abbrev pub product_holds : Bool
    product_holds = eqb sum_c (sum (wide_ops 𝓢) m1 (λ j. wide_mul 𝓢 (sum_a j) (sum_b j)))

    -- party i's tape under a seed
    abbrev pub tape_under : ℕ → List ℕ → List ℕ
    tape_under i seed = tape 𝓢 salt_of execution_of i seed

    -- Party i under a seed has the stated commitment (13).
    unfoldable pub commitment_holds : ℕ → List ℕ → Bool
    commitment_holds i seed = same (commitment 𝓢 salt_of execution_of i seed) (commitment_of i)

    -- "An opening shows every party that it doesn't hide, under the seed that its sibling seeds expand to."
    abbrev pub shown_seed : ℕ → List ℕ → ℕ → List ℕ
    shown_seed hidden seeds i = seed_at (shown_leaves 𝓢.hash salt_of execution_of depth 0 seeds hidden) i

  -- ---- the check

  module _ (public_key transcript : List ℕ) where
    abbrev pub committed_of : Committed
    committed_of = record {
      front = front_of 𝓢 public_key;
      key_offset = transcript_part transcript 4;
      inverse_offsets = transcript_part transcript 5;
    }

    -- Party i under a seed has the stated shares (14).
    module _ (i : ℕ) (seed : List ℕ) where
      abbrev pub output_holds : Bool
      output_holds = same (output_share 𝓢 committed_of i (tape_under transcript i seed)) (output_of transcript i)

      abbrev pub c_holds : Bool
      c_holds = eqb (opened_c 𝓢 i (tape_under transcript i seed) (challenge_of transcript)) (c_of transcript i)

      abbrev pub a_holds : Bool
      a_holds = all m1 (λ j. eqb (opened_a 𝓢 committed_of i (tape_under transcript i seed) (challenge_of transcript) j) (a_of transcript i j))

      abbrev pub b_holds : Bool
      b_holds = all m1 (λ j. eqb (opened_b 𝓢 committed_of i (tape_under transcript i seed) (challenge_of transcript) j) (b_of transcript i j))

    unfoldable pub shares_hold : ℕ → List ℕ → Bool
    shares_hold i seed = output_holds i seed && (c_holds i seed && (a_holds i seed && b_holds i seed))

    -- "the output shares miss the ciphertext"
    abbrev pub outputs_hold : Bool
    outputs_hold = same (sum_xor parties (output_of transcript)) (ciphertext_of 𝓢 public_key)

    -- Numbers 14 and 15, given the parties' seeds.
    unfoldable pub check_shares : ℕ → (ℕ → List ℕ) → Answer
    check_shares hidden seed_of =
        each parties 0 (λ i. eqb i hidden || shares_hold i (seed_of i)) ShareDiffers
        (in_order
        ((outputs_hold, ShareDiffers parties) ∷ (product_holds transcript, ProductDiffers (execution_of transcript)) ∷ []) accepted)

    -- Number 13, and then those.
    unfoldable pub check_parties : ℕ → (ℕ → List ℕ) → Answer
    check_parties hidden seed_of =
        each parties 0 (λ i. eqb i hidden || commitment_holds transcript i (seed_of i)) CommitmentDiffers (check_shares hidden seed_of)

    -- Numbers 8, 9 and 10, and then those.
    unfoldable pub check_opening : ℕ → List ℕ → Answer
    check_opening hidden seeds =
        in_order (range_tests 𝓢.shape (execution_of transcript) hidden (second_of transcript))
        (check_parties hidden (shown_seed transcript hidden seeds))

  -- ---- how an opening is made

  module _ (key public_key salt root first_bytes : List ℕ) (e R : ℕ) where
    abbrev tapes : ℕ → List ℕ
    tapes = tape_of 𝓢 salt root e

    abbrev x : Committed
    x = own_committed 𝓢 tapes (front_of 𝓢 public_key) key

    abbrev offsets : List ℕ
    offsets = product_offsets 𝓢 tapes (front_of 𝓢 public_key) key first_bytes

    abbrev d : Challenge
    d = challenge 𝓢 first_bytes offsets R

    unfoldable pub transcript : List ℕ
    transcript =
        layout
        (salt ∷ (e ∷ []) ∷ rows (λ i. commitment 𝓢 salt e i (seed_of 𝓢 salt root e i)) parties
        ∷ rows (λ i. output_share 𝓢 x i (tapes i)) parties
        ∷ x.key_offset ∷ x.inverse_offsets ∷ first_bytes ∷ offsets ∷ bytes_of wide R
        ∷ numbers wide parties (λ i. opened_c 𝓢 i (tapes i) d)
        ∷ rows (λ i. numbers wide m1 (opened_a 𝓢 x i (tapes i) d)) parties
        ∷ rows (λ i. numbers wide m1 (opened_b 𝓢 x i (tapes i) d)) parties ∷ [])

    unfoldable pub opening : ℕ → List ℕ
    opening hidden = transcript ++ hidden ∷ sibling_seeds 𝓢.hash salt e depth 0 root hidden
