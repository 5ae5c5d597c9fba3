-- Signatures (01: seals): what the hashes bind, how a signature is made, how it is read, and what its check recomputes.
use Rattle.std.specs.Prelude.{Bool, List, [], ◌∷◌, ◌++◌, ℕ, eqb, ltb, length, drop}
use Rattle.std.specs.Int.Bits.{bit_xor}
use Rattle.slices.specs.Lists.{choose, rows, row, sum_xor, zip_xor, same}
use Rattle.slices.specs.Numbers.{number, bytes_of, number_at, numbers}
use Rattle.slices.specs.Layout.{field, total, layout}
use Rattle.poly.specs.Index.{at}
use Rattle.poly.specs.Sum.{sum}
use Rattle.banquet.specs.declared.Refusal.TheVariants.{ProductDiffers, FirstHashDiffers, ThirdHashDiffers}
use Rattle.banquet.specs.Shape.{head_sizes, head_length, frame_sizes, signature_length}
use Rattle.banquet.specs.Scheme.{Scheme, wide_ops, wide_mul}
use Rattle.banquet.specs.Answer.{Answer, accepted, Test, in_order, each}
use Rattle.banquet.specs.Hash.{
  commitment,
  tape,
  first_hash,
  second_hash,
  third_hash,
  first_challenge,
  second_challenge,
  hidden_party,
}
use Rattle.banquet.specs.Tree.{sibling_seeds, shown_leaves, seed_at}
use Rattle.banquet.specs.Key.{front_of, ciphertext_of}
use Rattle.banquet.specs.Execution.{Committed, Challenge, challenge, output_share, opened_c, opened_a, opened_b}
use Rattle.banquet.specs.Signer.{seed_of, tape_of, own_committed, product_offsets}

-- the root seeds are 16 bytes for each execution
abbrev pub root_of : List ℕ → ℕ → List ℕ
root_of seeds e = row 16 e seeds

-- the head of a signature s: "salt, h1, h3 (32 each)"
abbrev pub signature_salt : List ℕ → List ℕ
signature_salt s = field head_sizes 0 s

abbrev pub signature_h1 : List ℕ → List ℕ
signature_h1 s = field head_sizes 1 s

abbrev pub signature_h3 : List ℕ → List ℕ
signature_h3 s = field head_sizes 2 s

module _ (𝓢 : Scheme) where
  open 𝓢.shape use {parties, depth, executions, wide, m1}

  -- ---- what h1 and h3 bind of an execution

  -- h1: "16 commitments, 16 output shares, key offset, 200 inverse offsets"
  unfoldable pub h1_part : (ℕ → List ℕ) → (ℕ → List ℕ) → List ℕ → List ℕ → List ℕ
  h1_part commitments outputs key_offset inverse_offsets =
      rows commitments parties ++ rows outputs parties ++ key_offset ++ inverse_offsets

  -- "c (4), a (40), b (40)"
  abbrev pub opened_bytes : ℕ → (ℕ → ℕ) → (ℕ → ℕ) → List ℕ
  opened_bytes c a b = bytes_of wide c ++ numbers wide m1 a ++ numbers wide m1 b

  -- h3: "the sums c, a, b and each party's c, a, b"
  unfoldable pub h3_part : ℕ → (ℕ → ℕ) → (ℕ → ℕ) → (ℕ → ℕ) → (ℕ → ℕ → ℕ) → (ℕ → ℕ → ℕ) → List ℕ
  h3_part c a b share_c share_a share_b = opened_bytes c a b ++ rows (λ i. opened_bytes (share_c i) (share_a i) (share_b i)) parties

  -- ---- how a signature is made

  module _ (salt seeds : List ℕ) where
    abbrev pub signer_seed : ℕ → ℕ → List ℕ
    signer_seed e = seed_of 𝓢 salt (root_of seeds e) e

    abbrev pub signer_tape : ℕ → ℕ → List ℕ
    signer_tape e = tape_of 𝓢 salt (root_of seeds e) e

  module _ (key public_key salt seeds : List ℕ) where
    abbrev pub signer_committed : ℕ → Committed
    signer_committed e = own_committed 𝓢 (signer_tape salt seeds e) (front_of 𝓢 public_key) key

    unfoldable pub signer_h1_part : ℕ → List ℕ
    signer_h1_part e =
        h1_part (λ i. commitment 𝓢 salt e i (signer_seed salt seeds e i)) (λ i. output_share 𝓢 (signer_committed e) i (signer_tape salt seeds e i))
        (signer_committed e).key_offset (signer_committed e).inverse_offsets

  module _ (key public_key message salt seeds : List ℕ) where
    abbrev tapes : ℕ → ℕ → List ℕ
    tapes = signer_tape salt seeds

    abbrev x : ℕ → Committed
    x = signer_committed key public_key salt seeds

    unfoldable pub signer_h1 : List ℕ
    signer_h1 = first_hash 𝓢 public_key message salt (signer_h1_part key public_key salt seeds)

    unfoldable pub signer_offsets : ℕ → List ℕ
    signer_offsets e = product_offsets 𝓢 (tapes e) (front_of 𝓢 public_key) key (first_challenge 𝓢 signer_h1 e)

    unfoldable pub signer_h2 : List ℕ
    signer_h2 = second_hash 𝓢 signer_h1 signer_offsets

    abbrev pub signer_challenge : ℕ → Challenge
    signer_challenge e = challenge 𝓢 (first_challenge 𝓢 signer_h1 e) (signer_offsets e) (second_challenge 𝓢 signer_h2 e)

    -- the shares of c, a_j and b_j by party, and their sums
    abbrev pub share_c : ℕ → ℕ → ℕ
    share_c e i = opened_c 𝓢 i (tapes e i) (signer_challenge e)

    abbrev pub share_a : ℕ → ℕ → ℕ → ℕ
    share_a e i = opened_a 𝓢 (x e) i (tapes e i) (signer_challenge e)

    abbrev pub share_b : ℕ → ℕ → ℕ → ℕ
    share_b e i = opened_b 𝓢 (x e) i (tapes e i) (signer_challenge e)

    abbrev pub signer_c : ℕ → ℕ
    signer_c e = sum (wide_ops 𝓢) parties (share_c e)

    abbrev pub signer_a : ℕ → ℕ → ℕ
    signer_a e j = sum (wide_ops 𝓢) parties (λ i. share_a e i j)

    abbrev pub signer_b : ℕ → ℕ → ℕ
    signer_b e j = sum (wide_ops 𝓢) parties (λ i. share_b e i j)

    unfoldable pub signer_h3_part : ℕ → List ℕ
    signer_h3_part e = h3_part (signer_c e) (signer_a e) (signer_b e) (share_c e) (share_a e) (share_b e)

    unfoldable pub signer_h3 : List ℕ
    signer_h3 = third_hash 𝓢 signer_h2 signer_h3_part

    abbrev pub signer_hidden : ℕ → ℕ
    signer_hidden e = hidden_party 𝓢 signer_h3 e

    -- "four sibling seeds from the top down (64), hidden commitment (32), key offset (16), inverse offsets (200), product offsets (84), c (4),
    -- a (40), b (40)"
    unfoldable pub signer_frame : ℕ → List ℕ
    signer_frame e =
        layout
        (sibling_seeds 𝓢.hash salt e depth 0 (root_of seeds e) (signer_hidden e)
        ∷ commitment 𝓢 salt e (signer_hidden e) (signer_seed salt seeds e (signer_hidden e))
        ∷ (x e).key_offset ∷ (x e).inverse_offsets ∷ signer_offsets e
        ∷ bytes_of wide (signer_c e) ∷ numbers wide m1 (signer_a e) ∷ numbers wide m1 (signer_b e) ∷ [])

    -- "salt, h1, h3 (32 each), then 41 frames"
    unfoldable pub signature : List ℕ
    signature = layout (salt ∷ signer_h1 ∷ signer_h3 ∷ []) ++ rows signer_frame executions

  -- ---- how a signature s is read

  -- "A reader that wants frame e is handed that part of the caller's own file, or an empty part if e is over 40 or the file hasn't exactly a seal's
  -- length."
  unfoldable pub frame_of : List ℕ → ℕ → List ℕ
  frame_of s e =
      choose (eqb (length s) (signature_length 𝓢.shape))
      (choose (ltb e executions) (row (total (frame_sizes 𝓢.shape)) e (drop head_length s)) []) []

  module _ (frame : List ℕ) where
    abbrev pub frame_part : ℕ → List ℕ
    frame_part k = field (frame_sizes 𝓢.shape) k frame

    abbrev pub frame_c : ℕ
    frame_c = number (frame_part 5)

    abbrev pub frame_a : ℕ → ℕ
    frame_a j = number_at wide j (frame_part 6)

    abbrev pub frame_b : ℕ → ℕ
    frame_b j = number_at wide j (frame_part 7)

    -- "c isn't the sum of a_j times b_j"
    unfoldable pub frame_holds : Bool
    frame_holds = eqb frame_c (sum (wide_ops 𝓢) m1 (λ j. wide_mul 𝓢 (frame_a j) (frame_b j)))

  -- ---- what the check recomputes

  -- "The checker works hidden shares out as sum minus the rest": party i's share, where f has those of the shown parties
  unfoldable pub completed : ℕ → ℕ → (ℕ → ℕ) → ℕ → ℕ
  completed hidden whole f i = at i hidden (bit_xor whole (sum (wide_ops 𝓢) parties (λ k. at k hidden 0 (f k)))) (f i)

  -- "the hidden output share from the ciphertext"; [] is the zero of `zip_xor`
  unfoldable pub completed_output : ℕ → List ℕ → (ℕ → List ℕ) → ℕ → List ℕ
  completed_output hidden whole f i = at i hidden (zip_xor whole (sum_xor parties (λ k. at k hidden [] (f k)))) (f i)

  -- of execution e, from its frame

  abbrev pub frame_committed : List ℕ → List ℕ → Committed
  frame_committed public_key frame = record {
    front = front_of 𝓢 public_key;
    key_offset = frame_part frame 2;
    inverse_offsets = frame_part frame 3;
  }

  module _ (salt h3 : List ℕ) (e : ℕ) (frame : List ℕ) where
    abbrev pub frame_seed : ℕ → List ℕ
    frame_seed i = seed_at (shown_leaves 𝓢.hash salt e depth 0 (frame_part frame 0) (hidden_party 𝓢 h3 e)) i

    abbrev pub frame_tape : ℕ → List ℕ
    frame_tape i = tape 𝓢 salt e i (frame_seed i)

  unfoldable pub frame_h1_part : List ℕ → List ℕ → List ℕ → ℕ → List ℕ → List ℕ
  frame_h1_part public_key salt h3 e frame =
      h1_part (λ i. at i (hidden_party 𝓢 h3 e) (frame_part frame 1) (commitment 𝓢 salt e i (frame_seed salt h3 e frame i)))
      (completed_output (hidden_party 𝓢 h3 e) (ciphertext_of 𝓢 public_key)
      (λ i. output_share 𝓢 (frame_committed public_key frame) i (frame_tape salt h3 e frame i)))
      (frame_part frame 2) (frame_part frame 3)

  abbrev pub frame_challenge : List ℕ → List ℕ → ℕ → List ℕ → Challenge
  frame_challenge h1 h2 e frame = challenge 𝓢 (first_challenge 𝓢 h1 e) (frame_part frame 4) (second_challenge 𝓢 h2 e)

  module _ (public_key salt h1 h2 h3 : List ℕ) (e : ℕ) (frame : List ℕ) where
    abbrev hidden : ℕ
    hidden = hidden_party 𝓢 h3 e

    abbrev tapes' : ℕ → List ℕ
    tapes' = frame_tape salt h3 e frame

    abbrev d : Challenge
    d = frame_challenge h1 h2 e frame

    unfoldable pub frame_h3_part : List ℕ
    frame_h3_part =
        h3_part (frame_c frame) (frame_a frame) (frame_b frame)
        (completed hidden (frame_c frame) (λ i. opened_c 𝓢 i (tapes' i) d))
        (λ i j. completed hidden (frame_a frame j) (λ k. opened_a 𝓢 (frame_committed public_key frame) k (tapes' k) d j) i)
        (λ i j. completed hidden (frame_b frame j) (λ k. opened_b 𝓢 (frame_committed public_key frame) k (tapes' k) d j) i)

  -- of all executions

  -- h2, which a signature doesn't carry, from its own h1 and product offsets
  abbrev pub own_h2 : List ℕ → (ℕ → List ℕ) → List ℕ
  own_h2 h1 frames = second_hash 𝓢 h1 (λ e. frame_part (frames e) 4)

  abbrev pub recomputed_h1 : List ℕ → List ℕ → List ℕ → List ℕ → (ℕ → List ℕ) → List ℕ
  recomputed_h1 public_key message salt h3 frames = first_hash 𝓢 public_key message salt (λ e. frame_h1_part public_key salt h3 e (frames e))

  abbrev pub recomputed_h3 : List ℕ → List ℕ → List ℕ → List ℕ → (ℕ → List ℕ) → List ℕ
  recomputed_h3 public_key salt h1 h3 frames =
      third_hash 𝓢 (own_h2 h1 frames) (λ e. frame_h3_part public_key salt h1 (own_h2 h1 frames) h3 e (frames e))

  module _ (public_key message salt h1 h3 : List ℕ) (frames : ℕ → List ℕ) where
    -- numbers 16 and 17, in order
    abbrev pub hash_tests : List Test
    hash_tests =
        (same (recomputed_h1 public_key message salt h3 frames) h1, FirstHashDiffers)
        ∷ (same (recomputed_h3 public_key salt h1 h3 frames) h3, ThirdHashDiffers) ∷ []

    -- Number 15, and then those.
    unfoldable pub check_signature : Answer
    check_signature = each executions 0 (λ e. frame_holds (frames e)) ProductDiffers (in_order hash_tests accepted)
