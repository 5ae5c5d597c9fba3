-- One execution of a signature made with a good key: what is recomputed from its frame is what was hashed. Assumes nothing.
use Rattle.std.specs.Prelude.{◌≡◌, ◌≢◌, List, ℕ, ◌<◌}
use Rattle.std.proofs.Common.{sym, ◌∙◌, ap₂, arith}
use Rattle.std.proofs.Math.Path.{ap}
use Rattle.slices.specs.Bytes.{Sized}
use Rattle.poly.specs.Index.{at, at_cases}
use Rattle.poly.specs.Sum.{sum}
use Rattle.banquet.specs.Scheme.{Scheme, wide_ops}
use Rattle.banquet.specs.Hash.{commitment, tape, first_challenge, second_challenge}
use Rattle.banquet.specs.Tree.{shown_leaves, seed_at}
use Rattle.banquet.specs.Key.{front_of, ciphertext_of}
use Rattle.banquet.specs.Execution.{Committed, Challenge, challenge, output_share, opened_c, opened_a, opened_b}
use Rattle.banquet.specs.Signature.{
  signer_committed,
  signer_seed,
  signer_tape,
  signer_h1_part,
  signer_h1,
  signer_h2,
  signer_challenge,
  signer_c,
  signer_a,
  signer_b,
  signer_h3_part,
  signer_h3,
  signer_hidden,
  signer_frame,
  completed,
  completed_output,
  frame_part,
  frame_c,
  frame_a,
  frame_b,
  frame_committed,
  frame_challenge,
  frame_seed,
  frame_tape,
  frame_h1_part,
  frame_h3_part,
}
use Rattle.theorems.specs.Laws.{Laws}
use Rattle.theorems.specs.Inputs.{SignInput}
use Rattle.theorems.specs.Keys.{sized_front}
use Rattle.theorems.specs.Shares.{IsTape, Fits, sized_output_share}
use Rattle.theorems.specs.Seeds.{shown_siblings}
use Rattle.theorems.specs.Honest.{honest_outputs}
use Rattle.theorems.specs.Recomputed.{completed_right, completed_output_right, h1_part_cong, h3_part_cong, hidden_lt}
use Rattle.theorems.specs.SignatureFrame as one

module _ (𝓢 : Scheme) (L : Laws 𝓢) (key public_key message salt seeds : List ℕ) (input : SignInput 𝓢 key public_key message salt seeds) where
  open 𝓢.shape use {parties, executions, depth, wide, m1, m2, front}

  abbrev f : List ℕ
  f = front_of 𝓢 public_key

  abbrev ct : List ℕ
  ct = ciphertext_of 𝓢 public_key

  sf : Sized front f
  sf = sized_front 𝓢 L input.public_sized

  abbrev h1 : List ℕ
  h1 = signer_h1 𝓢 key public_key message salt seeds

  abbrev h2 : List ℕ
  h2 = signer_h2 𝓢 key public_key message salt seeds

  abbrev h3 : List ℕ
  h3 = signer_h3 𝓢 key public_key message salt seeds

  abbrev frame : ℕ → List ℕ
  frame = signer_frame 𝓢 key public_key message salt seeds

  module _ (e : ℕ) where
    abbrev x : Committed
    x = signer_committed 𝓢 key public_key salt seeds e

    abbrev d : Challenge
    d = signer_challenge 𝓢 key public_key message salt seeds e

    abbrev seed : ℕ → List ℕ
    seed = signer_seed 𝓢 salt seeds e

    abbrev tapes : ℕ → List ℕ
    tapes = signer_tape 𝓢 salt seeds e

    abbrev hidden : ℕ
    hidden = signer_hidden 𝓢 key public_key message salt seeds e

    -- what is read back
    ts : (i : ℕ) → i < parties → IsTape 𝓢 L (tapes i)
    ts = one.ts 𝓢 L key public_key message salt seeds input e

    fits : Fits 𝓢 L x
    fits = one.fits 𝓢 L key public_key message salt seeds input e

    is_C : frame_c 𝓢 (frame e) ≡ signer_c 𝓢 key public_key message salt seeds e
    is_C = one.is_C 𝓢 L key public_key message salt seeds input e

    is_A : (j : ℕ) → j < m1 → frame_a 𝓢 (frame e) j ≡ signer_a 𝓢 key public_key message salt seeds e j
    is_A = one.is_A 𝓢 L key public_key message salt seeds input e

    is_B : (j : ℕ) → j < m1 → frame_b 𝓢 (frame e) j ≡ signer_b 𝓢 key public_key message salt seeds e j
    is_B = one.is_B 𝓢 L key public_key message salt seeds input e

    is_x : frame_committed 𝓢 public_key (frame e) ≡ x
    is_x = λ i. record {
      front = f;
      key_offset = one.is 𝓢 L key public_key message salt seeds input e 2 i;
      inverse_offsets = one.is 𝓢 L key public_key message salt seeds input e 3 i;
    }

    is_d : frame_challenge 𝓢 h1 h2 e (frame e) ≡ d
    is_d = ap (λ o. challenge 𝓢 (first_challenge 𝓢 h1 e) o (second_challenge 𝓢 h2 e)) (one.is 𝓢 L key public_key message salt seeds input e 4)

    shown : (i : ℕ) → i < parties → i ≢ hidden → frame_seed 𝓢 salt h3 e (frame e) i ≡ seed i
    shown i l ne =
        let le = L.enough_leaves in
        let h = hidden_lt 𝓢 L h3 e in
        ap (λ (q : List ℕ). seed_at (shown_leaves 𝓢.hash salt e depth 0 q hidden) i) (one.is 𝓢 L key public_key message salt seeds input e 0)
        ∙ shown_siblings 𝓢.hash L.hash_sized salt e depth 0 _ hidden i (omega arith) (omega arith) ne

    shown_tape : (i : ℕ) → i < parties → i ≢ hidden → frame_tape 𝓢 salt h3 e (frame e) i ≡ tapes i
    shown_tape i l ne = ap (tape 𝓢 salt e i) (shown i l ne)

    pub first_is : frame_h1_part 𝓢 public_key salt h3 e (frame e) ≡ signer_h1_part 𝓢 key public_key salt seeds e
    unfolding frame_h1_part signer_h1_part
    first_is =
        h1_part_cong 𝓢 L commitments outputs (one.is 𝓢 L key public_key message salt seeds input e 2)
        (one.is 𝓢 L key public_key message salt seeds input e 3)
      where
        commitments : (i : ℕ) → i < parties
            → at i hidden (frame_part 𝓢 (frame e) 1) (commitment 𝓢 salt e i (frame_seed 𝓢 salt h3 e (frame e) i))
            ≡ commitment 𝓢 salt e i (seed i)
        commitments i l =
            at_cases (λ c. c ≡ commitment 𝓢 salt e i (seed i)) i hidden _ _
            (λ p. one.is 𝓢 L key public_key message salt seeds input e 1 ∙ ap (λ k. commitment 𝓢 salt e k (seed k)) (sym p))
            (λ n. ap (commitment 𝓢 salt e i) (shown i l n))

        outputs : (i : ℕ) → i < parties
            → completed_output 𝓢 hidden ct
            (λ k. output_share 𝓢 (frame_committed 𝓢 public_key (frame e)) k (frame_tape 𝓢 salt h3 e (frame e) k)) i
            ≡ output_share 𝓢 x i (tapes i)
        outputs =
            completed_output_right 𝓢 L (λ k. output_share 𝓢 x k (tapes k)) _ hidden ct (hidden_lt 𝓢 L h3 e)
            (λ k m. sized_output_share 𝓢 L x fits k (ts k m))
            (λ k m n. ap₂ (λ c t. output_share 𝓢 c k t) is_x (shown_tape k m n))
            (honest_outputs 𝓢 L f key ct tapes ts sf input.key_sized input.good)

    -- Shares of any kind: the hidden one is completed from the sum.
    completes : (g : Committed → ℕ → List ℕ → Challenge → ℕ) (whole : ℕ) → whole ≡ sum (wide_ops 𝓢) parties (λ k. g x k (tapes k) d)
        → (i : ℕ) → i < parties
        → completed 𝓢 hidden whole (λ k. g (frame_committed 𝓢 public_key (frame e)) k (frame_tape 𝓢 salt h3 e (frame e) k)
        (frame_challenge 𝓢 h1 h2 e (frame e))) i
        ≡ g x i (tapes i) d
    completes g whole w =
        completed_right 𝓢 L (λ k. g x k (tapes k) d) _ hidden whole (hidden_lt 𝓢 L h3 e) (λ k m n. λ i. g (is_x i) k (shown_tape k m n i) (is_d i)) w

    pub third_is : frame_h3_part 𝓢 public_key salt h1 h2 h3 e (frame e) ≡ signer_h3_part 𝓢 key public_key message salt seeds e
    unfolding frame_h3_part signer_h3_part
    third_is =
        h3_part_cong 𝓢 L is_C is_A is_B (completes (λ c k s v. opened_c 𝓢 k s v) _ is_C)
        (λ i j l q. completes (λ c k s v. opened_a 𝓢 c k s v j) _ (is_A j q) i l)
        (λ i j l q. completes (λ c k s v. opened_b 𝓢 c k s v j) _ (is_B j q) i l)
