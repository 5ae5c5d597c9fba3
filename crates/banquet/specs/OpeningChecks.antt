-- An opening is accepted exactly where every check holds. Assumes nothing.
use Rattle.std.specs.Prelude.{◌≡◌, ◌≢◌, List, ℕ, ◌≤◌, ◌<◌, length, drop}
use Rattle.slices.specs.Lists.{sum_xor}
use Rattle.poly.specs.Sum.{sum}
use Rattle.banquet.specs.Answer.{accepted}
use Rattle.banquet.specs.Shape.{work_length}
use Rattle.banquet.specs.Scheme.{Scheme, wide_ops, wide_mul}
use Rattle.banquet.specs.Hash.{commitment}
use Rattle.banquet.specs.Execution.{Committed, Challenge, output_share, opened_c, opened_a, opened_b}
use Rattle.banquet.specs.Opening.{
  salt_of,
  execution_of,
  commitment_of,
  output_of,
  second_of,
  challenge_of,
  tape_under,
  c_of,
  a_of,
  b_of,
  committed_of,
}
use Rattle.banquet.specs.Calls.{verify_opening}
use Rattle.banquet.specs.Figures.{Figures}
use Rattle.banquet.specs.Extraction.{before, hidden, shown}
use Rattle.banquet.specs.Logic.{◌⇔◌}

-- ---- the checks, of an opening's transcript t

module _ (𝓢 : Scheme) (F : Figures) (public_key t : List ℕ) where
  abbrev x : Committed
  x = committed_of 𝓢 public_key t

  abbrev d : Challenge
  d = challenge_of 𝓢 t

  -- What is stated of party i is what its seed gives (13, 14).
  pub record PartyHolds (i : ℕ) (seed : List ℕ) : Type 0 where
    pub commits : commitment 𝓢 (salt_of 𝓢 t) (execution_of 𝓢 t) i seed ≡ commitment_of 𝓢 t i
    pub outputs : output_share 𝓢 x i (tape_under 𝓢 t i seed) ≡ output_of 𝓢 t i
    pub opens_c : opened_c 𝓢 i (tape_under 𝓢 t i seed) d ≡ c_of 𝓢 t i
    pub opens_a : (j : ℕ) → j < F.columns → opened_a 𝓢 x i (tape_under 𝓢 t i seed) d j ≡ a_of 𝓢 t i j
    pub opens_b : (j : ℕ) → j < F.columns → opened_b 𝓢 x i (tape_under 𝓢 t i seed) d j ≡ b_of 𝓢 t i j

  -- The numbers are in range (8, 9, 10); every shown party holds; the output shares add up to the ciphertext (14); c is the sum of a_j b_j (15).
  pub record TranscriptHolds (hidden : ℕ) (seeds : ℕ → List ℕ) : Type 0 where
    pub in_range : execution_of 𝓢 t < F.executions
    pub hides : hidden < F.parties
    pub second : F.rows ≤ second_of 𝓢 t
    pub party : (i : ℕ) → i < F.parties → i ≢ hidden → PartyHolds i (seeds i)
    pub ciphertext : sum_xor F.parties (output_of 𝓢 t) ≡ drop F.front public_key
    pub product : sum (wide_ops 𝓢) F.parties (c_of 𝓢 t)
        ≡ sum (wide_ops 𝓢) F.columns (λ j.
        wide_mul 𝓢 (sum (wide_ops 𝓢) F.parties (λ i. a_of 𝓢 t i j)) (sum (wide_ops 𝓢) F.parties (λ i. b_of 𝓢 t i j)))

-- ---- of a whole opening o

-- In the order of the refusals 2, 6, 7, and then of what the transcript states.
module _ (𝓢 : Scheme) (F : Figures) (public_key o work : List ℕ) where
  pub record OpeningHolds : Type 0 where
    pub key_size : length public_key ≡ F.public_key
    pub size : length o ≡ F.opening
    pub work_size : work_length ≤ length work
    pub transcript_holds : TranscriptHolds 𝓢 F public_key (before F o) (hidden F o) (shown 𝓢 F o)

abbrev pub OpeningChecked : Scheme → Figures → Type 0
OpeningChecked 𝓢 F =
    (public_key o work : List ℕ) → ((verify_opening 𝓢 public_key o work).answer ≡ accepted) ⇔ OpeningHolds 𝓢 F public_key o work
