-- Demand 3 written out, of any scheme with its figures. `proofs/Soundness` has the proof.
use Rattle.std.specs.Prelude.{◌≡◌, ◌≢◌, ◌⊎◌, List, ℕ, ◌^◌, ◌≤◌, ◌<◌, length, take, drop}
use Rattle.slices.specs.Bytes.{Bytes, Sized}
use Rattle.poly.specs.Field.{Ops}
use Rattle.poly.specs.Index.{update}
use Rattle.poly.specs.Sum.{sum}
use Rattle.poly.specs.Poly.{All, Distinct, IsZero, eval}
use Rattle.banquet.specs.Answer.{accepted}
use Rattle.banquet.specs.Scheme.{Scheme, GoodKey, wide_ops}
use Rattle.banquet.specs.Hash.{commitment}
use Rattle.banquet.specs.Execution.{Committed, Challenge}
use Rattle.banquet.specs.Opening.{salt_of, execution_of, challenge_of, committed_of, tape_under}
use Rattle.banquet.specs.Calls.{verify_opening}
use Rattle.banquet.specs.Figures.{Figures}
use Rattle.banquet.specs.Extraction.{given_key, given_input, given_inverse, check_polynomial, before, hidden, shown}

-- ---- over a field whose elements are the numbers below 2 ^ bits

-- "Row k balances when the sum over j of r_j times lifted input times lifted inverse equals the sum of the r.": m1 inputs x and inverses y
abbrev pub Balances : Ops ℕ → ℕ → (ℕ → ℕ → ℕ) → (ℕ → ℕ → ℕ) → (ℕ → ℕ) → ℕ → Type 0
Balances O m1 x y r k = sum O m1 (λ j. O.mul (O.mul (r j) (x j k)) (y j k)) ≡ sum O m1 r

-- "a root is a wide element at which the polynomial is zero"
abbrev pub IsRoot : Ops ℕ → ℕ → List ℕ → ℕ → Type 0
IsRoot O bits p u = (u < 2 ^ bits) × (eval O p u ≡ 0)

-- ---- of the bytes t of an opening before the hidden party, a public key, and a seed for each party

module _ (𝓢 : Scheme) (t : List ℕ) where
  abbrev committed : ℕ → List ℕ → List ℕ
  committed i seed = commitment 𝓢 (salt_of 𝓢 t) (execution_of 𝓢 t) i seed

  abbrev d : Challenge
  d = challenge_of 𝓢 t

  -- "One seed for each party gives, with salt and execution, all the tapes."
  abbrev tapes : (ℕ → List ℕ) → ℕ → List ℕ
  tapes seed i = tape_under 𝓢 t i (seed i)

module _ (𝓢 : Scheme) (public_key t : List ℕ) (seed : ℕ → List ℕ) where
  abbrev x : Committed
  x = committed_of 𝓢 public_key t

  -- "these seeds and the key offset give one key"
  abbrev pub key : List ℕ
  key = given_key 𝓢 x (tapes 𝓢 t seed)

  module _ (F : Figures) where
    abbrev balances : (ℕ → ℕ) → ℕ → Type 0
    balances r k = Balances (wide_ops 𝓢) F.columns (given_input 𝓢 x (tapes 𝓢 t seed)) (given_inverse 𝓢 x (tapes 𝓢 t seed)) r k

    -- "one of the ten first draws, beside the other nine, balances all twenty rows, and every other value in its place leaves some row out of
    -- balance"; "Another value for a draw is any other wide element"
    abbrev pub OneChallenge : Type 0
    OneChallenge =
        let r = (d 𝓢 t).first in
        (j : ℕ) × (j < F.columns) × ((k : ℕ) → k < F.rows → balances r k)
        × ((a : ℕ) → a < 2 ^ F.bits → a ≢ r j → (k : ℕ) × (k < F.rows) × ¬ (balances (update r j a) k))

    -- "the check polynomial isn't zero, has at most 40 roots, and the second draw is one of them"
    abbrev pub FewRoots : Type 0
    FewRoots =
        let p = check_polynomial 𝓢 x (tapes 𝓢 t seed) (d 𝓢 t) in
        ¬ (IsZero (wide_ops 𝓢) p)
        × ((us : List ℕ) → Distinct us → All (IsRoot (wide_ops 𝓢) F.bits p) us → length us ≤ F.roots)
        × IsRoot (wide_ops 𝓢) F.bits p (d 𝓢 t).second

    -- "That key is then good, or one of two things holds"
    --
    -- Where each arises. The key is good: two openings made from one root seed with a good key. One first draw: an inverse that is wrong in S-box
    -- j+10k alone, under draws with r_j = 0; row k balances, and under any other r_j it doesn't. A root: wrong inverses under R = 20, where S_j, T_j
    -- and P are extra points and the first product share, whatever the S-boxes are given; or under R from 21 to 40, where c is one product share.
    abbrev pub GoodOrSoundnessError : Type 0
    GoodOrSoundnessError = GoodKey 𝓢 (take F.front public_key) (drop F.front public_key) key ⊎ (OneChallenge ⊎ FewRoots)

-- ---- two openings

module _ (𝓢 : Scheme) (F : Figures) where
  module _ (o o' : List ℕ) where
    -- "the two show some party under two unequal seeds with one commitment": a collision of the hash, which no one can show for SHAKE128; with a hash
    -- that looked at the salt alone, the sibling seeds of two root seeds would do.
    abbrev pub TwoSeeds : Type 0
    TwoSeeds =
        (i : ℕ) × (i < F.parties) × (i ≢ hidden F o) × (i ≢ hidden F o') × (shown 𝓢 F o i ≢ shown 𝓢 F o' i)
        × (committed 𝓢 (before F o) i (shown 𝓢 F o i) ≡ committed 𝓢 (before F o) i (shown 𝓢 F o' i))

    -- "they show each of the sixteen parties under one seed only"
    abbrev pub OneSeed : (ℕ → List ℕ) → Type 0
    OneSeed seed = (i : ℕ) → i < F.parties → (i ≢ hidden F o → seed i ≡ shown 𝓢 F o i) × (i ≢ hidden F o' → seed i ≡ shown 𝓢 F o' i)

  -- "Take any two accepted openings of one execution, whoever made them and whatever their bytes, that agree on public key, salt, all sixteen
  -- commitments and shares, offsets and draws but hide different parties. Either the two show some party under two unequal seeds with one commitment,
  -- or they show each of the sixteen parties under one seed only, and these seeds and the key offset give one key.", which has 16 bytes. "That key is
  -- then good, or one of two things holds"
  abbrev pub Demand3 : Type 0
  Demand3 =
      (public_key o o' work work' : List ℕ) → Bytes public_key → Bytes o
      → (verify_opening 𝓢 public_key o work).answer ≡ accepted
      → (verify_opening 𝓢 public_key o' work').answer ≡ accepted
      → before F o ≡ before F o'
      → hidden F o ≢ hidden F o'
      → TwoSeeds o o'
      ⊎ ((seed : ℕ → List ℕ) × OneSeed o o' seed
      × (Sized 16 (key 𝓢 public_key (before F o) seed) × GoodOrSoundnessError 𝓢 public_key (before F o) seed F))
