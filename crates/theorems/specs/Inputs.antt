-- What opening and signing ask of what they are lent: they accept exactly where it holds. Assumes nothing.
use Rattle.std.specs.Prelude.{◌≡◌, true, List, ℕ, ◌≤◌, ◌<◌, length}
use Rattle.std.proofs.Math.Path.{refl}
use Rattle.std.proofs.Common.{◌∙◌}
use borrow.Author.Tests.{eqb-true, ltb-true, leb-true, eq-eqb, lt-ltb, le-leb}
use Rattle.slices.specs.Bytes.{Bytes, Sized}
use Rattle.banquet.specs.Shape.{
  work_length,
  public_key_length,
  first_challenge_length,
  opening_length,
  message_limit,
  root_seeds_length,
  signature_length,
}
use Rattle.banquet.specs.Scheme.{Scheme, GoodKey, Wide}
use Rattle.banquet.specs.Key.{front_of, ciphertext_of, check_key}
use Rattle.banquet.specs.Answer.{accepted, Test, in_order}
use Rattle.banquet.specs.Opening.{range_tests}
use Rattle.banquet.specs.Calls.{open_tests, open_answer, sign_tests, sign_answer}
use Rattle.theorems.specs.Laws.{Laws}
use Rattle.banquet.proofs.Refusals.{test_at, passed, all_pass}
use Rattle.banquet.specs.Logic.{◌and◌}
use Rattle.theorems.specs.Keys.{key_split, key_join}

-- ---- what opening accepts

pub record OpenInput (𝓢 : Scheme) (key public_key salt root first_bytes : List ℕ) (e R hidden : ℕ) : Type 0 where
  pub key_sized : Sized 16 key
  pub public_sized : Sized (public_key_length 𝓢.shape) public_key
  pub salt_size : length salt ≡ 32
  pub root_size : length root ≡ 16
  pub first_sized : Sized (first_challenge_length 𝓢.shape) first_bytes
  pub in_range : e < 𝓢.shape.executions
  pub hides : hidden < 𝓢.shape.parties
  pub second : 𝓢.shape.m2 ≤ R
  pub wide_R : Wide 𝓢 R
  pub good : GoodKey 𝓢 (front_of 𝓢 public_key) (ciphertext_of 𝓢 public_key) key

module _ (𝓢 : Scheme) (L : Laws 𝓢) (key public_key salt root first_bytes : List ℕ) (e R hidden : ℕ) (output work : List ℕ) where
  abbrev open_lengths : List Test
  open_lengths =
      open_tests 𝓢.shape (length key) (length public_key) (length salt) (length root) (length first_bytes) (length output) (length work)

  module _ (kb : Bytes key) (pb : Bytes public_key) (acc : open_answer 𝓢 key public_key salt root first_bytes e R hidden output work ≡ accepted) where
    lengths : ((k : ℕ) → test_at open_lengths k ≡ true)
        × (in_order (range_tests 𝓢.shape e hidden R) (check_key 𝓢 public_key key accepted) ≡ accepted)
    unfolding open_answer
    lengths = all_pass open_lengths _ acc

    ranges : ((k : ℕ) → test_at (range_tests 𝓢.shape e hidden R) k ≡ true) × (check_key 𝓢 public_key key accepted ≡ accepted)
    ranges = all_pass (range_tests 𝓢.shape e hidden R) _ lengths.1

    sized : Sized (public_key_length 𝓢.shape) public_key
    sized = record { size = eqb-true _ _ (lengths.0 1); bytes = pb }

    pub open_good : GoodKey 𝓢 (front_of 𝓢 public_key) (ciphertext_of 𝓢 public_key) key
    open_good = (key_split 𝓢 L sized kb accepted ranges.1).0

    pub open_split : Bytes first_bytes → Wide 𝓢 R → OpenInput 𝓢 key public_key salt root first_bytes e R hidden
    open_split fb wr = record {
      key_sized = record { size = eqb-true _ _ (lengths.0 0); bytes = kb };
      public_sized = sized;
      salt_size = eqb-true _ _ (lengths.0 2);
      first_sized = record { size = eqb-true _ _ (lengths.0 3); bytes = fb };
      root_size = eqb-true _ _ (lengths.0 4);
      in_range = ltb-true _ _ (ranges.0 0);
      hides = ltb-true _ _ (ranges.0 1);
      second = leb-true _ _ (ranges.0 2);
      wide_R = wr;
      good = open_good;
    }

  pub open_join : OpenInput 𝓢 key public_key salt root first_bytes e R hidden → opening_length 𝓢.shape ≤ length output → work_length ≤ length work
      → open_answer 𝓢 key public_key salt root first_bytes e R hidden output work ≡ accepted
  unfolding open_answer
  open_join i o w =
      passed open_lengths _
      (eq-eqb _ _ i.key_sized.size and eq-eqb _ _ i.public_sized.size and eq-eqb _ _ i.salt_size and eq-eqb _ _ i.first_sized.size
      and eq-eqb _ _ i.root_size and le-leb _ _ o and le-leb _ _ w and tt)
      ∙ passed (range_tests 𝓢.shape e hidden R) _ (lt-ltb _ _ i.in_range and lt-ltb _ _ i.hides and le-leb _ _ i.second and tt)
      ∙ key_join 𝓢 L i.public_sized i.key_sized.bytes accepted i.good refl

-- ---- what signing accepts

pub record SignInput (𝓢 : Scheme) (key public_key message salt seeds : List ℕ) : Type 0 where
  pub key_sized : Sized 16 key
  pub public_sized : Sized (public_key_length 𝓢.shape) public_key
  pub message_size : length message ≤ message_limit
  pub salt_size : length salt ≡ 32
  pub seeds_size : length seeds ≡ root_seeds_length 𝓢.shape
  pub good : GoodKey 𝓢 (front_of 𝓢 public_key) (ciphertext_of 𝓢 public_key) key

module _ (𝓢 : Scheme) (L : Laws 𝓢) (key public_key message salt seeds output work : List ℕ) where
  abbrev sign_lengths : List Test
  sign_lengths =
      sign_tests 𝓢.shape (length key) (length public_key) (length message) (length salt) (length seeds) (length output) (length work)

  pub sign_split : Bytes key → Bytes public_key → sign_answer 𝓢 key public_key message salt seeds output work ≡ accepted
      → SignInput 𝓢 key public_key message salt seeds
  unfolding sign_answer
  sign_split kb pb acc =
      let lengths = all_pass sign_lengths _ acc in
      let ps : Sized (public_key_length 𝓢.shape) public_key = record { size = eqb-true _ _ (lengths.0 1); bytes = pb } in
      record {
        key_sized = record { size = eqb-true _ _ (lengths.0 0); bytes = kb };
        public_sized = ps;
        message_size = leb-true _ _ (lengths.0 2);
        salt_size = eqb-true _ _ (lengths.0 3);
        seeds_size = eqb-true _ _ (lengths.0 4);
        good = (key_split 𝓢 L ps kb accepted lengths.1).0;
      }

  pub sign_join : SignInput 𝓢 key public_key message salt seeds → signature_length 𝓢.shape ≤ length output → work_length ≤ length work
      → sign_answer 𝓢 key public_key message salt seeds output work ≡ accepted
  unfolding sign_answer
  sign_join i o w =
      passed sign_lengths _
      (eq-eqb _ _ i.key_sized.size and eq-eqb _ _ i.public_sized.size and le-leb _ _ i.message_size and eq-eqb _ _ i.salt_size
      and eq-eqb _ _ i.seeds_size and le-leb _ _ o and le-leb _ _ w and tt)
      ∙ key_join 𝓢 L i.public_sized i.key_sized.bytes accepted i.good refl
