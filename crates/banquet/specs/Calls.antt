-- "Five calls: make a public key (from key and plaintext); seal; check a seal; open one execution under given draws; check such an opening." Each
-- is a function of the lists that it is lent: its answer, where "The first that applies is returned", and what the slices lent for writing then
-- hold. The slices lent for reading stay as they are.
use Rattle.std.specs.Prelude.{List, [], ◌∷◌, ℕ, eqb, leb, length}
use Rattle.banquet.specs.declared.Shape.{Shape}
use Rattle.banquet.specs.declared.Refusal.TheVariants.{KeyLength, PublicKeyLength, MessageLength, SaltLength, SeedLength, FileLength, WorkLength}
use Rattle.banquet.specs.Shape.{
  message_limit,
  work_length,
  public_key_length,
  first_challenge_length,
  root_seeds_length,
  signature_length,
  opening_length,
}
use Rattle.banquet.specs.Scheme.{Scheme}
use Rattle.banquet.specs.Answer.{Answer, accepted, Test, in_order, work_after, output_after}
use Rattle.banquet.specs.Key.{public_key_of, check_inputs, check_key}
use Rattle.banquet.specs.Opening.{range_tests, transcript_of, hidden_of, siblings_of, check_opening, opening}
use Rattle.banquet.specs.Signature.{signature_salt, signature_h1, signature_h3, frame_of, signature, check_signature}

-- ---- what a call promises: its answer, and what it leaves in an output slice, in a work slice, or in both

pub record Written : Type 0 where
  pub answer : Answer
  pub output : List ℕ

pub record Checked : Type 0 where
  pub answer : Answer
  pub work : List ℕ

pub record Made : Type 0 where
  pub answer : Answer
  pub output : List ℕ
  pub work : List ℕ

abbrev pub written : Answer → List ℕ → Written
written answer output = record { answer = answer; output = output }

abbrev pub checked : Answer → List ℕ → Checked
checked answer work = record { answer = answer; work = work }

abbrev pub made : Answer → List ℕ → List ℕ → Made
made answer output work = record { answer = answer; output = output; work = work }

-- by the answer, the file that the call makes, and what the slices held
abbrev pub written_after : Answer → List ℕ → List ℕ → Written
written_after answer file output = written answer (output_after answer file output)

abbrev pub checked_after : Answer → List ℕ → Checked
checked_after answer work = checked answer (work_after answer work)

abbrev pub made_after : Answer → List ℕ → List ℕ → List ℕ → Made
made_after answer file output work = made answer (output_after answer file output) (work_after answer work)

-- ---- refusals by length, in order: of the lengths of what each call is lent

module _ (S : Shape) where
  open S use {front}

  abbrev pub public_key_tests : ℕ → ℕ → ℕ → List Test
  public_key_tests key plaintext output =
      (eqb key 16, KeyLength) ∷ (eqb plaintext front, PublicKeyLength) ∷ (leb (public_key_length S) output, FileLength) ∷ []

  abbrev pub sign_tests : ℕ → ℕ → ℕ → ℕ → ℕ → ℕ → ℕ → List Test
  sign_tests key public_key message salt seeds output work =
      (eqb key 16, KeyLength) ∷ (eqb public_key (public_key_length S), PublicKeyLength) ∷ (leb message message_limit, MessageLength)
      ∷ (eqb salt 32, SaltLength) ∷ (eqb seeds (root_seeds_length S), SeedLength) ∷ (leb (signature_length S) output, FileLength)
      ∷ (leb work_length work, WorkLength) ∷ []

  abbrev pub verify_tests : ℕ → ℕ → ℕ → ℕ → List Test
  verify_tests public_key message signature work =
      (eqb public_key (public_key_length S), PublicKeyLength) ∷ (leb message message_limit, MessageLength)
      ∷ (eqb signature (signature_length S), FileLength) ∷ (leb work_length work, WorkLength) ∷ []

  abbrev pub open_tests : ℕ → ℕ → ℕ → ℕ → ℕ → ℕ → ℕ → List Test
  open_tests key public_key salt root first_bytes output work =
      (eqb key 16, KeyLength) ∷ (eqb public_key (public_key_length S), PublicKeyLength) ∷ (eqb salt 32, SaltLength)
      ∷ (eqb first_bytes (first_challenge_length S), SaltLength) ∷ (eqb root 16, SeedLength) ∷ (leb (opening_length S) output, FileLength)
      ∷ (leb work_length work, WorkLength) ∷ []

  abbrev pub verify_opening_tests : ℕ → ℕ → ℕ → List Test
  verify_opening_tests public_key opening work =
      (eqb public_key (public_key_length S), PublicKeyLength) ∷ (eqb opening (opening_length S), FileLength) ∷ (leb work_length work, WorkLength) ∷ []

module _ (𝓢 : Scheme) where
  -- ---- make a public key

  module _ (key plaintext output : List ℕ) where
    unfoldable pub public_key_answer : Answer
    public_key_answer =
        in_order (public_key_tests 𝓢.shape (length key) (length plaintext) (length output)) (check_inputs 𝓢 plaintext key accepted)

    abbrev pub make_public_key : Written
    make_public_key = written_after public_key_answer (public_key_of 𝓢 key plaintext) output

  -- ---- sign

  module _ (key public_key message salt seeds output work : List ℕ) where
    unfoldable pub sign_answer : Answer
    sign_answer =
        in_order
        (sign_tests 𝓢.shape (length key) (length public_key) (length message) (length salt) (length seeds) (length output) (length work))
        (check_key 𝓢 public_key key accepted)

    abbrev pub sign : Made
    sign = made_after sign_answer (signature 𝓢 key public_key message salt seeds) output work

  -- ---- check a signature s

  module _ (public_key message s work : List ℕ) where
    unfoldable pub verify_answer : Answer
    verify_answer =
        in_order (verify_tests 𝓢.shape (length public_key) (length message) (length s) (length work))
        (check_signature 𝓢 public_key message (signature_salt s) (signature_h1 s) (signature_h3 s) (frame_of 𝓢 s))

    abbrev pub verify : Checked
    verify = checked_after verify_answer work

  -- ---- open execution e below a root seed, under the first challenge's bytes, the second challenge R and the hidden party

  module _ (key public_key salt root first_bytes : List ℕ) (e R hidden : ℕ) (output work : List ℕ) where
    unfoldable pub open_answer : Answer
    open_answer =
        in_order
        (open_tests 𝓢.shape (length key) (length public_key) (length salt) (length root) (length first_bytes) (length output) (length work))
        (in_order (range_tests 𝓢.shape e hidden R) (check_key 𝓢 public_key key accepted))

    abbrev pub open_execution : Made
    open_execution = made_after open_answer (opening 𝓢 key public_key salt root first_bytes e R hidden) output work

  -- ---- check an opening o

  module _ (public_key o work : List ℕ) where
    unfoldable pub verify_opening_answer : Answer
    verify_opening_answer =
        in_order (verify_opening_tests 𝓢.shape (length public_key) (length o) (length work))
        (check_opening 𝓢 public_key (transcript_of 𝓢 o) (hidden_of 𝓢 o) (siblings_of 𝓢 o))

    abbrev pub verify_opening : Checked
    verify_opening = checked_after verify_opening_answer work
