-- Toys that the kernel can compute: a hash, a circuit and small parameter sets; and the words in which the rows are told.
use Rattle.std.specs.Prelude.{◌≡◌, Err, true, List, [], ◌∷◌, ◌++◌, map, ℕ, zero, suc, ◌+◌, ◌*◌, ◌/◌, ◌%◌, eqb, leb, length, take, drop, replicate}
use Rattle.std.specs.Int.Bits.{bit_xor}
use Rattle.slices.specs.Lists.{zip_xor}
use Rattle.field.specs.Byte.{inverse8}
use Rattle.circuit.specs.Circuit.{Share}
use Rattle.banquet.specs.Answer.{Answer, accepted}
use Rattle.banquet.specs.declared.Refusal.TheVariants.{
  KeyLength,
  PublicKeyLength,
  MessageLength,
  SaltLength,
  SeedLength,
  FileLength,
  WorkLength,
  ExecutionRange,
  HiddenPartyRange,
  SecondChallengeRange,
  ZeroInput,
  WrongKey,
  CommitmentDiffers,
  ShareDiffers,
  ProductDiffers,
  FirstHashDiffers,
  ThirdHashDiffers,
  TextForm,
}
use Rattle.banquet.specs.Shape.{public_key_length, message_limit, work_length, signature_length, opening_length}
use Rattle.banquet.specs.Scheme.{Circuit, Scheme}
use Rattle.banquet.specs.Opening.{transcript_of, hidden_of, siblings_of, check_opening}
use Rattle.banquet.specs.Signature.{signature_salt, signature_h1, signature_h3, frame_of, check_signature}
use Rattle.banquet.specs.Calls.{verify_tests, verify_answer, verify_opening_tests, verify_opening_answer}
use Rattle.banquet.specs.Card.{verify_card_answer}
use Rattle.banquet.proofs.Refusals.{passed}

-- ---- the hash: a state that every byte of the input changes, and then bytes of the states that follow

unfoldable pub absorbed : ℕ → List ℕ → ℕ
absorbed s [] = s
absorbed s (b ∷ m) = absorbed ((s * 31 + b + 1) % 65521) m

unfoldable pub squeezed : ℕ → ℕ → List ℕ
squeezed zero s = []
squeezed (suc n) s = s * s / 256 % 256 ∷ squeezed n ((s * 33 + 1) % 65521)

unfoldable pub toy_hash : List ℕ → ℕ → List ℕ
toy_hash m n = squeezed n (absorbed 7 m)

-- ---- the circuit, of n S-boxes: each is given a byte of the key, one of the front, and the inverse of the one before; the output is the key with
-- the inverses and 0x63 added

-- what is inverted, from a first inverse y on
unfoldable pub toy_inputs : ℕ → ℕ → List ℕ → List ℕ → List ℕ
toy_inputs zero y front key = []
toy_inputs (suc n) y [] key = []
toy_inputs (suc n) y (f ∷ front) [] = []
toy_inputs (suc n) y (f ∷ front) (k ∷ key) = let x = bit_xor k (bit_xor f y) in x ∷ toy_inputs n (inverse8 x) front key

unfoldable pub toy_encrypt : ℕ → List ℕ → List ℕ → List ℕ
toy_encrypt n front key = zip_xor key (map inverse8 (toy_inputs n 0 front key) ++ (0x63 ∷ []))

unfoldable pub toy_input_shares : ℕ → List ℕ → Share → List ℕ
toy_input_shares n front s = zip_xor (take n s.key) (zip_xor (map (λ x. s.one * x) (take n front)) (take n (0 ∷ s.inverses)))

unfoldable pub toy_output_share : Share → List ℕ
toy_output_share s = zip_xor s.key (s.inverses ++ (s.one * 0x63 ∷ []))

abbrev pub toy_circuit : ℕ → Circuit
toy_circuit n = record {
  sbox_inputs = toy_inputs n 0;
  encrypt = toy_encrypt n;
  input_shares = toy_input_shares n;
  output_share = λ front. toy_output_share;
}

-- ---- the sets

-- three parties of the four below the root, and two executions
abbrev pub toy : Scheme
toy = record {
  shape = record { parties = 3; depth = 2; executions = 2; wide = 1; low = 0x1d; y = 3; m1 = 1; m2 = 1; front = 5 };
  hash = toy_hash;
  circuit = toy_circuit 1;
}

-- more S-boxes: two rows of two
abbrev pub rows_toy : Scheme
rows_toy = record {
  shape = record { parties = 2; depth = 1; executions = 1; wide = 1; low = 0x1d; y = 3; m1 = 2; m2 = 2; front = 5 };
  hash = toy_hash;
  circuit = toy_circuit 4;
}

-- wide elements of two bytes
abbrev pub wide_toy : Scheme
wide_toy = record {
  shape = record { parties = 2; depth = 1; executions = 1; wide = 2; low = 0x2b; y = 16845; m1 = 2; m2 = 1; front = 5 };
  hash = toy_hash;
  circuit = toy_circuit 2;
}

-- ---- rows: what the definitions give, and what vectors/toy.py gives

abbrev pub Row : Type 0 → Type 0
Row A = A × A

abbrev pub computed : {A : Type 0} → List (Row A) → List A
computed {A} rows = map (λ (r : Row A). r.0) rows

abbrev pub expected : {A : Type 0} → List (Row A) → List A
expected {A} rows = map (λ (r : Row A). r.1) rows

-- every answer, from number 0 to 18
abbrev pub answers : List Answer
answers =
    accepted
    ∷ map Err
    (KeyLength ∷ PublicKeyLength ∷ MessageLength ∷ SaltLength ∷ SeedLength ∷ FileLength ∷ WorkLength ∷ ExecutionRange ∷ HiddenPartyRange
    ∷ SecondChallengeRange ∷ ZeroInput 1 ∷ WrongKey ∷ CommitmentDiffers 1 ∷ ShareDiffers 1 ∷ ProductDiffers 1 ∷ FirstHashDiffers ∷ ThirdHashDiffers
    ∷ TextForm 1 ∷ [])

-- a list with elements put in, or left out, from an index on
abbrev pub insert : ℕ → List ℕ → List ℕ → List ℕ
insert at t s = take at s ++ t ++ drop at s

abbrev pub remove : ℕ → ℕ → List ℕ → List ℕ
remove at n s = take at s ++ drop (at + n) s

-- ---- checks of files whose length is right, with work enough: so these are what the calls answer

module _ (𝓢 : Scheme) (public_key : List ℕ) where
  abbrev pub opening_checked : List ℕ → Answer
  opening_checked o = check_opening 𝓢 public_key (transcript_of 𝓢 o) (hidden_of 𝓢 o) (siblings_of 𝓢 o)

  abbrev pub signature_checked : List ℕ → List ℕ → Answer
  signature_checked message s =
      check_signature 𝓢 public_key message (signature_salt s) (signature_h1 s) (signature_h3 s) (frame_of 𝓢 s)

  module _ (work : List ℕ) (hk : eqb (length public_key) (public_key_length 𝓢.shape) ≡ true) (hw : leb work_length (length work) ≡ true) where
    pub opening_checked_lem : (o : List ℕ) → eqb (length o) (opening_length 𝓢.shape) ≡ true
        → verify_opening_answer 𝓢 public_key o work ≡ opening_checked o
    unfolding verify_opening_answer
    opening_checked_lem o h = passed (verify_opening_tests 𝓢.shape (length public_key) (length o) (length work)) _ (hk, (h, (hw, tt)))

    pub signature_checked_lem : (message s : List ℕ) → leb (length message) message_limit ≡ true
        → eqb (length s) (signature_length 𝓢.shape) ≡ true → verify_answer 𝓢 public_key message s work ≡ signature_checked message s
    unfolding verify_answer
    signature_checked_lem message s hm h =
        passed (verify_tests 𝓢.shape (length public_key) (length message) (length s) (length work)) _ (hk, (hm, (h, (hw, tt))))

abbrev pub card_checked : Scheme → List ℕ → Answer
card_checked 𝓢 text = verify_card_answer 𝓢 text (replicate work_length 0)
