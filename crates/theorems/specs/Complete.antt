-- What is made with a good key is accepted: written out, of any scheme with its laws and its figures. Assumes nothing.
use Rattle.std.specs.Prelude.{◌≡◌, List, ℕ, ◌^◌, ◌≤◌, ◌<◌, length, take, drop}
use Rattle.std.proofs.Common.{sym, subst}
use Rattle.slices.specs.Bytes.{Bytes, Sized}
use Rattle.banquet.specs.Answer.{accepted}
use Rattle.banquet.specs.Shape.{message_limit, work_length, public_key_length, opening_length, signature_length}
use Rattle.banquet.specs.Scheme.{Scheme, GoodKey}
use Rattle.banquet.specs.Key.{front_of, ciphertext_of}
use Rattle.banquet.specs.Calls.{make_public_key, sign, verify, open_execution, verify_opening}
use Rattle.banquet.proofs.Lent.{output_begins}
use Rattle.theorems.specs.Laws.{Laws}
use Rattle.banquet.specs.Figures.{Figures, figures_of}
use Rattle.theorems.specs.Keys as keys
use Rattle.theorems.specs.Inputs as inputs
use Rattle.theorems.specs.OpeningComplete as opens
use Rattle.theorems.specs.SignatureComplete as signs

module _ (𝓢 : Scheme) (F : Figures) where
  -- the key is good for the public key
  abbrev pub GoodFor : List ℕ → List ℕ → Type 0
  GoodFor public_key key = GoodKey 𝓢 (take F.front public_key) (drop F.front public_key) key

  -- A key that a public key was made from is good for it.
  abbrev pub MadeKeyGood : Type 0
  MadeKeyGood =
      (key plaintext output : List ℕ) → Bytes key → Bytes plaintext → (make_public_key 𝓢 key plaintext output).answer ≡ accepted
      → GoodFor (take F.public_key (make_public_key 𝓢 key plaintext output).output) key

  -- ---- opening execution e, under the first draws r, the second draw R and the hidden party h

  -- With a good key, and with lengths and numbers as they are asked for, opening is accepted.
  abbrev pub GoodKeyOpens : Type 0
  GoodKeyOpens =
      (key public_key salt root r : List ℕ) (e R h : ℕ) (output work : List ℕ) → Sized 16 key → Sized F.public_key public_key → length salt ≡ 32
      → Sized F.first_challenge r → length root ≡ 16 → F.opening ≤ length output → work_length ≤ length work
      → e < F.executions → h < F.parties → F.rows ≤ R → R < 2 ^ F.bits
      → GoodFor public_key key
      → (open_execution 𝓢 key public_key salt root r e R h output work).answer ≡ accepted

  -- Where opening is accepted, the key is good,
  abbrev pub OpensGoodKey : Type 0
  OpensGoodKey =
      (key public_key salt root r : List ℕ) (e R h : ℕ) (output work : List ℕ) → Bytes key → Bytes public_key
      → (open_execution 𝓢 key public_key salt root r e R h output work).answer ≡ accepted
      → GoodFor public_key key

  -- and the opening that is written is accepted.
  abbrev pub OpenedAccepted : Type 0
  OpenedAccepted =
      (key public_key salt root r : List ℕ) (e R h : ℕ) (output work work' : List ℕ) → Bytes key → Bytes public_key → Bytes r → R < 2 ^ F.bits
      → (open_execution 𝓢 key public_key salt root r e R h output work).answer ≡ accepted
      → work_length ≤ length work'
      → (verify_opening 𝓢 public_key (take F.opening (open_execution 𝓢 key public_key salt root r e R h output work).output) work').answer
      ≡ accepted

  -- ---- signing

  abbrev pub GoodKeySigns : Type 0
  GoodKeySigns =
      (key public_key message salt seeds output work : List ℕ) → Sized 16 key → Sized F.public_key public_key → length message ≤ message_limit
      → length salt ≡ 32 → length seeds ≡ F.root_seeds → F.signature ≤ length output → work_length ≤ length work
      → GoodFor public_key key
      → (sign 𝓢 key public_key message salt seeds output work).answer ≡ accepted

  -- Where signing is accepted, the key is good,
  abbrev pub SignsGoodKey : Type 0
  SignsGoodKey =
      (key public_key message salt seeds output work : List ℕ) → Bytes key → Bytes public_key
      → (sign 𝓢 key public_key message salt seeds output work).answer ≡ accepted
      → GoodFor public_key key

  -- and "every seal made with a good key is accepted".
  abbrev pub SignedAccepted : Type 0
  SignedAccepted =
      (key public_key message salt seeds output work work' : List ℕ) → Bytes key → Bytes public_key
      → (sign 𝓢 key public_key message salt seeds output work).answer ≡ accepted
      → work_length ≤ length work'
      → (verify 𝓢 public_key message (take F.signature (sign 𝓢 key public_key message salt seeds output work).output) work').answer ≡ accepted

-- ---- they hold

module _ (𝓢 : Scheme) (L : Laws 𝓢) {F : Figures} (are : figures_of 𝓢.shape ≡ F) where
  pub made_key_good : MadeKeyGood 𝓢 F
  made_key_good =
      subst (MadeKeyGood 𝓢) are
      (λ key plaintext output kb pb acc.
      subst (λ (p : List ℕ). GoodKey 𝓢 (front_of 𝓢 p) (ciphertext_of 𝓢 p) key)
      (sym (output_begins (public_key_length 𝓢.shape) output (keys.public_key_of_size 𝓢 L key plaintext output kb pb acc) acc))
      (keys.made_key_good 𝓢 L key plaintext output kb pb acc))

  pub good_key_opens : GoodKeyOpens 𝓢 F
  good_key_opens =
      subst (GoodKeyOpens 𝓢) are
      (λ key public_key salt root r e R h output work k p s f o out w he hh h_r w_r g.
      inputs.open_join 𝓢 L key public_key salt root r e R h output work
      (record {
        key_sized = k;
        public_sized = p;
        salt_size = s;
        root_size = o;
        first_sized = f;
        in_range = he;
        hides = hh;
        second = h_r;
        wide_R = w_r;
        good = g;
      })
      out w)

  pub opens_good_key : OpensGoodKey 𝓢 F
  opens_good_key =
      subst (OpensGoodKey 𝓢) are
      (λ key public_key salt root r e R h output work kb pb acc.
      inputs.open_good 𝓢 L key public_key salt root r e R h output work kb pb acc)

  pub opened_accepted : OpenedAccepted 𝓢 F
  opened_accepted =
      subst (OpenedAccepted 𝓢) are
      (λ key public_key salt root r e R h output work work' kb pb rb w_r acc w.
      let input = inputs.open_split 𝓢 L key public_key salt root r e R h output work kb pb acc rb w_r in
      subst (λ (o : List ℕ). (verify_opening 𝓢 public_key o work').answer ≡ accepted)
      (sym (output_begins (opening_length 𝓢.shape) output (opens.opening_size 𝓢 L key public_key salt root r e R h input) acc))
      (opens.opening_accepted 𝓢 L key public_key salt root r e R h input work' w))

  pub good_key_signs : GoodKeySigns 𝓢 F
  good_key_signs =
      subst (GoodKeySigns 𝓢) are
      (λ key public_key message salt seeds output work k p m s o out w g.
      inputs.sign_join 𝓢 L key public_key message salt seeds output work
      (record { key_sized = k; public_sized = p; message_size = m; salt_size = s; seeds_size = o; good = g }) out w)

  pub signs_good_key : SignsGoodKey 𝓢 F
  signs_good_key =
      subst (SignsGoodKey 𝓢) are
      (λ key public_key message salt seeds output work kb pb acc.
      (inputs.sign_split 𝓢 L key public_key message salt seeds output work kb pb acc).good)

  pub signed_accepted : SignedAccepted 𝓢 F
  signed_accepted =
      subst (SignedAccepted 𝓢) are
      (λ key public_key message salt seeds output work work' kb pb acc w.
      let input = inputs.sign_split 𝓢 L key public_key message salt seeds output work kb pb acc in
      subst (λ (s : List ℕ). (verify 𝓢 public_key message s work').answer ≡ accepted)
      (sym (output_begins (signature_length 𝓢.shape) output (signs.signature_size 𝓢 L key public_key message salt seeds input) acc))
      (signs.signature_accepted 𝓢 L key public_key message salt seeds input work' w))
