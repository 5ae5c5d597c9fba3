-- Every opening made with a good key is accepted. Assumes nothing.
use Rattle.std.specs.Prelude.{◌≡◌, refl, ◌≢◌, length, drop}
use Rattle.std.proofs.Common.{sym, ◌∙◌, subst, arith, take_at}
use Rattle.std.proofs.Math.Path.{ap₂, subst₃}
use mathlib.Core.List.{List, [], ◌∷◌, ◌++◌}
use Prim.Native.Nat.{ℕ, zero, suc, ◌+◌, ◌≤◌, ◌<◌}
use Rattle.std.proofs.Math.ListN.{length-append}
use Rattle.std.proofs.lemmas.List.{get_or_at}
use Rattle.slices.specs.Bytes.{Sized}
use Rattle.slices.specs.Sums.{sum_xor_cong}
use Rattle.slices.specs.Layout.{total}
use Rattle.poly.specs.Sum.{sum_cong}
use Rattle.banquet.specs.Answer.{accepted}
use Rattle.banquet.specs.Shape.{work_length, transcript_sizes, opening_length}
use Rattle.banquet.specs.Scheme.{Scheme, wide_ops, wide_mul}
use Rattle.banquet.specs.Hash.{commitment}
use Rattle.banquet.specs.Tree.{sibling_seeds, shown_leaves, seed_at}
use Rattle.banquet.specs.Key.{front_of, ciphertext_of}
use Rattle.banquet.specs.Execution.{Committed, Challenge, challenge, output_share, opened_c, opened_a, opened_b}
use Rattle.banquet.specs.Signer.{seed_of, tape_of, own_committed, product_offsets}
use Rattle.banquet.specs.Opening.{salt_of, execution_of, output_of, challenge_of, tape_under, c_of, a_of, b_of, committed_of, shown_seed, transcript, opening}
use Rattle.banquet.specs.Calls.{verify_opening_answer}
use Rattle.theorems.specs.Laws.{Laws}
use Rattle.theorems.specs.Inputs.{OpenInput}
use Rattle.theorems.specs.Keys.{sized_front}
use Rattle.banquet.specs.Figures.{figures_of}
use Rattle.banquet.specs.OpeningChecks.{PartyHolds, TranscriptHolds}
use Rattle.banquet.proofs.OpeningChecks.{holds_opening}
use Rattle.theorems.specs.Shares.{IsTape}
use Rattle.theorems.specs.Seeds.{length_sibling_seeds, shown_siblings}
use Rattle.theorems.specs.Honest.{honest_outputs}
use Rattle.theorems.specs.HonestProduct.{honest_product}
use Rattle.theorems.specs.OpeningRead as read

drop_past : (p : List ℕ) (y : ℕ) (ys : List ℕ) (n : ℕ) → length p ≡ n → drop (suc n) (p ++ y ∷ ys) ≡ ys
drop_past [] y ys zero h = refl
drop_past [] y ys (suc n) h = absurd (omega arith)
drop_past (a ∷ p) y ys zero h = absurd (omega arith)
drop_past (a ∷ p) y ys (suc n) h = drop_past p y ys n (omega arith)

module _ (𝓢 : Scheme) (L : Laws 𝓢) (key public_key salt root first_bytes : List ℕ) (e R hidden : ℕ)
    (input : OpenInput 𝓢 key public_key salt root first_bytes e R hidden) where
  open 𝓢.shape use {parties, depth, wide, m1, m2, front}

  abbrev f : List ℕ
  f = front_of 𝓢 public_key

  abbrev ct : List ℕ
  ct = ciphertext_of 𝓢 public_key

  sf : Sized front f
  sf = sized_front 𝓢 L input.public_sized

  abbrev seed : ℕ → List ℕ
  seed = seed_of 𝓢 salt root e

  abbrev tapes : ℕ → List ℕ
  tapes = tape_of 𝓢 salt root e

  abbrev x : Committed
  x = own_committed 𝓢 tapes f key

  abbrev offsets : List ℕ
  offsets = product_offsets 𝓢 tapes f key first_bytes

  abbrev d : Challenge
  d = challenge 𝓢 first_bytes offsets R

  abbrev t : List ℕ
  t = transcript 𝓢 key public_key salt root first_bytes e R

  -- ---- what is read back

  ts : (i : ℕ) → i < parties → IsTape 𝓢 L (tapes i)
  ts = read.ts 𝓢 L key public_key salt root first_bytes e R hidden input

  is_salt : salt_of 𝓢 t ≡ salt
  is_salt = read.is 𝓢 L key public_key salt root first_bytes e R hidden input 0

  is_e : execution_of 𝓢 t ≡ e
  is_e = read.is_e 𝓢 L key public_key salt root first_bytes e R hidden input

  is_x : committed_of 𝓢 public_key t ≡ x
  is_x = read.is_x 𝓢 L key public_key salt root first_bytes e R hidden input

  is_d : challenge_of 𝓢 t ≡ d
  is_d = read.is_d 𝓢 L key public_key salt root first_bytes e R hidden input

  is_tape : (i : ℕ) → tape_under 𝓢 t i (seed i) ≡ tapes i
  is_tape = read.is_tape 𝓢 L key public_key salt root first_bytes e R hidden input

  is_output : (i : ℕ) → i < parties → output_of 𝓢 t i ≡ output_share 𝓢 x i (tapes i)
  is_output = read.is_output 𝓢 L key public_key salt root first_bytes e R hidden input

  is_c : (i : ℕ) → i < parties → c_of 𝓢 t i ≡ opened_c 𝓢 i (tapes i) d
  is_c = read.is_c 𝓢 L key public_key salt root first_bytes e R hidden input

  is_a : (i j : ℕ) → i < parties → j < m1 → a_of 𝓢 t i j ≡ opened_a 𝓢 x i (tapes i) d j
  is_a = read.is_a 𝓢 L key public_key salt root first_bytes e R hidden input

  is_b : (i j : ℕ) → i < parties → j < m1 → b_of 𝓢 t i j ≡ opened_b 𝓢 x i (tapes i) d j
  is_b = read.is_b 𝓢 L key public_key salt root first_bytes e R hidden input

  transcript_size : length t ≡ total (transcript_sizes 𝓢.shape)
  transcript_size = read.transcript_size 𝓢 L key public_key salt root first_bytes e R hidden input

  -- ---- every check holds

  party : (i : ℕ) → i < parties → PartyHolds 𝓢 (figures_of 𝓢.shape) public_key t i (seed i)
  party i l = record {
    commits = ap₂ (λ (s : List ℕ) (n : ℕ). commitment 𝓢 s n i (seed i)) is_salt is_e
        ∙ sym (read.is_commitment 𝓢 L key public_key salt root first_bytes e R hidden input i l);
    outputs = ap₂ (λ (c : Committed) (t : List ℕ). output_share 𝓢 c i t) is_x (is_tape i) ∙ sym (is_output i l);
    opens_c = (λ k. opened_c 𝓢 i (is_tape i k) (is_d k)) ∙ sym (is_c i l);
    opens_a = λ j m. (λ k. opened_a 𝓢 (is_x k) i (is_tape i k) (is_d k) j) ∙ sym (is_a i j l m);
    opens_b = λ j m. (λ k. opened_b 𝓢 (is_x k) i (is_tape i k) (is_d k) j) ∙ sym (is_b i j l m);
  }

  abbrev q : List ℕ
  q = sibling_seeds 𝓢.hash salt e depth 0 root hidden

  shown : (i : ℕ) → i < parties → i ≢ hidden → shown_seed 𝓢 t hidden q i ≡ seed i
  shown i l ne =
      let le = L.enough_leaves in
      let h = input.hides in
      ap₂ (λ (s : List ℕ) (n : ℕ). seed_at (shown_leaves 𝓢.hash s n depth 0 q hidden) i) is_salt is_e
      ∙ shown_siblings 𝓢.hash L.hash_sized salt e depth 0 root hidden i (omega arith) (omega arith) ne

  holds : TranscriptHolds 𝓢 (figures_of 𝓢.shape) public_key t hidden (shown_seed 𝓢 t hidden q)
  holds = record {
    in_range = subst (◌< 𝓢.shape.executions) (sym is_e) input.in_range;
    hides = input.hides;
    second = subst (m2 ≤◌) (sym (read.is_R 𝓢 L key public_key salt root first_bytes e R hidden input)) input.second;
    party = λ i l ne. subst (PartyHolds 𝓢 (figures_of 𝓢.shape) public_key t i) (sym (shown i l ne)) (party i l);
    ciphertext = sum_xor_cong parties is_output ∙ honest_outputs 𝓢 L f key ct tapes ts sf input.key_sized input.good;
    product = sum_cong (wide_ops 𝓢) parties is_c
        ∙ honest_product 𝓢 L f key ct tapes ts sf input.key_sized input.good first_bytes R input.first_sized.bytes input.wide_R
        ∙ sym (sum_cong (wide_ops 𝓢) m1 (λ j m.
        ap₂ (wide_mul 𝓢) (sum_cong (wide_ops 𝓢) parties (λ i l. is_a i j l m)) (sum_cong (wide_ops 𝓢) parties (λ i l. is_b i j l m))));
  }

  pub opening_size : length (opening 𝓢 key public_key salt root first_bytes e R hidden) ≡ opening_length 𝓢.shape
  unfolding opening
  opening_size =
      length-append t (hidden ∷ q) ∙ ap₂ ◌+◌ transcript_size (omega (arith, length_sibling_seeds 𝓢.hash L.hash_sized salt e depth 0 root hidden))

  -- "every seal made with a good key is accepted", for openings
  pub opening_accepted : (work : List ℕ) → work_length ≤ length work
      → verify_opening_answer 𝓢 public_key (opening 𝓢 key public_key salt root first_bytes e R hidden) work ≡ accepted
  unfolding opening
  opening_accepted work w =
      holds_opening 𝓢 public_key (t ++ hidden ∷ q) work
      (record {
        key_size = input.public_sized.size;
        size = opening_size;
        work_size = w;
        transcript_holds = subst₃ (λ (s : List ℕ) (h : ℕ) (c : List ℕ). TranscriptHolds 𝓢 (figures_of 𝓢.shape) public_key s h (shown_seed 𝓢 s h c))
            (sym (take_at t (hidden ∷ q) _ transcript_size)) (sym (get_or_at t hidden q 0 _ transcript_size))
            (sym (drop_past t hidden q _ transcript_size))
            holds;
      })
