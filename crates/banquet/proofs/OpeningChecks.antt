-- An opening is accepted exactly where every check holds, as specs/OpeningChecks states it. Assumes nothing.
use Rattle.std.specs.Prelude.{◌≡◌, Bool, true, ◌&&◌, List, ℕ, length}
use Rattle.std.proofs.Math.Path.{refl}
use Rattle.std.proofs.Common.{subst, ◌∙◌}
use Rattle.std.proofs.Math.Dec.{eqb}
use borrow.Author.Tests.{eqb-true, ltb-true, leb-true, eq-eqb, lt-ltb, le-leb}
use Rattle.slices.specs.Tests.{and_split, and_join}
use Rattle.slices.specs.Compare.{same_eq, same_refl}
use Rattle.banquet.specs.Scheme.{Scheme}
use Rattle.banquet.specs.Answer.{accepted, Test}
use Rattle.banquet.specs.Execution.{Committed, Challenge, opened_a, opened_b}
use Rattle.banquet.specs.Opening.{
  range_tests,
  transcript_of,
  execution_of,
  second_of,
  challenge_of,
  tape_under,
  a_of,
  b_of,
  committed_of,
  commitment_holds,
  output_holds,
  c_holds,
  a_holds,
  b_holds,
  shares_hold,
  shown_seed,
  check_shares,
  check_parties,
  check_opening,
}
use Rattle.banquet.specs.Calls.{verify_opening_tests, verify_opening_answer}
use Rattle.banquet.specs.Figures.{Figures, figures_of}
use Rattle.banquet.specs.Logic.{◌and◌}
use Rattle.banquet.proofs.Refusals.{
  passed,
  all_pass,
  require_split,
  require_join,
  each_split,
  each_join,
  all_split,
  all_join,
  shown_split,
  shown_join,
}
use Rattle.banquet.specs.OpeningChecks.{PartyHolds, TranscriptHolds, OpeningHolds, OpeningChecked}

-- ---- they are what the definition tests

module _ (𝓢 : Scheme) (public_key t : List ℕ) where
  open 𝓢.shape use {parties, m1}

  abbrev F : Figures
  F = figures_of 𝓢.shape

  abbrev x' : Committed
  x' = committed_of 𝓢 public_key t

  abbrev d' : Challenge
  d' = challenge_of 𝓢 t

  module _ (i : ℕ) (seed : List ℕ) where
    abbrev a : Bool
    a = a_holds 𝓢 public_key t i seed

    abbrev b : Bool
    b = b_holds 𝓢 public_key t i seed

    abbrev c : Bool
    c = c_holds 𝓢 public_key t i seed

    party_split : commitment_holds 𝓢 t i seed ≡ true → shares_hold 𝓢 public_key t i seed ≡ true → PartyHolds 𝓢 F public_key t i seed
    unfolding commitment_holds shares_hold
    party_split p q =
        let ocab = and_split (output_holds 𝓢 public_key t i seed) (c && (a && b)) q in
        let cab = and_split c (a && b) ocab.1 in
        let ab = and_split a b cab.1 in
        record {
          commits = same_eq _ _ p;
          outputs = same_eq _ _ ocab.0;
          opens_c = eqb-true _ _ cab.0;
          opens_a = λ j l. eqb-true _ _ (all_split m1 (λ k. eqb (opened_a 𝓢 x' i (tape_under 𝓢 t i seed) d' k) (a_of 𝓢 t i k)) ab.0 j l);
          opens_b = λ j l. eqb-true _ _ (all_split m1 (λ k. eqb (opened_b 𝓢 x' i (tape_under 𝓢 t i seed) d' k) (b_of 𝓢 t i k)) ab.1 j l);
        }

    party_commits : PartyHolds 𝓢 F public_key t i seed → commitment_holds 𝓢 t i seed ≡ true
    unfolding commitment_holds
    party_commits p = same_refl _ _ p.commits

    party_shares : PartyHolds 𝓢 F public_key t i seed → shares_hold 𝓢 public_key t i seed ≡ true
    unfolding shares_hold
    party_shares p =
        and_join _ _ (same_refl _ _ p.outputs)
        (and_join _ _ (eq-eqb _ _ p.opens_c)
        (and_join _ _ (all_join m1 _ (λ j l. eq-eqb _ _ (p.opens_a j l))) (all_join m1 _ (λ j l. eq-eqb _ _ (p.opens_b j l)))))

  module _ (h : ℕ) (q : List ℕ) where
    check_split : check_opening 𝓢 public_key t h q ≡ accepted → TranscriptHolds 𝓢 F public_key t h (shown_seed 𝓢 t h q)
    unfolding check_opening check_parties check_shares
    check_split e =
        let ranges = all_pass (range_tests 𝓢.shape (execution_of 𝓢 t) h (second_of 𝓢 t)) _ e in
        let commitments = each_split parties _ _ _ ranges.1 in
        let shares = each_split parties _ _ _ commitments.1 in
        let o = require_split _ _ _ shares.1 in
        let p = require_split _ _ _ o.1 in
        record {
          in_range = ltb-true _ _ (ranges.0 0);
          hides = ltb-true _ _ (ranges.0 1);
          second = leb-true _ _ (ranges.0 2);
          party = λ i l ne. party_split i _ (shown_split i h _ (commitments.0 i l) ne) (shown_split i h _ (shares.0 i l) ne);
          ciphertext = same_eq _ _ o.0;
          product = eqb-true _ _ p.0;
        }

    check_join : TranscriptHolds 𝓢 F public_key t h (shown_seed 𝓢 t h q) → check_opening 𝓢 public_key t h q ≡ accepted
    unfolding check_opening check_parties check_shares
    check_join o =
        passed (range_tests 𝓢.shape (execution_of 𝓢 t) h (second_of 𝓢 t)) _
        (lt-ltb _ _ o.in_range and lt-ltb _ _ o.hides and le-leb _ _ o.second and tt)
        ∙ each_join parties _ _ _ (λ k l. shown_join k h _ (λ ne. party_commits k _ (o.party k l ne)))
        (each_join parties _ _ _ (λ k l. shown_join k h _ (λ ne. party_shares k _ (o.party k l ne)))
        (require_join _ _ _ (same_refl _ _ o.ciphertext) (require_join _ _ _ (eq-eqb _ _ o.product) refl)))

module _ (𝓢 : Scheme) (public_key o work : List ℕ) where
  abbrev tests : List Test
  tests = verify_opening_tests 𝓢.shape (length public_key) (length o) (length work)

  pub opening_holds : verify_opening_answer 𝓢 public_key o work ≡ accepted → OpeningHolds 𝓢 (figures_of 𝓢.shape) public_key o work
  unfolding verify_opening_answer
  opening_holds e =
      let lengths = all_pass tests _ e in
      record {
        key_size = eqb-true _ _ (lengths.0 0);
        size = eqb-true _ _ (lengths.0 1);
        work_size = leb-true _ _ (lengths.0 2);
        transcript_holds = check_split 𝓢 public_key (transcript_of 𝓢 o) _ _ lengths.1;
      }

  pub holds_opening : OpeningHolds 𝓢 (figures_of 𝓢.shape) public_key o work → verify_opening_answer 𝓢 public_key o work ≡ accepted
  unfolding verify_opening_answer
  holds_opening h =
      passed tests _ (eq-eqb _ _ h.key_size and eq-eqb _ _ h.size and le-leb _ _ h.work_size and tt)
      ∙ check_join 𝓢 public_key (transcript_of 𝓢 o) _ _ h.transcript_holds

pub opening_checked_lem : (𝓢 : Scheme) {F : Figures} → figures_of 𝓢.shape ≡ F → OpeningChecked 𝓢 F
opening_checked_lem 𝓢 are =
    subst (OpeningChecked 𝓢) are (λ public_key o work. (opening_holds 𝓢 public_key o work, holds_opening 𝓢 public_key o work))
