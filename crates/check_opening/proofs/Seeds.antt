-- Number 13, and the seeds under which the shown parties are checked. Assumes nothing.
use Rattle.std.specs.Prelude.{Option, Some, None, Err}
use mathlib.Core.Path.{◌≡◌, refl, sym, ap, ap₂, ◌∙◌}
use mathlib.Core.Bool.{◌||◌}
use mathlib.Core.List.{List}
use Prim.Native.Nat.{ℕ, ◌-◌, ◌*◌, ◌^◌, ◌<◌}
use native.Mathlib.Omega.{arith}
use lib.Dec.{eqb}
use lib.ListN.{length, drop}
use borrow.Rule.Slice.PartMut.{put_mid}
use Rattle.slices.specs.Lists.{found, row, same}
use Rattle.slices.proofs.Rows.{row_front}
use Rattle.shake.specs.Shake128.{shake128}
use Rattle.compare.specs.Lowest.{lowest, lowest_cong}
use Rattle.banquet.specs.declared.Shape.{Shape}
use Rattle.banquet.specs.Answer.{Answer}
use Rattle.banquet.specs.declared.Refusal.TheVariants.{CommitmentDiffers, ShareDiffers}
use Rattle.banquet.specs.Sets.{scheme_of}
use Rattle.banquet.specs.Hash.{commitment}
use Rattle.banquet.specs.Tree.{node_seeds, shown_leaves}
use Rattle.banquet.specs.Opening.{salt_of, commitment_of, shown_seed, commitment_holds, shares_hold, check_shares, check_parties}
use Rattle.scratch.specs.Each.{each_some, each_no, each_cong}
use Rattle.tree.specs.Rows.{row_shown}
use Rattle.share_check.specs.Steps.{Given}

-- there is room for all rows, twice

module _ {S : Shape} {public_key t : List ℕ} {e second : ℕ} (g : Given S public_key t e second) (siblings : List ℕ) (hidden : ℕ)
    (long : length siblings ≡ S.depth * 16) {leaves : List ℕ}
    (is : leaves ≡ node_seeds (shown_leaves shake128 (salt_of (scheme_of S) t) e S.depth 0 siblings hidden))
    (leaves_long : length leaves ≡ 16 * 2 ^ S.depth) (n : ℕ) (d : List ℕ) where
  open S use {parties, depth}

  -- they are the front of an array
  abbrev seeds : List ℕ
  seeds = put_mid 0 (n - 0) d leaves

  abbrev shown : ℕ → List ℕ
  shown = shown_seed (scheme_of S) t hidden siblings

  seed_is : (i : ℕ) → i < parties → row 16 i seeds ≡ shown i
  seed_is i l =
      row_front 16 i leaves (drop (n - 0) d) (omega (arith, leaves_long, g.valid.leaves)) ∙ ap (row 16 i) is
      ∙ row_shown (salt_of (scheme_of S) t) e depth 0 siblings hidden long i (omega (arith, g.valid.leaves)) ∙ rw g.e_is refl

  -- the first commitment that differs
  module _ {differs : Option ℕ}
      (f : differs ≡ found parties (lowest parties 0
      (λ i. eqb i hidden || same (commitment (scheme_of S) (salt_of (scheme_of S) t) e i (row 16 i seeds)) (commitment_of (scheme_of S) t i)))) where
    tested : differs ≡ found parties (lowest parties 0 (λ i. eqb i hidden || commitment_holds (scheme_of S) t i (shown i)))
    unfolding commitment_holds
    tested =
        f ∙ ap (found parties) (lowest_cong parties (λ i l. ap₂
        (λ (x : ℕ) (s : List ℕ). eqb i hidden || same (commitment (scheme_of S) (salt_of (scheme_of S) t) x i s) (commitment_of (scheme_of S) t i))
        g.e_is (seed_is i l)))

    pub commitment_refused : {i : ℕ} → differs ≡ Some i → Err (CommitmentDiffers i) ≡ check_parties (scheme_of S) public_key t hidden shown
    unfolding check_parties
    commitment_refused d = sym (each_some _ CommitmentDiffers _ parties (sym d ∙ tested))

    shares_same : check_shares (scheme_of S) public_key t hidden (λ i. row 16 i seeds) ≡ check_shares (scheme_of S) public_key t hidden shown
    unfolding check_shares
    shares_same = each_cong ShareDiffers parties (λ i l. ap (λ s. eqb i hidden || shares_hold (scheme_of S) public_key t i s) (seed_is i l)) refl

    pub commitments_passed : {r : Answer} → differs ≡ None → r ≡ check_shares (scheme_of S) public_key t hidden (λ i. row 16 i seeds)
        → r ≡ check_parties (scheme_of S) public_key t hidden shown
    unfolding check_parties
    commitments_passed d w = w ∙ shares_same ∙ sym (each_no _ CommitmentDiffers _ parties (sym d ∙ tested))
