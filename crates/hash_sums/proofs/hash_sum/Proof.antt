-- `hash_sums::hash_sum` meets its contract: after i turns the sum of the first i hashes is there. Assumes nothing.
use mathlib.Core.Path.{◌≡◌, refl, ◌∙◌}
use Prim.Native.Nat.{◌≤◌, ◌-◌}
use native.Mathlib.Omega.{arith}
use lib.ListN.{length}
use borrow.Author.Rules.{rules}
use borrow.Rule.Slice.PartMut.{same_len_mid}
use Rattle.slices.specs.Lists.{row}
use Rattle.party.specs.Party.{party_hash}
use Rattle.party.proofs.Laws.{row_hashed, length_hash}
use Rattle.row_sums.proofs.Laws.{Summing, summing_none, summing_more, summing_all}
use Rattle.hash_sums.proofs.hash_sum.Statement.{statement}
use Rattle.hash_sums.proofs.hash_sum.Tie as tie

abbrev invariant-loop : tie.invariant-loop-i
invariant-loop tag salt e n seeds out₀ len scratch₀ i₀ out scratch i =
    (i ≤ n) × (length scratch ≡ 512) × Summing (λ i. party_hash tag salt e i (row 16 i seeds) len) len i out

abbrev decreases-loop : tie.decreases-loop-i
decreases-loop tag salt e n seeds out₀ len scratch₀ i₀ out scratch i = n - i

-- ---- earlier moments

abbrev loop-before-slice-known3 : tie.After-slice_known-in-loop-i-1 invariant-loop decreases-loop → tie.At-loop-i invariant-loop decreases-loop
loop-before-slice-known3 c = c.before.before.before.before.before.before.before.before

abbrev start : tie.At-loop-i invariant-loop decreases-loop → tie.Start invariant-loop decreases-loop
start k = k.before.before.before.before.before.before.before.before

loop-holds : tie.Need-loop-i-init invariant-loop decreases-loop
loop-holds c = (search rules, search rules, summing_none c.zero.ensures)

loop-again : tie.Need-loop-i-preserved invariant-loop decreases-loop
loop-again c =
    let h = c.add_hash in
    let k = loop-before-slice-known3 c in
    let a = (start k).args in
    let i = k.loop-i.i in
    let len = length a.out.now in
    let s = k.loop-i.invariant.2 in (
      omega arith,
      same_len_mid 0 (len - 0) k.loop-i.scratch h.new.scratch h.auto.scratch ∙ k.loop-i.invariant.1,
      summing_more s (row_hashed a.tag a.salt.now a.e i a.seeds.now s.long refl)
          (length_hash a.tag a.salt.now a.e i (row 16 i a.seeds.now) len) h.ensures,
    )

returns : tie.Need-returns invariant-loop decreases-loop
returns c = summing_all c.loop-i.invariant.2 (omega arith) (start c.before).requires.1

pub hash_sum_spec : {M : Type 1} → statement M
hash_sum_spec =
    tie.close
    (tie.spec invariant-loop decreases-loop (λ c κs. search rules) loop-holds (λ c. search rules) (λ c. search rules) (λ c. search rules)
    (λ c. search rules) (λ c. search rules) (λ c. search rules) (λ c. search rules) (λ c. search rules) (λ c. search rules)
    (λ c κs. search rules) (λ c. search rules) (λ c. search rules) loop-again (λ c. search rules) returns)
