-- `party::hash_rows` meets its contract: after i turns the first i rows are written. Assumes nothing.
use mathlib.Core.Path.{◌≡◌}
use Prim.Native.Nat.{◌≤◌, ◌+◌, ◌-◌, ◌*◌}
use native.Mathlib.Omega.{arith}
use borrow.Author.Rules.{rules}
use Rattle.slices.specs.Lists.{row}
use Rattle.slices.proofs.Rows.{Stacking, stacking_none, stacking_lent, stacking_all, row_fits, row_long}
use Rattle.party.specs.Party.{party_hash}
use Rattle.party.proofs.Laws.{row_hashed}
use Rattle.party.proofs.hash_rows.Statement.{statement}
use Rattle.party.proofs.hash_rows.Tie as tie

abbrev invariant-loop : tie.invariant-loop-i
invariant-loop tag salt e n len seeds out₀ i₀ out i =
    (i ≤ n) × Stacking (λ i. party_hash tag salt e i (row 16 i seeds) len) len i (n * len) out

abbrev decreases-loop : tie.decreases-loop-i
decreases-loop tag salt e n len seeds out₀ i₀ out i = n - i

abbrev start : tie.At-loop-i invariant-loop decreases-loop → tie.Start invariant-loop decreases-loop
start k = k.before.before.before.before

-- row i of the output fits
fits : (c : tie.In-loop-i invariant-loop decreases-loop)
    → c.before.loop-i.i * (start c.before).args.len + (start c.before).args.len ≤ (start c.before).args.n * (start c.before).args.len
fits c = row_fits (start c.before).args.len c.loop-i-test.true

loop-again : tie.Need-loop-i-preserved invariant-loop decreases-loop
loop-again c =
    let k = c.before.before.before.before.before.before in
    let a = (start k).args in
    let h = c.hash in
    let room = fits c.before.before.before.before.before in
    let size = row_long k.loop-i.i a.len k.loop-i.out (omega (arith, room, k.loop-i.invariant.1.long)) in (
      omega arith,
      stacking_lent k.loop-i.invariant.1 room (row_hashed a.tag a.salt.now a.e k.loop-i.i a.seeds.now size h.ensures)
          h.auto.out,
    )

returns : tie.Need-returns invariant-loop decreases-loop
returns c =
    let k = c.before in
    let e : k.loop-i.i ≡ (start k).args.n = omega arith in
    stacking_all (rw e at k.loop-i.invariant.1) (omega arith)

pub hash_rows_spec : {M : Type 1} → statement M
hash_rows_spec =
    tie.close
    (tie.spec invariant-loop decreases-loop (λ c. (search rules, stacking_none _ _ c.requires.3)) (λ c. search rules) (λ c. search rules)
    (λ c. omega (arith, fits c)) (λ c. omega (arith, fits c)) (λ c. search rules) (λ c. search rules) (λ c. search rules)
    (λ c. search rules) (λ c. search rules) (λ c. search rules) (λ c. omega (arith, fits c.before, c.loop-i.invariant.1.long))
    (λ c κs. search rules) (λ c. search rules) (λ c. search rules) loop-again (λ c. search rules) returns)
