-- `stated::rows` meets its contract: after i turns the first i rows are written. Assumes nothing.
use Prim.Native.Nat.{ℕ, ◌≤◌, ◌+◌, ◌-◌, ◌*◌}
use native.Mathlib.Omega.{arith}
use mathlib.Core.Path.{◌≡◌, sym, ap, ◌∙◌}
use lib.ListN.{length}
use borrow.Author.Rules.{rules}
use Rattle.slices.proofs.Rows.{Stacking, stacking_none, stacking_lent, stacking_all, row_fits, row_long}
use Rattle.forms.specs.Stated.{stated_row}
use Rattle.stated.proofs.rows.Statement.{statement}
use Rattle.stated.proofs.rows.Tie as tie

abbrev invariant-loop : tie.invariant-loop-i
invariant-loop set transcript out₀ len n i₀ out i = (i ≤ n) × Stacking (stated_row set.shape transcript) len i (n * len) out

abbrev decreases-loop : tie.decreases-loop-i
decreases-loop set transcript out₀ len n i₀ out i = n - i

abbrev start : tie.At-loop-i invariant-loop decreases-loop → tie.Start invariant-loop decreases-loop
start k = k.before.before.before.before

abbrev len : tie.At-loop-i invariant-loop decreases-loop → ℕ
len k = k.row_length-len.result

-- row i fits
fits : (c : tie.In-loop-i invariant-loop decreases-loop)
    → c.before.loop-i.i * len c.before + len c.before ≤ (start c.before).args.set.shape.parties * len c.before
fits c = row_fits (len c.before) c.loop-i-test.true

-- all of them are the output
whole : (r : tie.After-row_length-len invariant-loop decreases-loop)
    → length r.before.before.before.args.out.now ≡ r.before.before.before.args.set.shape.parties * r.row_length-len.result
whole r = let s = r in s.requires.1 ∙ ap (s.args.set.shape.parties *◌) (sym r.row_length-len.ensures.0)

stated-row-requires : tie.Need-stated_row-requires invariant-loop decreases-loop
stated-row-requires c κs =
    let k = c.before.before in
    let s = start k in
    let long = row_long k.loop-i.i (len k) k.loop-i.out (omega (arith, fits c.before, k.loop-i.invariant.1.long)) in
    (s.requires.0, omega arith, long ∙ k.row_length-len.ensures.0)

loop-again : tie.Need-loop-i-preserved invariant-loop decreases-loop
loop-again c =
    let r = c in
    let t = r.before.before.before.before in
    let k = t in
    (omega arith, stacking_lent k.loop-i.invariant.1 (fits t) r.stated_row.ensures r.stated_row.auto.out)

returns : tie.Need-returns invariant-loop decreases-loop
returns c =
    let k = c.before in
    let e : k.loop-i.i ≡ (start k).args.set.shape.parties = omega arith in
    stacking_all (rw e at k.loop-i.invariant.1) (omega arith)

pub rows_spec : {M : Type 1} → statement M
rows_spec =
    tie.close
    (tie.spec invariant-loop decreases-loop (λ c κs. search rules) (λ c. (omega arith, stacking_none _ _ (whole c)))
    (λ c. omega (arith, fits c, whole c.before.before)) (λ c. omega (arith, fits c, whole c.before.before))
    (λ c. search rules) (λ c. search rules)
    (λ c. omega (arith, fits c, c.loop-i.invariant.1.long)) stated-row-requires (λ c. search rules) (λ c. search rules) loop-again
    (λ c. c.loop-i.invariant.1.long ∙ sym (whole c.before.before)) returns)
