-- `sum_check::check_sums` meets its contract: the sums are left, the outputs are tested first, then the product. Assumes nothing.
use mathlib.Core.Path.{◌≡◌, sym, ap, ◌∙◌}
use Prim.Native.Nat.{ℕ, ◌*◌, ◌^◌, ◌<◌, ◌≤◌}
use native.Mathlib.Omega.{arith}
use lib.Dec.{lit≤}
use lib.ListN.{length}
use Rattle.slices.specs.Layout.{total}
use Rattle.sets.specs.Bounds.{row_sizes}
use Rattle.forms.specs.Sums.{row_product_holds}
use Rattle.sum_check.proofs.Laws.{shares_fit, shares_sized, row_product, outputs_miss, product_misses, both_hold}
use Rattle.sum_check.proofs.check_sums.Statement.{statement}
use Rattle.sum_check.proofs.check_sums.Tie as tie

sum-rows-requires : tie.Need-sum_rows-requires
sum-rows-requires c κs =
    let s = c in
    (s.args.set.valid.some, s.requires.0 ∙ ap (s.args.set.shape.parties *◌) (sym s.requires.1))

-- ---- the sums and their sizes

abbrev start : tie.After-sum_rows → tie.Start
start r = r.before.before.before.before.before

abbrev summed : tie.After-equal → tie.After-sum_rows
summed q = q.before.before.before.before

module _ (r : tie.After-sum_rows) where
  kept : length r.sum_rows.new.out ≡ length (start r).args.sums.now
  kept = r.sum_rows.auto.out

  outputs_room : 16 ≤ length r.sum_rows.new.out
  outputs_room = omega (arith, kept, (start r).requires.1)

module _ (z : tie.After-row_sizes) where
  abbrev sums : tie.After-sum_rows
  sums = summed z.before.before

  long : length sums.sum_rows.new.out ≡ total (row_sizes (start sums).args.set.shape)
  long = kept sums ∙ (start sums).requires.1

  fits : (k : ℕ) → k < 4
      → (k < length z.row_sizes.result) × (total z.row_sizes.result ≤ length sums.sum_rows.new.out)
      × (total z.row_sizes.result < 2 ^ 63)
  fits = shares_fit (start sums).args.set.valid sums.sum_rows.new.out z.row_sizes.ensures long

abbrev sized : tie.After-field → tie.After-row_sizes
sized f = f.before.before

abbrev first : tie.After-field-3 → tie.After-field
first f = f.before.before

holds-requires : tie.Need-holds-holds-requires
holds-requires c κs =
    let z = sized (first c) in
    let r = sums z in
    let p = shares_sized (start r).args.set.valid r.sum_rows.new.out z.row_sizes.ensures (long z) (first c).field.ensures c.field-2.ensures
    c.field-3.ensures in
    (p.1, p.2, p.3)

product_is : (c : tie.After-holds-holds)
    → c.holds-holds.result
    ≡ row_product_holds (start (sums (sized (first c.before)))).args.set.shape (sums (sized (first c.before))).sum_rows.new.out
product_is c =
    let f = c.before in
    let z = sized (first f) in
    let r = sums z in
    row_product (start r).args.set.valid r.sum_rows.new.out z.row_sizes.ensures (long z) (first f).field.ensures
    f.field-2.ensures f.field-3.ensures c.holds-holds.ensures

-- ---- the answers

returns : tie.Need-returns-then-not-equal
returns c =
    let q = c.before.before in
    let r = summed q in
    let s = start r in
    outputs_miss s.args.set.shape s.args.rows.now s.args.ciphertext.now s.args.e s.requires.1 r.sum_rows.ensures
    q.equal.ensures c.if-not-equal.true

returns-2 : tie.Need-returns-then-not-holds
returns-2 c =
    let h = c.before in
    let t = (sized (first h.before)).before in
    let q = t.before in
    let r = summed q in
    let s = start r in
    product_misses s.args.set.shape s.args.rows.now s.args.ciphertext.now s.args.e s.requires.1 r.sum_rows.ensures
    q.equal.ensures (product_is h) t.if-not-equal.false c.if-not-holds.true

returns-3 : tie.Need-returns
returns-3 c =
    let h = c.before in
    let t = (sized (first h.before)).before in
    let q = t.before in
    let r = summed q in
    let s = start r in
    both_hold s.args.set.shape s.args.rows.now s.args.ciphertext.now s.args.e s.requires.1 r.sum_rows.ensures
    q.equal.ensures (product_is h) t.if-not-equal.false c.if-not-holds.false

pub check_sums_spec : {M : Type 1} → statement M
check_sums_spec =
    tie.close
    (tie.spec sum-rows-requires (λ c. lit≤ tt) (λ c. lit≤ tt) (λ c. outputs_room c.before.before) (λ c κs. tt)
    (λ c. omega (arith, (start (summed c.before.before)).args.set.valid.few)) (λ c. kept (summed c.before.before)) returns (λ c κs. tt)
    (λ c. sym (ap length c.row_sizes.ensures)) (λ c κs. fits c.before 1 (omega arith)) (λ c κs. fits (sized c) 2 (omega arith))
    (λ c κs. fits (sized c.before) 3 (omega arith)) holds-requires (λ c. kept (sums (sized (first c.before.before)))) returns-2
    (λ c. kept (sums (sized (first c.before.before)))) returns-3)
