-- `complete::complete` meets its contract: the whole stands for the hidden row while the rows are added. Assumes nothing.
use mathlib.Core.Path.{◌≡◌, refl, sym, ap, ◌∙◌}
use Prim.Native.Nat.{◌+◌, ◌*◌, ◌≤◌}
use native.Mathlib.Omega.{arith}
use lib.ListN.{length}
use borrow.Author.Rules.{rules}
use Rattle.slices.specs.Lists.{row, sum_xor}
use Rattle.slices.proofs.Rows.{row_fits}
use Rattle.complete.specs.Rows.{rest_summed, completed, hidden_left}
use Rattle.complete.proofs.complete.Statement.{statement}
use Rattle.complete.proofs.complete.Tie as tie

-- the hidden row fits
fits : (s : tie.Start) → s.args.hidden * length s.args.whole.now + length s.args.whole.now ≤ length s.args.rows.now
fits s = omega (arith, row_fits (length s.args.whole.now) s.requires.0, s.requires.1)

mul-a : tie.Need-overflow_mul-a
mul-a c = omega (arith, fits c.before.before.before)

copy-at-requires : tie.Need-copy_at-requires
copy-at-requires c κs = omega (arith, fits c.before.before.before.before)

module _ (p : tie.After-copy_at) where
  abbrev start : tie.Start
  start = p.before.before.before.before.before

  long : length p.copy_at.new.dst ≡ start.args.n * length start.args.whole.now
  long = p.copy_at.auto.dst ∙ start.requires.1

sum-rows-requires : tie.Need-sum_rows-requires
sum-rows-requires c κs =
    let p = c.before.before.before in
    (omega (arith, (start p).requires.0), long p ∙ ap (λ m. (start p).args.n * m) (sym (start p).requires.2))

copy-at-requires-2 : tie.Need-copy_at-requires-2
copy-at-requires-2 c κs =
    let q = c in
    let p = q.before.before.before.before.before.before.before in
    let same : length q.sum_rows.new.out ≡ length (start p).args.whole.now = q.sum_rows.auto.out ∙ (start p).requires.2 in
    omega (arith, fits (start p), long p, (start p).requires.1, same)

returns : tie.Need-returns
returns c =
    let z = c in
    let q = z in
    let p = q.before.before.before.before.before.before.before.before.before.before in
    let s = start p in
    let a = s.args in
    let w = length a.whole.now in
    let n = a.n in
    let rest = rest_summed n w a.hidden a.rows.now a.whole.now s.requires.1 refl s.requires.0 p.copy_at.ensures in
    let summed = q.sum_rows.ensures ∙ ap (λ m. sum_xor n (λ i. row m i p.copy_at.new.dst)) s.requires.2 ∙ rest in (
      completed n w a.hidden a.rows.now a.whole.now s.requires.1 refl s.requires.0 p.copy_at.ensures summed
          (q.sum_rows.auto.out ∙ s.requires.2) z.copy_at-2.ensures,
      summed ∙ hidden_left n w a.hidden a.rows.now a.whole.now s.requires.1 refl s.requires.0,
    )

pub complete_spec : {M : Type 1} → statement M
complete_spec =
    tie.close
    (tie.spec mul-a copy-at-requires sum-rows-requires copy-at-requires-2 (λ c. search rules) (λ c. search rules) returns)
