-- `product::holds` meets its contract. Assumes nothing.
use mathlib.Core.Path.{refl}
use native.Mathlib.Omega.{arith}
use lib.ListN.{replicate}
use borrow.Author.Rules.{rules}
use Rattle.sets.specs.Room.{columns_lent}
use Rattle.sets.specs.Laws.{wide_field}
use Rattle.product.proofs.Laws.{product_right}
use Rattle.product.proofs.holds.Statement.{statement}
use Rattle.product.proofs.holds.Tie as tie

-- a number for each column can be loaded, of a and of b
load-requires-2 : tie.Need-load-requires
load-requires-2 c κs =
    let p = c.requires in (omega (arith, c.args.set.valid.wide_most), rw (columns_lent c.args.set.valid (replicate 10 0) refl) (omega (arith, p.1, p.2)))

load-requires-3 : tie.Need-load-requires-2
load-requires-3 c κs =
    let p = c.requires in (omega (arith, c.args.set.valid.wide_most), rw (columns_lent c.args.set.valid (replicate 10 0) refl) (omega (arith, p.1, p.2)))

dot-requires : tie.Need-dot-requires
dot-requires c κs =
    ((wide_field c.args.set.valid).fits, omega (arith, c.load.auto.out, c.load-2.auto.out))

returns : tie.Need-returns
returns c =
    product_right c.args.set.valid c.args.c.now c.args.a.now c.args.b.now c.requires.0 c.load-sum.ensures
    (columns_lent c.args.set.valid (replicate 10 0) refl) (columns_lent c.args.set.valid (replicate 10 0) refl) c.load.ensures
    c.load-2.ensures c.dot.ensures

pub holds_spec : {M : Type 1} → statement M
holds_spec =
    tie.close
    (tie.spec (λ c. search rules) (λ c. search rules) (λ c κs. search rules) (λ c. search rules) (λ c. search rules) (λ c. search rules)
    (λ c. search rules) (λ c. search rules) (λ c. search rules) load-requires-2 load-requires-3 dot-requires returns)
