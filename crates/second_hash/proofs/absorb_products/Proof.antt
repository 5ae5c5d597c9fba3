-- `second_hash::absorb_products` meets its contract: after e turns the offsets of the first e executions are absorbed. Assumes nothing.
use mathlib.Core.Path.{◌≡◌, refl, ap, ◌∙◌}
use Prim.Native.Nat.{◌-◌, ◌≤◌}
use native.Mathlib.Omega.{arith}
use lib.Dec.{lit<}
use lib.ListN.{length}
use borrow.Author.Rules.{rules}
use Rattle.slices.specs.Lists.{rows}
use Rattle.stream.specs.Stream.{absorbed}
use Rattle.frames.specs.Frames.{length_frame}
use Rattle.second_hash.proofs.Laws.{offsets_of, one_more}
use Rattle.second_hash.proofs.absorb_products.Statement.{statement}
use Rattle.second_hash.proofs.absorb_products.Tie as tie

abbrev invariant-loop : tie.invariant-loop-e
invariant-loop set s n t₀ e₀ t e = (e ≤ n) × (t ≡ absorbed t₀ (rows (offsets_of set.shape s) e))

abbrev decreases-loop : tie.decreases-loop-e
decreases-loop set s n t₀ e₀ t e = n - e

loop-holds : tie.Need-loop-e-init invariant-loop decreases-loop
unfolding absorbed
loop-holds c = (omega arith, refl)

part-requires : tie.Need-part-requires invariant-loop decreases-loop
part-requires c κs =
    (lit< tt, ap length c.frame-frame.ensures ∙ length_frame c.args.set.shape c.args.s.now c.requires c.loop-e-test.true)

loop-again : tie.Need-loop-e-preserved invariant-loop decreases-loop
loop-again c =
    let a = c.args in (
      omega arith,
      one_more a.set.shape a.s.now c.loop-e.e a.start c.frame-frame.ensures c.part.ensures c.loop-e.invariant.1 c.absorb-u.ensures,
    )

returns : tie.Need-returns invariant-loop decreases-loop
returns c =
    let e : c.loop-e.e ≡ c.args.set.shape.executions = omega arith in
    rw e at c.loop-e.invariant.1

pub absorb_products_spec : {M : Type 1} → statement M
absorb_products_spec =
    tie.close
    (tie.spec invariant-loop decreases-loop loop-holds (λ c κs. search rules) part-requires (λ c κs. search rules) (λ c. search rules)
    (λ c. search rules) loop-again returns)
