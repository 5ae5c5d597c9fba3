-- A turn multiplies by the next factor.
use Rattle.std.proofs.Common.{ℕ, refl, sym, ap, ◌∙◌, add-one, arith}
use Rattle.std.specs.Int.Bits.{bit_xor}
use Rattle.slices.proofs.Fill.{filling_none, filling_more}
use Rattle.field.specs.Ring.{mul as product}
use Rattle.lagrange.specs.Values.{upto}
use Rattle.lagrange.proofs.prefixes.Goals as goal

pub loop-k-init : goal.loop-k-init
unfolding upto
loop-k-init c = (filling_none refl, refl)

pub loop-k-preserved : goal.loop-k-preserved
unfolding upto
loop-k-preserved c =
    let a = c.args in
    let l = c.loop-k in (
      filling_more l.invariant.0 (omega arith) l.invariant.1,
      c.mul-product.ensures
          ∙ ap (λ (p : ℕ). product a.bits a.low p (bit_xor a.x l.k)) l.invariant.1
          ∙ ap (upto a.bits a.low a.x) (sym (add-one l.k)),
    )
