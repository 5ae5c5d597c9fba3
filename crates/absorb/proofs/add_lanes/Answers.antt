-- A turn absorbs one lane more.
use Rattle.std.proofs.Common.{◌≡◌, ◌∙◌, refl, ap, ℕ, ◌+◌, ◌*◌, arith}
use Rattle.std.proofs.Math.Nat.{add-zero}
use Rattle.slices.specs.Lists.{part}
use Rattle.slices.specs.Bytes.{bytes_of}
use Rattle.slices.specs.Numbers.{number}
use Rattle.stream.specs.Stream.{sponge, absorbed}
use Rattle.stream.proofs.Input.{absorbed_next}
use Rattle.absorb.proofs.add_lanes.Goals as goal

pub loop-i-init : goal.loop-i-init
unfolding absorbed
loop-i-init c = ap (λ (n : ℕ). sponge c.args.lanes.now (8 * n)) (add-zero c.args.k)

pub loop-i-preserved : goal.loop-i-preserved
loop-i-preserved c =
    let a = c.args in
    let i = c.loop-i.i in
    let at : 8 * i ≡ 0 + 8 * i = omega arith in
    absorbed_next (sponge a.lanes.now (8 * a.k)) c.loop-i.lanes (a.k + i) a.src.now 0 i
    (bytes_of c.type_inv.src) (omega arith) refl (omega arith) (omega arith) c.loop-i.invariant
    (c.load8.ensures ∙ ap (λ (n : ℕ). number (part n 8 a.src.now)) at)
