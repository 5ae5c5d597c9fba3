-- `print_verdict::print_refusal` meets its contract: what each call and store wrote, by the law of a refusal's line. Assumes nothing.
use native.Mathlib.Omega.{arith}
use lib.ListN.{length-set}
use Rattle.print_verdict.proofs.Laws.{decimal_room, refusal_written}
use Rattle.print_verdict.proofs.print_refusal.Goals as goal

pub decimal-space-requires : goal.decimal-space-requires
decimal-space-requires c = omega (arith, decimal_room _ c.ranges.number)

pub bounds-out-space : goal.bounds-out-space
bounds-out-space c = omega (arith, decimal_room _ c.ranges.number)

pub overflow_add-space : goal.overflow_add-space
overflow_add-space c = omega (arith, decimal_room _ c.ranges.number)

pub decimal-end-requires : goal.decimal-end-requires
decimal-end-requires c = simp length-set (omega (arith, decimal_room _ c.ranges.number, decimal_room _ c.ranges.place))

pub bounds-out-end : goal.bounds-out-end
bounds-out-end c =
    omega (arith, decimal_room _ c.ranges.number, decimal_room _ c.ranges.place, simp length-set at c.decimal-end.auto.out)

pub overflow_add-result : goal.overflow_add-result
overflow_add-result c = omega (arith, decimal_room _ c.ranges.number, decimal_room _ c.ranges.place)

pub returns : goal.returns
returns c =
    let told = refusal_written c.args.number c.args.place c.args.out.now c.requires c.ranges.number c.ranges.place
    c.copy_at.ensures c.copy_at.auto.dst c.decimal-space.ensures.out_after c.decimal-space.auto.out c.decimal-space.ensures.value
    c.decimal-end.ensures.out_after c.decimal-end.auto.out c.decimal-end.ensures.value in
    record { value = told.0; out_after = told.1 }
