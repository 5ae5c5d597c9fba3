use Rattle.std.proofs.Common.{length, ◌*◌, ◌/◌, ◌%◌, ◌^◌}
use Rattle.slices.proofs.Fill.{Filling}
use Rattle.numbers.proofs.store.Given as goal

abbrev pub invariant-loop-i : goal.invariant-loop-i
invariant-loop-i l = Filling (λ k. l.x / 2 ^ (8 * k) % 256) (length l.initial.b-items) l.initial.b-items l.i l.b-items
