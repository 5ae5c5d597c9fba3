use Rattle.std.proofs.Common.{length, get_or, ◌*◌}
use Rattle.slices.specs.Numbers.{bytes_of}
use Rattle.slices.proofs.Rows.{Stacking}
use Rattle.elements.proofs.store.Given as goal

abbrev pub invariant-loop-k : goal.invariant-loop-k
invariant-loop-k l = Stacking (λ k. bytes_of l.w (get_or l.values k 0)) l.w l.k (length l.values * l.w) l.out
