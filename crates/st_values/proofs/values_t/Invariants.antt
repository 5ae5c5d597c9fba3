-- The loop fills the slice.
use Rattle.std.proofs.Common.{◌+◌, ◌*◌, get_or}
use Rattle.slices.proofs.Fill.{Filling}
use Rattle.forms.specs.Point.{value_t}
use Rattle.st_values.proofs.values_t.Given as goal

abbrev pub invariant-loop-j : goal.invariant-loop-j
invariant-loop-j l =
    Filling (λ j. value_t l.set.shape (get_or l.rows j 0) (get_or l.extra (2 * j + 1) 0) l.last) l.set.shape.m1 l.fn.out l.j l.out
