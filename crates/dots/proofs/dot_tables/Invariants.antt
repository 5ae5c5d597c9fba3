-- The entries of the first k coefficients are added.
use Rattle.std.proofs.Common.{◌≡◌, ◌+◌, ◌*◌, get_or}
use Rattle.tables.specs.Tables.{tabled}
use Rattle.dots.proofs.dot_tables.Given as goal

abbrev pub invariant-loop-k : goal.invariant-loop-k
invariant-loop-k l = l.sum ≡ tabled l.k (λ i. get_or l.bytes (l.j + i * l.m1) 0) l.tables
