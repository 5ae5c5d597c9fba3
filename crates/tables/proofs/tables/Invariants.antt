-- A turn writes the tables of one coefficient.
use Rattle.std.proofs.Common.{◌*◌, length, get_or}
use Rattle.slices.proofs.Rows.{Stacking}
use Rattle.tables.specs.Tables.{table_of}
use Rattle.tables.proofs.tables.Given as goal

abbrev pub invariant-loop-k : goal.invariant-loop-k
invariant-loop-k l =
    Stacking (λ k. table_of l.bits l.low l.powers (get_or l.coefficients k 0)) 32 l.k (length l.coefficients * 32) l.out
