-- `card_program::run` is safe and ends: what is printed fits its line. Assumes nothing.
use Rattle.std.proofs.Common.{sym}
use Rattle.std.proofs.lemmas.List.{length-take-le}
use Rattle.print_card.specs.Line.{line_within}
use Rattle.card_program.proofs.run.Goals as goal

pub slice_bounds-bytes-end : goal.slice_bounds-bytes-end
slice_bounds-bytes-end c = line_within _ c.print_card-line.ensures

pub slice_bounds-write-end : goal.slice_bounds-write-end
slice_bounds-write-end c =
    let line = c.print_card-line.result in
    sym (length-take-le line.length line.bytes (line_within _ c.print_card-line.ensures))
