-- The depth falls.
use Rattle.shown.proofs.+expand_shown.Given as goal

abbrev pub decreases-expand_shown : goal.decreases-expand_shown
decreases-expand_shown l = l.depth
