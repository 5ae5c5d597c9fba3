-- `siblings::sibling_seeds` ends: the depth falls.
use Rattle.siblings.proofs.+sibling_seeds.Given as goal

abbrev pub decreases-sibling_seeds : goal.decreases-sibling_seeds
decreases-sibling_seeds l = l.depth
