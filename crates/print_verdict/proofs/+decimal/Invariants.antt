-- `print_verdict::decimal` ends: the number falls.
use Rattle.print_verdict.proofs.+decimal.Given as goal

abbrev pub decreases-decimal : goal.decreases-decimal
decreases-decimal l = l.n
