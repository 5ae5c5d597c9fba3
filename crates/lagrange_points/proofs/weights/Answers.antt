-- Each table is right, by its computed test.
use Rattle.std.proofs.Common.{◌≡◌, sym, subst₂, rules, ℕ, List}
use Rattle.weights.specs.Weights.{Weights}
use Rattle.weights.specs.Weights32.{weights32x21, weights32x21_right, weights32x41, weights32x41_right}
use Rattle.weights48.specs.Weights48.{weights48x21, weights48x21_right, weights48x41, weights48x41_right}
use Rattle.lifts.specs.declared.Field.{Field}
use Rattle.lifts.specs.Fields.{bits_of, low_of}
use Rattle.lagrange_points.proofs.weights.Goals as goal

-- the weights in a field g that f is, for m points, which n are
in_field : {f g : Field} {n m : ℕ} {weights : List ℕ} → f ≡ g → n ≡ m → Weights (bits_of g) (low_of g) m weights → Weights (bits_of f) (low_of f) n weights
in_field {weights = weights} e h = subst₂ (λ f n. Weights (bits_of f) (low_of f) n weights) (sym e) (sym h)

pub returns-in-Bits32-eq21-clause-right : goal.returns-in-Bits32-eq21-clause-right
unfolding weights32x21
returns-in-Bits32-eq21-clause-right c = in_field c.in-Bits32-eq21.is-0 c.in-Bits32-eq21.is-1 weights32x21_right

pub returns-in-Bits32-default-clause-right : goal.returns-in-Bits32-default-clause-right
unfolding weights32x41
returns-in-Bits32-default-clause-right c = in_field c.in-Bits32-default.is-0 (search rules) weights32x41_right

pub returns-in-Bits48-eq21-clause-right : goal.returns-in-Bits48-eq21-clause-right
unfolding weights48x21
returns-in-Bits48-eq21-clause-right c = in_field c.in-Bits48-eq21.is-0 c.in-Bits48-eq21.is-1 weights48x21_right

pub returns-in-Bits48-default-clause-right : goal.returns-in-Bits48-default-clause-right
unfolding weights48x41
returns-in-Bits48-default-clause-right c = in_field c.in-Bits48-default.is-0 (search rules) weights48x41_right
