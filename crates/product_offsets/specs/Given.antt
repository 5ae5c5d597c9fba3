-- The lengths of what a signature's executions have in common: for the points 20 to 40 the rows of the inputs, those of the inverses and Lagrange's
-- value for the extra point.
use Rattle.std.specs.Prelude.{◌≡◌, List, ℕ, ◌*◌, length}
use Rattle.banquet.specs.declared.Shape.{Shape}
use Rattle.sets.specs.Valid.{Valid}

pub record Rows (S : Shape) (us vs lasts : List ℕ) : Type 0 where
  pub valid : Valid S
  pub us_size : length us ≡ 21 * S.m1
  pub vs_size : length vs ≡ 21 * S.m1
  pub lasts_size : length lasts ≡ 21
