-- What signing is given where its lengths are right. Assumes nothing.
use Rattle.std.specs.Prelude.{◌≡◌, List, ℕ, length}
use Rattle.banquet.specs.declared.Shape.{Shape}
use Rattle.banquet.specs.Shape.{public_key_length, root_seeds_length}
use Rattle.sets.specs.Valid.{Valid}

pub record Lengths (S : Shape) (key public_key salt seeds : List ℕ) : Type 0 where
  pub valid : Valid S
  pub key_size : length key ≡ 16
  pub public_size : length public_key ≡ public_key_length S
  pub salt_size : length salt ≡ 32
  pub seeds_size : length seeds ≡ root_seeds_length S
