-- The steps of opening an execution: what each is given. Assumes nothing.
use Rattle.std.specs.Prelude.{◌≡◌, List, ℕ, ◌*◌, ◌^◌, ◌≤◌, ◌<◌, length}
use Rattle.banquet.specs.declared.Shape.{Shape}
use Rattle.banquet.specs.Shape.{public_key_length, first_challenge_length}
use Rattle.banquet.specs.Scheme.{true_inverses}
use Rattle.banquet.specs.Sets.{scheme_of}
use Rattle.banquet.specs.Key.{front_of}
use Rattle.sets.specs.Valid.{Valid}
use Rattle.forms.specs.Point.{point_rows, point_lasts}

-- every length is right
pub record Lengths (S : Shape) (key public_key salt root first : List ℕ) : Type 0 where
  pub valid : Valid S
  pub key_size : length key ≡ 16
  pub public_size : length public_key ≡ public_key_length S
  pub salt_size : length salt ≡ 32
  pub root_size : length root ≡ 16
  pub first_size : length first ≡ first_challenge_length S

-- and so are the numbers
pub record Ranges (S : Shape) (e second hidden : ℕ) : Type 0 where
  pub execution : e < S.executions
  pub hidden_shown : hidden < S.parties
  pub second_least : 20 ≤ second
  pub second_wide : second < 2 ^ (8 * S.wide)

-- the S-boxes' inputs and inverses under the key
pub record Inverted (S : Shape) (key public_key inputs inverses : List ℕ) : Type 0 where
  pub inputs_is : inputs ≡ (scheme_of S).circuit.sbox_inputs (front_of (scheme_of S) public_key) key
  pub inverses_is : inverses ≡ true_inverses (scheme_of S) (front_of (scheme_of S) public_key) key

-- the inverses, and at the points 20 to 40 the rows of the inputs and of the inverses and Lagrange's value for the extra point
pub record AtPoints (S : Shape) (key public_key inverses us vs lasts : List ℕ) : Type 0 where
  pub inverses_is : inverses ≡ true_inverses (scheme_of S) (front_of (scheme_of S) public_key) key
  pub us_is : us ≡ point_rows S ((scheme_of S).circuit.sbox_inputs (front_of (scheme_of S) public_key) key)
  pub vs_is : vs ≡ point_rows S inverses
  pub lasts_is : lasts ≡ point_lasts S
