-- What the steps of signing are given. Assumes nothing.
use Rattle.std.specs.Prelude.{◌≡◌, List, ℕ, ◌*◌, length}
use Rattle.slices.specs.Layout.{total}
use Rattle.banquet.specs.declared.Shape.{Shape}
use Rattle.banquet.specs.Shape.{public_key_length, frame_sizes}
use Rattle.banquet.specs.Scheme.{true_inverses}
use Rattle.banquet.specs.Sets.{scheme_of}
use Rattle.banquet.specs.Key.{front_of}
use Rattle.sets.specs.Valid.{Valid}

-- room for the frames
pub record Frames (S : Shape) (frames : List ℕ) : Type 0 where
  pub valid : Valid S
  pub frames_size : length frames ≡ S.executions * total (frame_sizes S)

-- every length is right, and the S-boxes' inputs and inverses are those under the key
pub record Given (S : Shape) (key public_key salt roots inputs inverses : List ℕ) : Type 0 where
  pub valid : Valid S
  pub key_size : length key ≡ 16
  pub public_size : length public_key ≡ public_key_length S
  pub salt_size : length salt ≡ 32
  pub roots_size : length roots ≡ S.executions * 16
  pub inputs_is : inputs ≡ (scheme_of S).circuit.sbox_inputs (front_of (scheme_of S) public_key) key
  pub inverses_is : inverses ≡ true_inverses (scheme_of S) (front_of (scheme_of S) public_key) key
