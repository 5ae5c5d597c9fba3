-- What is given for an execution: the public key, the salt, its hidden party, its challenges and its frame. Assumes nothing.
use Rattle.std.specs.Prelude.{◌≡◌, List, ℕ, ◌*◌, ◌^◌, ◌<◌, length}
use Rattle.slices.specs.Bytes.{Sized}
use Rattle.slices.specs.Layout.{total}
use Rattle.banquet.specs.declared.Shape.{Shape}
use Rattle.banquet.specs.Shape.{public_key_length, first_challenge_length, frame_sizes}
use Rattle.sets.specs.Valid.{Valid}

pub record Given (S : Shape) (public_key salt : List ℕ) (hidden : ℕ) (first : List ℕ) (second : ℕ) (frame : List ℕ) : Type 0 where
  pub valid : Valid S
  pub public_sized : Sized (public_key_length S) public_key
  pub salt_size : length salt ≡ 32
  pub hidden_below : hidden < S.parties
  pub first_sized : Sized (first_challenge_length S) first
  pub second_wide : second < 2 ^ (8 * S.wide)
  pub frame_sized : Sized (total (frame_sizes S)) frame
