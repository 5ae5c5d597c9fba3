-- The parts of a head: how long they are. Assumes nothing.
use Rattle.std.specs.Prelude.{◌≡◌, List, ℕ, ◌≤◌, length, drop}
use Rattle.std.proofs.Common.{arith}
use Rattle.std.proofs.Math.ListN.{length-drop}
use Rattle.std.proofs.Math.Seq.{length-take-le}
use Rattle.slices.specs.Layout.{field}
use Rattle.banquet.specs.Shape.{head_length}
use Rattle.banquet.specs.Signature.{signature_salt, signature_h1, signature_h3}

module _ (s : List ℕ) (h : head_length ≤ length s) where
  pub salt_long : length (signature_salt s) ≡ 32
  unfolding field
  salt_long = length-take-le 32 s (omega arith)

  pub h1_long : length (signature_h1 s) ≡ 32
  unfolding field
  h1_long = length-take-le 32 (drop 32 s) (omega (arith, length-drop 32 s))

  pub h3_long : length (signature_h3 s) ≡ 32
  unfolding field
  h3_long = length-take-le 32 (drop 32 (drop 32 s)) (omega (arith, length-drop 32 s, length-drop 32 (drop 32 s)))
