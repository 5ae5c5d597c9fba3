-- `frames::signature_length` meets its contract. Assumes nothing.
use mathlib.Core.Path.{◌≡◌, ap}
use Prim.Native.Nat.{◌+◌, ◌*◌, ◌≤◌}
use native.Mathlib.Omega.{arith}
use borrow.Author.Rules.{rules}
use Rattle.slices.specs.Layout.{total}
use Rattle.banquet.specs.Shape.{head_length, frame_sizes}
use Rattle.frames.specs.Frames.{frames_most}
use Rattle.frames.proofs.signature_length.Statement.{statement}
use Rattle.frames.proofs.signature_length.Tie as tie

module _ (f : tie.After-frame_length) where
  abbrev start : tie.Start
  start = f.before

  -- all frames
  frames : start.args.set.shape.executions * f.frame_length.result ≡ start.args.set.shape.executions * total (frame_sizes start.args.set.shape)
  frames = ap (start.args.set.shape.executions *◌) f.frame_length.ensures.0

  most : start.args.set.shape.executions * f.frame_length.result ≤ 25092
  most = rw frames (frames_most start.args.set.valid)

pub signature_length_spec : {M : Type 1} → statement M
signature_length_spec =
    tie.close
    (tie.spec (λ c κs. search rules) (λ c. omega (arith, most c.before)) (λ c. omega (arith, most c.before))
    (λ c. (ap (head_length +◌) (frames c.before), omega (arith, most c.before))))
