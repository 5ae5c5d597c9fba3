-- `make_signature::finish_pass` meets its contract: the hidden parties are those of h3. Assumes nothing.
use mathlib.Core.Path.{◌≡◌, ap, ◌∙◌}
use mathlib.Core.List.{List, ◌∷◌}
use Prim.Native.Nat.{ℕ, ◌*◌, ◌-◌}
use native.Mathlib.Omega.{arith}
use lib.ListN.{length, take, replicate}
use Rattle.slices.proofs.Put.{front_long}
use Rattle.shake.specs.Shake128.{shake128}
use Rattle.make_signature.proofs.Hashes.{finished_right}
use Rattle.make_signature.proofs.finish_pass.Statement.{statement}
use Rattle.make_signature.proofs.finish_pass.Tie as tie

-- ---- earlier moments

abbrev zeros : List ℕ
zeros = replicate 164 0

-- ---- the hidden parties' bytes

module _ (d : tie.After-draw) where
  abbrev start : tie.Start
  start = d.before.before.before.before.before.before.before.before

  abbrev size : ℕ
  size = start.args.set.shape.executions * 4

  asked : length (take (size - 0) zeros) ≡ size
  asked = front_long size zeros (omega (arith, start.requires.0.valid.brief))

  thirds_are : d.draw.new.out ≡ shake128 (8 ∷ start.args.h3.now) size
  thirds_are = d.draw.ensures ∙ ap (shake128 (8 ∷ start.args.h3.now)) asked

finish-frames-requires : tie.Need-finish_frames-requires
finish-frames-requires c κs =
    let d = c.before.before.before in
    let p = (start d).requires in
    (p.1, p.2, d.draw.auto.out ∙ asked d, p.0.frames_size)

returns : tie.Need-returns
returns c =
    let x = c in
    let d = x.before.before.before.before.before.before.before in
    let a = (start d).args in
    finished_right (start d).requires.0.valid a.h3.now a.salt.now a.roots.now a.frames.now (thirds_are d) x.finish_frames.ensures

pub finish_pass_spec : {M : Type 1} → statement M
finish_pass_spec =
    tie.close
    (tie.spec
    (λ c. omega (arith, c.requires.0.valid.brief))
    (λ c. omega arith)
    (λ c. omega arith)
    (λ c. omega (arith, c.requires.0.valid.brief))
    (λ c κs. tt)
    finish-frames-requires
    (λ c. c.finish_frames.auto.frames)
    returns)
