-- `make_signature::open_pass` meets its contract: the second challenges are those of h2, and what is absorbed is what h3 binds. Assumes nothing.
use mathlib.Core.Path.{◌≡◌, ap, ◌∙◌}
use mathlib.Core.List.{◌∷◌}
use Prim.Native.Nat.{ℕ, ◌*◌}
use native.Mathlib.Omega.{arith}
use lib.ListN.{replicate}
use Rattle.slices.specs.Bytes.{bytes_of}
use Rattle.slices.proofs.Put.{front_long as part_long}
use Rattle.shake.specs.Shake128.{shake128}
use Rattle.scratch.proofs.Laws.{scratch_front}
use Rattle.banquet.specs.Sets.{scheme_of}
use Rattle.banquet.specs.Key.{front_of}
use Rattle.sets.specs.Valid.{Valid}
use Rattle.sets.specs.Bounds.{rows_most, seconds_most}
use Rattle.make_signature.proofs.Hashes.{opened_right, third_hashed}
use Rattle.make_signature.proofs.open_pass.Goals as goal

pub returns : goal.returns
returns c =
    let a = c.args in
    let v : Valid a.set.shape = c.requires.0.valid in
    let size : ℕ = a.set.shape.executions * a.set.shape.wide in
    let drawn : c.draw.new.out ≡ shake128 (7 ∷ a.h2.now) size =
    c.draw.ensures ∙ ap (shake128 (7 ∷ a.h2.now)) (part_long size (replicate 246 0) (omega (arith, seconds_most v))) in
    let front = front_of (scheme_of a.set.shape) a.public.now in
    let lent : ℕ = a.set.shape.parties * c.row_length.result in
    record {
      value = c.output.ensures
          ∙ third_hashed v a.h2.now drawn front a.salt.now a.roots.now a.firsts.now a.frames.now c.front.ensures
          (bytes_of c.type_inv.h2) c.tagged-s.ensures c.open_frames-t.ensures.value;
      frames_after = opened_right v a.h2.now drawn front a.salt.now a.roots.now a.firsts.now a.frames.now c.front.ensures
          c.open_frames-t.ensures.frames_after;
      scratch = scratch_front lent a.work.now c.open_frames-t.new.rows (omega (arith, rows_most v c.row_length.ensures.1)) c.requires.6
          c.open_frames-t.auto.rows;
    }
