-- The rows are summed, the sum goes into the frame, and both are absorbed.
use Rattle.std.proofs.Common.{List, ℕ, ◌≡◌, ◌+◌, ◌-◌, ◌*◌, ◌≤◌, ◌∙◌, arith, length, take, drop, replicate}
use borrow.Rule.Slice.PartMut.{put_mid}
use Rattle.slices.specs.Lists.{sum_xor}
use Rattle.slices.specs.Layout.{total}
use Rattle.slices.proofs.Put.{front_long}
use Rattle.sets.specs.Bounds.{row_sizes, all_sboxes}
use Rattle.sets.proofs.Bounds.{row_most}
use Rattle.frames.specs.Frames.{frame_total}
use Rattle.signing.specs.Steps.{offsets_at, witness_length, frame_shares}
use Rattle.open_frames.proofs.Laws.{rest_again, sums_made, frame_opened, part_opened}
use Rattle.open_frames.proofs.open_frame.Goals as goal

pub returns : goal.returns
returns c =
    let a = c.args in
    let v = c.args.set.valid in
    let n = c.row_length-len.result in
    let zeros : List ℕ = replicate 142 0 in
    let sums = c.sum_rows.new.out in
    let n_is : n ≡ total (row_sizes a.set.shape) = c.row_length-len.ensures.0 in
    let few : n ≤ length zeros = omega (arith, row_most v) in
    let front = front_long n zeros few in
    let sums_long : length sums ≡ n = c.sum_rows.auto.out ∙ front in
    -- c, a and b
    let read : take (n - 16) (drop 16 (put_mid 0 (n - 0) zeros sums)) ≡ drop 16 sums = rest_again 16 n zeros sums sums_long (omega arith) in
    let sums_are : sums ≡ sum_xor a.set.shape.parties
    (frame_shares a.set.shape a.front.now a.salt.now a.root.now a.e a.first.now a.second a.frame.now) =
    sums_made v a.front.now a.salt.now a.root.now a.e a.first.now a.second a.frame.now c.open_rows.ensures (front ∙ n_is) c.sum_rows.ensures in
    -- they are at the frame's end
    let at : length a.frame.now - (n - 16) ≡ offsets_at a.set.shape + witness_length a.set.shape + 21 * a.set.shape.wide =
    omega (arith, c.requires.5, frame_total v, all_sboxes v) in
    record {
      frame_after =
          frame_opened v a.front.now a.salt.now a.root.now a.e a.first.now a.second a.frame.now c.open_rows.ensures sums_are read at c.copy_at.ensures;
      value =
          part_opened v a.front.now a.salt.now a.root.now a.e a.first.now a.second a.frame.now c.open_rows.ensures sums_are read a.s n_is (omega arith)
          c.absorb-t.ensures c.absorb_column.ensures;
    }
