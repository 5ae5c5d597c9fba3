-- Each turn's frame and part.
use Rattle.std.proofs.Common.{◌+◌, ◌*◌, ◌≤◌, ◌∙◌, refl, ap, arith, length}
use Rattle.slices.specs.Bytes.{bytes_of}
use Rattle.slices.proofs.Rows.{row_fits, row_long}
use Rattle.absorb_rows.proofs.Laws.{part_more}
use Rattle.stream.specs.Stream.{absorbed}
use Rattle.banquet.specs.Shape.{first_challenge_length}
use Rattle.challenges.specs.Challenges.{second_wide}
use Rattle.signing.specs.Steps.{opened_frame, opened_part}
use Rattle.signing.specs.Loop.{reworking_none, reworking_row, reworking_lent}
use Rattle.open_frames.proofs.Each.{each, frames_whole, each_cut}
use Rattle.open_frames.proofs.open_frames.Goals as goal

pub loop-e-init : goal.loop-e-init
unfolding absorbed
loop-e-init c = record {
  frames = reworking_none _ _ (frames_whole c.args.set.valid c.frame_length-len.ensures.0 c.requires.5);
  parts = refl;
}

pub open_frame-u-requires : goal.open_frame-u-requires
open_frame-u-requires c =
    let a = c.args in
    let p = c.requires in
    let S = a.set.shape in
    let e = c.loop-e.e in
    let l = c.loop-e-test.true in
    let len = c.frame_length-len.result in
    let root : e * 16 + 16 ≤ length a.roots.now = omega (arith, row_fits 16 l, p.1) in
    let first : e * first_challenge_length S + first_challenge_length S ≤ length a.firsts.now =
    omega (arith, row_fits (first_challenge_length S) l, p.3) in
    let frame : e * len + len ≤ length c.loop-e.frames = omega (arith, row_fits len l, c.loop-e.invariant.frames.done.long) in (
      p.0,
      row_long e 16 a.roots.now root,
      p.2,
      row_long e (first_challenge_length S) a.firsts.now first,
      rw c.second-second.ensures (second_wide c.args.set.valid e (bytes_of c.type_inv.seconds)),
      row_long e len c.loop-e.frames frame ∙ c.frame_length-len.ensures.0,
      c.loop-e.auto.rows ∙ p.6,
    )

pub loop-e-preserved : goal.loop-e-preserved
loop-e-preserved c =
    let a = c.args in
    let S = a.set.shape in
    let e = c.loop-e.e in
    let inv = c.loop-e.invariant in
    let u = c.open_frame-u in
    let is = each_cut c.args.set.valid c.frame_length-len.ensures.0 a.salt.now a.roots.now a.front.now a.firsts.now a.seconds.now a.frames.now e
    c.second-second.ensures (reworking_row inv.frames) in
    record {
      frames =
          reworking_lent inv.frames (row_fits c.frame_length-len.result c.loop-e-test.true) (u.ensures.frame_after ∙ is opened_frame) u.auto.frame;
      parts =
          part_more (each opened_part S a.salt.now a.roots.now a.front.now a.firsts.now a.seconds.now a.frames.now) e a.start inv.parts
          (u.ensures.value ∙ ap (absorbed c.loop-e.t) (is opened_part));
    }
