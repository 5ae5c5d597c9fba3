-- After e turns the first e frames have their sums, and these executions' parts are absorbed.
use Rattle.std.proofs.Common.{◌≡◌, ◌*◌}
use Rattle.slices.specs.Lists.{rows as rows_of}
use Rattle.stream.specs.Stream.{absorbed}
use Rattle.signing.specs.Steps.{opened_frame, opened_part}
use Rattle.signing.specs.Loop.{Reworking}
use Rattle.open_frames.proofs.Each.{each}
use Rattle.open_frames.proofs.open_frames.Given as goal

abbrev pub invariant-loop-e : goal.invariant-loop-e
invariant-loop-e l = record {
  frames : Reworking (each opened_frame l.set.shape l.salt l.roots l.front l.firsts l.seconds l.fn.frames) l.len l.e (l.n * l.len) l.fn.frames l.frames;
  parts : l.t ≡ absorbed l.fn.start (rows_of (each opened_part l.set.shape l.salt l.roots l.front l.firsts l.seconds l.fn.frames) l.e);
}
