-- `make_signature::answer_passes` meets its contract: each pass finds what the pass before it left. Assumes nothing.
use Rattle.make_signature.proofs.answer_passes.Goals as goal

pub returns : goal.returns
returns c = record {
  answered = record {
    firsts = c.offset_pass-h2.new.firsts;
    held = c.offset_pass-h2.new.frames;
    h2 = c.offset_pass-h2.result;
    opened = c.open_pass-h3.new.frames;
    firsts_is = c.offset_pass-h2.ensures.firsts_after;
    held_is = c.offset_pass-h2.ensures.frames_after;
    h2_is = c.offset_pass-h2.ensures.value;
    h3_is = c.open_pass-h3.ensures.value;
    opened_is = c.open_pass-h3.ensures.frames_after;
    finished_is = c.finish_pass.ensures;
  };
  scratch = c.open_pass-h3.ensures.scratch;
}
