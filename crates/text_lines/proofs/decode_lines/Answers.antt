-- `text_lines::decode_lines` meets its contract: a turn reads a line. Assumes nothing.
use Rattle.std.proofs.Common.{sym, ◌∙◌, arith}
use Rattle.text_lines.proofs.Found.{line_found}
use Rattle.text_lines.proofs.Reading.{reading_none, reading_ended, reading_fits, reading_lent, reading_more, reading_all}
use Rattle.text_lines.proofs.decode_lines.Goals as goal

pub loop-init : goal.loop-init
loop-init c = reading_none c.args.message c.args.sizes.now c.args.text.now c.args.out.now c.requires.0 c.requires.1

pub slice_bounds-line_end-count : goal.slice_bounds-line_end-count
slice_bounds-line_end-count c = c.loop.invariant.inside

pub unwrap-requires : goal.unwrap-requires
unwrap-requires c = reading_ended c.loop.invariant c.loop-test.true c.line_end.ensures

pub slice_bounds-decode-end-in-loop : goal.slice_bounds-decode-end-in-loop
slice_bounds-decode-end-in-loop c =
    let e = (line_found c.args.text.now c.loop.at c.unwrap.result (sym c.unwrap.ensures ∙ c.line_end.ensures)).0 in
    omega (arith, reading_fits c.loop.invariant c.loop-test.true e, c.loop.invariant.wrote.long)

pub decode-requires : goal.decode-requires
decode-requires c =
    let e = (line_found c.args.text.now c.loop.at c.unwrap.result (sym c.unwrap.ensures ∙ c.line_end.ensures)).0 in
    reading_lent c.loop.invariant c.loop-test.true e

pub loop-preserved : goal.loop-preserved
loop-preserved c =
    let e = (line_found c.args.text.now c.loop.at c.unwrap.result (sym c.unwrap.ensures ∙ c.line_end.ensures)).0 in
    reading_more c.loop.invariant c.loop-test.true e c.decode.ensures c.decode.auto.out

pub returns : goal.returns
returns c = reading_all c.loop.invariant (omega (arith, c.loop.invariant.upto))
