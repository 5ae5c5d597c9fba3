-- `pairs::make_pair` meets its contract: the line is read, and its halves are lent to the call. Assumes nothing.
use Rattle.std.specs.Prelude.{refl, replicate}
use Rattle.pairs.proofs.Laws.{line_refused, line_accepted}
use Rattle.pairs.proofs.make_pair.Goals as goal

pub returns-in_err-read_lines : goal.returns-in_err-read_lines
returns-in_err-read_lines c =
    line_refused c.args.text.now c.args.public.now c.read_lines.ensures.value c.in_err-read_lines.was c.from_residual.ensures.1

pub returns : goal.returns
returns c =
    line_accepted c.args.text.now c.args.public.now (replicate 32 0) c.read_lines.new.out refl c.read_lines.ensures.value
    c.read_lines.ensures.out_after c.in_ok-read_lines.was c.make_public_key.ensures
