use Rattle.std.proofs.Common.{rules, ◌+◌, ◌/◌, ◌%◌}
use borrow.Author.Tests.{tests}
use Rattle.blocks.proofs.FromFn.{from_fn_tab}
use Rattle.aes.specs.Aes.{cell}
use Rattle.steps.proofs.below.Goals as goal

pub returns : goal.returns
returns c = from_fn_tab (λ i. cell c.args.x ((i % 4 + 1) % 4) (i / 4)) (λ i y q k. search (rules, tests)) c.from_fn.ensures.items
