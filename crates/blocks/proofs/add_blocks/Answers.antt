use Rattle.std.proofs.Common.{rules, get_or}
use Rattle.std.specs.Int.Bits.{bit_xor}
use borrow.Author.Tests.{tests}
use Rattle.blocks.proofs.FromFn.{from_fn_tab}
use Rattle.blocks.proofs.add_blocks.Goals as goal

pub returns : goal.returns
returns c =
    from_fn_tab (λ i. bit_xor (get_or c.args.a i 0) (get_or c.args.b i 0)) (λ i y q k. search (rules, tests)) c.from_fn.ensures.items
