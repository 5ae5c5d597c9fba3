use Rattle.std.proofs.Common.{rules, get_or}
use Rattle.std.specs.Int.Bits.{bit_xor}
use borrow.Author.Tests.{tests}
use Rattle.blocks.proofs.FromFn.{from_fn_tab}
use Rattle.field.specs.Byte.{mul8}
use Rattle.steps.proofs.doubled_plus.Goals as goal

pub returns : goal.returns
returns c =
    from_fn_tab (λ i. bit_xor (bit_xor (mul8 2 (get_or c.args.u i 0)) (get_or c.args.t i 0)) (get_or c.args.v i 0)) (λ i y q k. search (rules, tests))
    c.from_fn.ensures.items
