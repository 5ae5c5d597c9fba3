-- `print_verdict::decimal` meets its contract: one digit, and the last one behind those of the tenth. Assumes nothing.
use native.Mathlib.Omega.{arith}
use Rattle.print_verdict.proofs.Laws.{length_small, length_more, put_small, put_more}
use Rattle.print_verdict.proofs.+decimal.Goals as goal

pub bounds-out-at : goal.bounds-out-at
bounds-out-at t c = omega (arith, length_small _ c.if-n-lt10.true)

pub returns-then-n-lt10 : goal.returns-then-n-lt10
returns-then-n-lt10 t c = record {
  value = omega (arith, length_small _ c.if-n-lt10.true);
  out_after = put_small _ _ _ c.if-n-lt10.true (omega (arith, length_small _ c.if-n-lt10.true));
}

pub decimal-end-requires : goal.decimal-end-requires
decimal-end-requires t c = (omega (arith, c.if-n-lt10.false), omega (arith, length_more _ c.if-n-lt10.false))

pub bounds-out-end : goal.bounds-out-end
bounds-out-end t c = omega (arith, length_more _ c.if-n-lt10.false)

pub overflow_add-result-2 : goal.overflow_add-result-2
overflow_add-result-2 t c = omega (arith, length_more _ c.if-n-lt10.false)

pub returns : goal.returns
returns t c = record {
  value = omega (arith, length_more _ c.if-n-lt10.false);
  out_after = put_more _ _ _ _ _ c.if-n-lt10.false c.requires c.decimal-end.ensures.value c.decimal-end.ensures.out_after;
}
