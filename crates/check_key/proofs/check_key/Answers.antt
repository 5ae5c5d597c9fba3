-- `check_key::check_key` meets its contract: the first zero of the inputs is found, or none, and the ciphertext is tested. Assumes nothing.
use Rattle.banquet.specs.Answer.{require}
use Rattle.check_key.proofs.Laws.{zero_refused, compared}
use Rattle.check_key.proofs.check_key.Goals as goal

pub returns-in-Some-clause-value : goal.returns-in-Some-clause-value
returns-in-Some-clause-value c =
    zero_refused c.args.set.valid c.args.key.now c.args.public.now c.front.ensures c.encrypt-ciphertext.ensures.inputs_after c.in-Some.ensures

pub returns-then-not-equal-clause-value : goal.returns-then-not-equal-clause-value
unfolding require
returns-then-not-equal-clause-value c =
    compared c.args.set.valid c.args.key.now c.args.public.now c.front.ensures c.encrypt-ciphertext.ensures.inputs_after c.in_default.ensures
    c.encrypt-ciphertext.ensures.value c.ciphertext.ensures c.equal.ensures c.if-not-equal.true

pub returns-clause-value : goal.returns-clause-value
unfolding require
returns-clause-value c =
    compared c.args.set.valid c.args.key.now c.args.public.now c.front.ensures c.encrypt-ciphertext.ensures.inputs_after c.in_default.ensures
    c.encrypt-ciphertext.ensures.value c.ciphertext.ensures c.equal.ensures c.if-not-equal.false
