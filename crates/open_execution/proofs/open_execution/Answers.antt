-- The lengths are tested in order.
use Rattle.std.proofs.Common.{◌∙◌, refl, sym, ap, length}
use borrow.Author.Tests.{eqb-true, leb-true}
use Rattle.banquet.specs.Answer.{Answer, accepted, in_order}
use Rattle.banquet.specs.Key.{check_key}
use Rattle.banquet.specs.Opening.{range_tests, opening}
use Rattle.banquet.specs.Sets.{scheme_of}
use Rattle.banquet.specs.Calls.{open_tests, made_after, open_answer}
use Rattle.banquet.proofs.Refusals.{passed_at}
use Rattle.verdict.specs.Tests.{made_refused, passes}
use Rattle.open_execution.proofs.open_execution.Goals as goal

pub returns-in_err-open : goal.returns-in_err-open
unfolding open_answer
returns-in_err-open c =
    let a = c.args in
    made_refused
    (open_tests a.set.shape (length a.key.now) (length a.public.now) (length a.salt.now) (length a.root.now) (length a.first.now)
    (length a.out.now) (length a.work.now))
    refl c.open.ensures c.in_err-open.was c.from_residual.ensures.1 (in_order (range_tests a.set.shape a.e a.hidden a.second) (check_key (scheme_of a.set.shape) a.public.now a.key.now accepted))
    (opening (scheme_of a.set.shape) a.key.now a.public.now a.salt.now a.root.now a.first.now a.e a.second a.hidden) a.out.now a.work.now

pub open_key-requires : goal.open_key-requires
open_key-requires c =
    let a = c.args in
    let right =
    passes
    (open_tests a.set.shape (length a.key.now) (length a.public.now) (length a.salt.now) (length a.root.now) (length a.first.now)
    (length a.out.now) (length a.work.now))
    refl c.open.ensures c.in_ok-open.was in (
      record {
        valid = c.args.set.valid;
        key_size = eqb-true _ _ (right 0);
        public_size = eqb-true _ _ (right 1);
        salt_size = eqb-true _ _ (right 2);
        root_size = eqb-true _ _ (right 4);
        first_size = eqb-true _ _ (right 3);
      },
      c.requires,
      leb-true _ _ (right 5),
      leb-true _ _ (right 6),
    )

pub returns : goal.returns
unfolding open_answer
returns c =
    let a = c.args in
    let tests =
    open_tests a.set.shape (length a.key.now) (length a.public.now) (length a.salt.now) (length a.root.now) (length a.first.now)
    (length a.out.now) (length a.work.now) in
    c.open_key.ensures
    ∙ ap
    (λ (x : Answer).
    made_after x (opening (scheme_of a.set.shape) a.key.now a.public.now a.salt.now a.root.now a.first.now a.e a.second a.hidden) a.out.now a.work.now)
    (sym (passed_at tests (in_order (range_tests a.set.shape a.e a.hidden a.second) (check_key (scheme_of a.set.shape) a.public.now a.key.now accepted)) (passes tests refl c.open.ensures c.in_ok-open.was)))
