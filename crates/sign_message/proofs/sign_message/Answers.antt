-- `sign_message::sign_message` meets its contract: the lengths are tested in order. Assumes nothing.
use mathlib.Core.Path.{◌≡◌, refl, sym, ap, ◌∙◌}
use mathlib.Core.Bool.{true}
use mathlib.Core.List.{List}
use Prim.Native.Nat.{ℕ}
use lib.ListN.{length}
use borrow.Author.Tests.{eqb-true, leb-true}
use Rattle.banquet.specs.Answer.{Answer, accepted, Test}
use Rattle.banquet.specs.Key.{check_key}
use Rattle.banquet.specs.Signature.{signature}
use Rattle.banquet.specs.Sets.{scheme_of}
use Rattle.banquet.specs.Calls.{sign_tests, made_after, sign_answer}
use Rattle.banquet.proofs.Refusals.{test_at, passed_at}
use Rattle.verdict.specs.Tests.{made_refused, passes}
use Rattle.sign_message.proofs.sign_message.Goals as goal

pub returns-in_err-sign : goal.returns-in_err-sign
unfolding sign_answer
returns-in_err-sign c =
    let a = c.args in
    let tests : List Test =
    sign_tests a.set.shape (length a.key.now) (length a.public.now) (length a.message.now) (length a.salt.now)
    (length a.seeds.now) (length a.out.now) (length a.work.now) in
    made_refused tests refl c.sign.ensures c.in_err-sign.was c.from_residual.ensures.1
    (check_key (scheme_of a.set.shape) a.public.now a.key.now accepted)
    (signature (scheme_of a.set.shape) a.key.now a.public.now a.message.now a.salt.now a.seeds.now) a.out.now a.work.now

pub sign_key-requires : goal.sign_key-requires
sign_key-requires c =
    let a = c.args in
    let tests : List Test =
    sign_tests a.set.shape (length a.key.now) (length a.public.now) (length a.message.now) (length a.salt.now)
    (length a.seeds.now) (length a.out.now) (length a.work.now) in
    let right : (k : ℕ) → test_at tests k ≡ true = passes tests refl c.sign.ensures c.in_ok-sign.was in (
      record {
        valid = c.args.set.valid;
        key_size = eqb-true _ _ (right 0);
        public_size = eqb-true _ _ (right 1);
        salt_size = eqb-true _ _ (right 3);
        seeds_size = eqb-true _ _ (right 4);
      },
      leb-true _ _ (right 5),
      leb-true _ _ (right 6),
    )

pub returns : goal.returns
unfolding sign_answer
returns c =
    let a = c.args in
    let tests : List Test =
    sign_tests a.set.shape (length a.key.now) (length a.public.now) (length a.message.now) (length a.salt.now)
    (length a.seeds.now) (length a.out.now) (length a.work.now) in
    let right : (k : ℕ) → test_at tests k ≡ true = passes tests refl c.sign.ensures c.in_ok-sign.was in
    let keyed : Answer = check_key (scheme_of a.set.shape) a.public.now a.key.now accepted in
    let file = signature (scheme_of a.set.shape) a.key.now a.public.now a.message.now a.salt.now a.seeds.now in
    c.sign_key.ensures ∙ ap (λ (x : Answer). made_after x file a.out.now a.work.now) (sym (passed_at tests keyed right))
