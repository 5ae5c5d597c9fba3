-- `sign_message::sign_key` meets its contract: the key is tested, and else the signature is made. Assumes nothing.
use mathlib.Core.Path.{sym, subst, ◌∙◌}
use Prim.Native.Nat.{◌≤◌}
use lib.ListN.{length}
use Rattle.slices.proofs.Put.{front_long}
use Rattle.scratch.proofs.Laws.{front_output}
use Rattle.banquet.specs.Sets.{scheme_of}
use Rattle.banquet.specs.Signature.{signature}
use Rattle.scratch.specs.Scratch.{cleared_scratch}
use Rattle.check_key.specs.Answers.{key_refused, key_accepted}
use Rattle.sign_message.proofs.sign_key.Goals as goal

pub returns-in_err-check_key : goal.returns-in_err-check_key
returns-in_err-check_key c =
    let a = c.args in
    key_refused (scheme_of a.set.shape) a.public.now a.key.now c.check_key.ensures.value
    (signature (scheme_of a.set.shape) a.key.now a.public.now a.message.now a.salt.now a.seeds.now) a.out.now a.work.now
    c.in_err-check_key.was c.from_residual.ensures.1

pub returns : goal.returns
returns c =
    let a = c.args in
    let size = c.signature_length-size.result in
    -- the output's front has a signature's length
    let room : size ≤ length a.out.now = subst (◌≤ length a.out.now) (sym c.signature_length-size.ensures.0) c.requires.1 in
    key_accepted (scheme_of a.set.shape) a.public.now a.key.now c.check_key.ensures.value
    (signature (scheme_of a.set.shape) a.key.now a.public.now a.message.now a.salt.now a.seeds.now) a.out.now a.work.now
    c.in_ok-check_key.was
    (front_output size a.out.now c.make.ensures.out_after (c.make.auto.out ∙ front_long size a.out.now room))
    (c.clear.ensures ∙ cleared_scratch c.make.ensures.scratch)
