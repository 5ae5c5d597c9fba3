-- `check_signature::compare_hashes` meets its contract. Assumes nothing.
use Rattle.std.proofs.Common.{◌∙◌}
use Rattle.stream.specs.Stream.{finished, squeezed}
use Rattle.banquet.specs.declared.Refusal.TheVariants.{FirstHashDiffers, ThirdHashDiffers}
use Rattle.banquet.specs.Answer.{accepted}
use Rattle.banquet.specs.Signature.{signature_h1, signature_h3}
use Rattle.check_signature.proofs.Hashes.{refused, passed}
use Rattle.check_signature.proofs.compare_hashes.Goals as goal

pub returns-then-not-equal : goal.returns-then-not-equal
returns-then-not-equal c =
    let a = c.args in
    refused (squeezed (finished a.t.first) 32) (signature_h1 a.s.now) FirstHashDiffers _
    c.output.ensures c.h1.ensures c.equal.ensures c.if-not-equal.true

pub returns-then-not-equal-2 : goal.returns-then-not-equal-2
returns-then-not-equal-2 c =
    let a = c.args in
    refused (squeezed (finished a.t.third) 32) (signature_h3 a.s.now) ThirdHashDiffers accepted
    c.output-2.ensures c.h3.ensures c.equal-2.ensures c.if-not-equal-2.true
    ∙ passed (squeezed (finished a.t.first) 32) (signature_h1 a.s.now) FirstHashDiffers _
    c.output.ensures c.h1.ensures c.equal.ensures c.if-not-equal.false

pub returns : goal.returns
returns c =
    let a = c.args in
    passed (squeezed (finished a.t.third) 32) (signature_h3 a.s.now) ThirdHashDiffers accepted
    c.output-2.ensures c.h3.ensures c.equal-2.ensures c.if-not-equal-2.false
    ∙ passed (squeezed (finished a.t.first) 32) (signature_h1 a.s.now) FirstHashDiffers _
    c.output.ensures c.h1.ensures c.equal.ensures c.if-not-equal.false
