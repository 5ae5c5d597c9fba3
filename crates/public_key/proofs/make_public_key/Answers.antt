-- `public_key::make_public_key` refuses by length, in the call's order, then the first zero input, and else writes plaintext and ciphertext. Assumes
-- nothing.
use Rattle.public_key.proofs.Laws.{refused, key_long, plaintext_long, plaintext_room, ciphertext_room, zero_refused, accepted}
use Rattle.public_key.proofs.make_public_key.Goals as goal

pub returns-in_err-public_key : goal.returns-in_err-public_key
returns-in_err-public_key c =
    refused c.args.key.now c.args.plaintext.now c.args.output.now c.public_key.ensures c.in_err-public_key.was c.from_residual.ensures.1

pub encrypt-ciphertext-requires-clause-key_len : goal.encrypt-ciphertext-requires-clause-key_len
encrypt-ciphertext-requires-clause-key_len c =
    key_long c.args.key.now c.args.plaintext.now c.args.output.now c.public_key.ensures c.in_ok-public_key.was

pub encrypt-ciphertext-requires-clause-plaintext_len : goal.encrypt-ciphertext-requires-clause-plaintext_len
encrypt-ciphertext-requires-clause-plaintext_len c =
    plaintext_long c.args.key.now c.args.plaintext.now c.args.output.now c.public_key.ensures c.in_ok-public_key.was

pub returns-in-Some : goal.returns-in-Some
returns-in-Some c =
    zero_refused c.args.key.now c.args.plaintext.now c.args.output.now c.public_key.ensures c.in_ok-public_key.was
    c.encrypt-ciphertext.ensures.inputs_after c.in-Some.ensures

pub copy_at-requires : goal.copy_at-requires
copy_at-requires c =
    plaintext_room c.args.key.now c.args.plaintext.now c.args.output.now c.public_key.ensures c.in_ok-public_key.was

pub copy_at-requires-2 : goal.copy_at-requires-2
copy_at-requires-2 c =
    ciphertext_room c.args.key.now c.args.plaintext.now c.args.output.now c.public_key.ensures c.in_ok-public_key.was
    c.encrypt-ciphertext.ensures.value c.copy_at.auto.dst

pub returns : goal.returns
returns c =
    accepted c.args.key.now c.args.plaintext.now c.args.output.now c.public_key.ensures c.in_ok-public_key.was
    c.encrypt-ciphertext.ensures.inputs_after c.in_default.ensures c.encrypt-ciphertext.ensures.value c.copy_at.ensures c.copy_at-2.ensures
