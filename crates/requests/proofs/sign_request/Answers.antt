-- `requests::sign_request` meets its contract: the parts of the request are lent to `sign`, and the card is written. Assumes nothing.
use Rattle.std.proofs.Common.{ℕ, ◌+◌, refl, sym, ap, ◌∙◌, arith, length}
use Rattle.std.proofs.lemmas.List.{length-replicate}
use Rattle.banquet.specs.Shape.{message_limit, signature_length}
use Rattle.banquet.specs.Card.{decoded_line}
use Rattle.banquet.specs.Sets.{scheme_of}
use Rattle.card_sizes.specs.Lines.{length_is}
use Rattle.requests.specs.Reading.{public_long, message_long}
use Rattle.requests.specs.Read.{lines_within, seeds_within, within, parts}
use Rattle.requests.proofs.Laws.{refused_written, signed_answer, card_written}
use Rattle.requests.proofs.sign_request.Goals as goal

pub overflow_sub-end : goal.overflow_sub-end
overflow_sub-end c = lines_within c.requires.0

pub overflow_sub-seeds : goal.overflow_sub-seeds
overflow_sub-seeds c = omega (arith, seeds_within c.requires.0)

pub overflow_sub-salt : goal.overflow_sub-salt
overflow_sub-salt c = omega (arith, seeds_within c.requires.0)

pub slice_bounds-public-end : goal.slice_bounds-public-end
slice_bounds-public-end c =
    let b = within c.requires.0 (ap (16 +◌) c.public_key_length-start.ensures.0) refl refl in
    omega (arith, b.public_first, b.message_first, b.salt_first, b.seeds_first, b.most)

pub slice_bounds-message-count : goal.slice_bounds-message-count
slice_bounds-message-count c =
    let b = within c.requires.0 (ap (16 +◌) c.public_key_length-start.ensures.0) refl refl in
    omega (arith, b.public_first, b.message_first, b.salt_first, b.seeds_first, b.most)

pub slice_bounds-message-start : goal.slice_bounds-message-start
slice_bounds-message-start c =
    let b = within c.requires.0 (ap (16 +◌) c.public_key_length-start.ensures.0) refl refl in
    omega (arith, b.public_first, b.message_first, b.salt_first, b.seeds_first, b.most)

pub slice_bounds-message-end : goal.slice_bounds-message-end
slice_bounds-message-end c =
    let b = within c.requires.0 (ap (16 +◌) c.public_key_length-start.ensures.0) refl refl in
    omega (arith, b.public_first, b.message_first, b.salt_first, b.seeds_first, b.most)

pub slice_bounds-sign_message-end-2 : goal.slice_bounds-sign_message-end-2
slice_bounds-sign_message-end-2 c =
    let b = within c.requires.0 (ap (16 +◌) c.public_key_length-start.ensures.0) refl refl in
    omega (arith, b.public_first, b.message_first, b.salt_first, b.seeds_first, b.most)

pub slice_bounds-sign_message-end-3 : goal.slice_bounds-sign_message-end-3
slice_bounds-sign_message-end-3 c =
    let b = within c.requires.0 (ap (16 +◌) c.public_key_length-start.ensures.0) refl refl in
    omega (arith, b.public_first, b.message_first, b.salt_first, b.seeds_first, b.most)

pub returns-in-Err : goal.returns-in-Err
returns-in-Err c =
    let p = parts c.requires.0 (ap (16 +◌) c.public_key_length-start.ensures.0) refl refl in
    let answer = signed_answer c.args.set.valid c.args.text.now c.requires.0.in_form p c.sign_message.new.out c.args.signature.now c.requires.1
    c.sign_message.ensures in
    let told = refused_written (scheme_of c.args.set.shape) c.args.text.now (sym c.in-Err.is ∙ answer) refl c.verdict.ensures c.args.out.now
    (c.print_verdict.ensures.value, c.print_verdict.ensures.out_after) in
    record { value = told.0; out_after = told.1 }

pub write_card-requires : goal.write_card-requires
write_card-requires c =
    let h = c.requires.0.in_form in
    let 𝓢 = scheme_of c.args.set.shape in
    let p = parts c.requires.0 (ap (16 +◌) c.public_key_length-start.ensures.0) refl refl in
    let short = ap length p.message_is in
    let most = message_long 𝓢 c.args.text.now h in (
      ap length p.public_is ∙ public_long 𝓢 c.args.text.now h,
      c.sign_message.auto.out ∙ ap length c.requires.1 ∙ length-replicate {A = ℕ} (signature_length c.args.set.shape) 0,
      omega (arith, short, most, c.requires.2),
      omega (arith, short, most, length_is c.args.set.shape (length (decoded_line 3 c.args.text.now)), length_is c.args.set.shape message_limit, c.requires.3),
    )

pub returns : goal.returns
returns c =
    let p = parts c.requires.0 (ap (16 +◌) c.public_key_length-start.ensures.0) refl refl in
    let told = card_written c.args.set.valid c.args.text.now c.requires.0.in_form p c.sign_message.new.out c.args.signature.now c.requires.1
    c.sign_message.ensures c.in_default.is c.args.out.now (c.write_card.ensures.value, c.write_card.ensures.out_after) in
    record { value = told.0; out_after = told.1 }
