-- `card_text::check_text` meets its contract: the text is read, and its parts are checked. Assumes nothing.
use Rattle.std.proofs.Common.{arith, refl}
use Rattle.card_text.proofs.Checked.{room, card_room, sizes_room, card_refused, parts_lie, card_checked}
use Rattle.card_text.proofs.check_text.Goals as goal

pub read_lines-requires : goal.read_lines-requires
read_lines-requires c =
    let lines = c.lines-lines.ensures in
    sizes_room c.args.set.shape c.card_sizes-sizes.result lines.0 c.card_sizes-sizes.ensures room lines.1 (card_room c.args.set.shape room c.requires refl)

pub returns-in_err-read_lines : goal.returns-in_err-read_lines
returns-in_err-read_lines c =
    card_refused (record { many = c.lines-lines.ensures.0; are = c.card_sizes-sizes.ensures; answer = c.read_lines.ensures.value })
    c.args.work.now c.in_err-read_lines.was c.from_residual.ensures.1

pub overflow_sub-end : goal.overflow_sub-end
overflow_sub-end c =
    (parts_lie c.args.set.shape c.args.text.now c.card_sizes-sizes.result c.read_lines.new.out c.lines-lines.ensures.0 c.card_sizes-sizes.ensures
    c.read_lines.ensures.value c.in_ok-read_lines.was c.public_key_length-message.ensures.0 refl c.requires c.read_lines.auto.out).0

pub overflow_sub-signature : goal.overflow_sub-signature
overflow_sub-signature c =
    (parts_lie c.args.set.shape c.args.text.now c.card_sizes-sizes.result c.read_lines.new.out c.lines-lines.ensures.0 c.card_sizes-sizes.ensures
    c.read_lines.ensures.value c.in_ok-read_lines.was c.public_key_length-message.ensures.0 c.signature_length.ensures.0 c.requires c.read_lines.auto.out).1

pub slice_bounds-check-count-2 : goal.slice_bounds-check-count-2
slice_bounds-check-count-2 c =
    (parts_lie c.args.set.shape c.args.text.now c.card_sizes-sizes.result c.read_lines.new.out c.lines-lines.ensures.0 c.card_sizes-sizes.ensures
    c.read_lines.ensures.value c.in_ok-read_lines.was c.public_key_length-message.ensures.0 c.signature_length.ensures.0 c.requires c.read_lines.auto.out).2

pub slice_bounds-check-start-2 : goal.slice_bounds-check-start-2
slice_bounds-check-start-2 c =
    let lie = parts_lie c.args.set.shape c.args.text.now c.card_sizes-sizes.result c.read_lines.new.out c.lines-lines.ensures.0 c.card_sizes-sizes.ensures
    c.read_lines.ensures.value c.in_ok-read_lines.was c.public_key_length-message.ensures.0 c.signature_length.ensures.0 c.requires c.read_lines.auto.out in
    omega (arith, lie)

pub slice_bounds-check-end-2 : goal.slice_bounds-check-end-2
slice_bounds-check-end-2 c =
    let lie = parts_lie c.args.set.shape c.args.text.now c.card_sizes-sizes.result c.read_lines.new.out c.lines-lines.ensures.0 c.card_sizes-sizes.ensures
    c.read_lines.ensures.value c.in_ok-read_lines.was c.public_key_length-message.ensures.0 c.signature_length.ensures.0 c.requires c.read_lines.auto.out in
    omega (arith, lie)

pub slice_bounds-check-end-3 : goal.slice_bounds-check-end-3
slice_bounds-check-end-3 c =
    let lie = parts_lie c.args.set.shape c.args.text.now c.card_sizes-sizes.result c.read_lines.new.out c.lines-lines.ensures.0 c.card_sizes-sizes.ensures
    c.read_lines.ensures.value c.in_ok-read_lines.was c.public_key_length-message.ensures.0 c.signature_length.ensures.0 c.requires c.read_lines.auto.out in
    omega (arith, lie)

pub returns : goal.returns
returns c =
    card_checked (record { many = c.lines-lines.ensures.0; are = c.card_sizes-sizes.ensures; answer = c.read_lines.ensures.value })
    c.in_ok-read_lines.was c.public_key_length-message.ensures.0 c.signature_length.ensures.0
    c.args.work.now c.read_lines.new.out room c.read_lines.ensures.out_after c.check.ensures
