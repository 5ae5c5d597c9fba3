-- `requests::print_request` meets its contract: the text is read, and what it stands for is signed. Assumes nothing.
use Rattle.std.proofs.Common.{◌≡◌, List, ℕ, refl, sym, ap, ◌∙◌, length, lit≤}
use Rattle.std.specs.Prelude.{replicate}
use Rattle.slices.specs.Layout.{total}
use Rattle.banquet.specs.Shape.{message_limit}
use Rattle.banquet.specs.Answer.{accepted, output_after}
use Rattle.banquet.specs.Card.{decoded_lines, check_lines}
use Rattle.banquet.specs.Sets.{base, base_scheme}
use Rattle.sets.specs.Valid.{valid_base}
use Rattle.requests.specs.Requests.{request_sizes}
use Rattle.requests.specs.Reading.{form, broken_answer}
use Rattle.requests.specs.Read.{read}
use Rattle.requests.proofs.Laws.{refused_written}
use Rattle.requests.proofs.print_request.Goals as goal

pub returns-in-Err : goal.returns-in-Err
returns-in-Err c =
    let text = c.args.text.now in
    let is : c.read_lines.result ≡ form base_scheme text =
    c.read_lines.ensures.value ∙ ap (λ (s : List ℕ). check_lines 3 s 1 text accepted) c.request_sizes-sizes.ensures in
    let told = refused_written base_scheme text (sym c.in-Err.is ∙ broken_answer base_scheme text is c.in-Err.is) refl c.verdict.ensures c.args.out.now
    (c.print_verdict.ensures.value, c.print_verdict.ensures.out_after) in
    record { value = told.0; out_after = told.1 }

pub sign_request-requires : goal.sign_request-requires
sign_request-requires c =
    let text = c.args.text.now in
    let room = replicate {A = ℕ} (total (request_sizes base message_limit)) 0 in
    let is : c.read_lines.result ≡ form base_scheme text =
    c.read_lines.ensures.value ∙ ap (λ (s : List ℕ). check_lines 3 s 1 text accepted) c.request_sizes-sizes.ensures in
    let bytes = c.read_lines.ensures.out_after
    ∙ ap (λ (s : List ℕ). output_after c.read_lines.result (decoded_lines (length s) text) room) c.request_sizes-sizes.ensures in
    (read base_scheme text c.read_lines.new.out room is bytes c.in_default.is, refl, lit≤ tt, c.requires)
