-- `hash_inputs::draw` meets its contract: the stream's output is SHAKE128's. Assumes nothing.
use mathlib.Core.Path.{refl, ◌∙◌}
use mathlib.Core.List.{◌∷◌}
use borrow.Author.Rules.{rules}
use lib.ListN.{length}
use Rattle.slices.specs.Bytes.{bytes_of, cons_bytes}
use Rattle.stream.proofs.Shake.{output}
use Rattle.hash_inputs.proofs.draw.Statement.{statement}
use Rattle.hash_inputs.proofs.draw.Tie as tie

returns : tie.Need-returns
returns c =
    let q = c in
    let t = q in
    let b = t in
    let a = b.args in
    q.output.ensures
    ∙ output (a.tag ∷ a.h.now) (length a.out.now) (cons_bytes b.ranges.tag.fits (bytes_of b.shared_slice_known-1.given)) t.tagged-s.ensures refl

pub draw_spec : {M : Type 1} → statement M
draw_spec = tie.close (tie.spec (λ c κs. search rules) (λ c κs. search rules) (λ c. search rules) returns)
