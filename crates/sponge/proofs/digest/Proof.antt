-- `sponge::digest` meets its contract: the stream's output is SHAKE128's. Assumes nothing.
use mathlib.Core.Path.{ap, ◌∙◌}
use borrow.Author.Rules.{rules}
use lib.ListN.{length}
use Rattle.slices.specs.Bytes.{bytes_of}
use Rattle.stream.specs.Stream.{absorbed}
use Rattle.stream.proofs.Shake.{output}
use Rattle.sponge.proofs.digest.Statement.{statement}
use Rattle.sponge.proofs.digest.Tie as tie

returns : tie.Need-returns
returns c =
    let q = c in
    let f = q in
    let b = f in
    let m = b.args.src.now in
    q.squeeze.ensures.0
    ∙ output m (length b.args.out.now) (bytes_of b.shared_slice_known-1.given)
    (f.absorb-a.ensures ∙ ap (λ s. absorbed s m) f.new-s.ensures) f.finish-f.ensures

pub digest_spec : {M : Type 1} → statement M
digest_spec =
    tie.close
    (tie.spec (λ c κs. tt) (λ c κs. tt) (λ c κs. tt) (λ c κs. tt) (λ c. search rules) returns)
