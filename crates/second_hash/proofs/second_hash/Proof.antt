-- `second_hash::second_hash` meets its contract: the byte 2, h1 and all product offsets are absorbed. Assumes nothing.
use mathlib.Core.Path.{ap, ◌∙◌}
use mathlib.Core.List.{◌∷◌}
use native.Mathlib.Omega.{arith}
use borrow.Author.Rules.{rules}
use Rattle.slices.specs.Bytes.{bytes_of}
use Rattle.stream.specs.Stream.{empty, absorbed}
use Rattle.second_hash.proofs.Laws.{second_hashed}
use Rattle.second_hash.proofs.second_hash.Statement.{statement}
use Rattle.second_hash.proofs.second_hash.Tie as tie

returns : tie.Need-returns
returns c =
    let o = c in
    let p = o in
    let t = p in
    let h = t in
    let k = h in
    let a = k.args in
    second_hashed a.set.shape a.s.now (bytes_of k.shared_slice_known-1.given)
    (t.tagged-start.ensures ∙ ap (λ x. absorbed empty (2 ∷ x)) h.h1.ensures) p.absorb_products-t.ensures o.output.ensures

pub second_hash_spec : {M : Type 1} → statement M
second_hash_spec =
    tie.close
    (tie.spec (λ c κs. omega (arith, c.requires)) (λ c κs. search rules) (λ c κs. search rules) (λ c. search rules)
    (λ c κs. search rules) returns)
