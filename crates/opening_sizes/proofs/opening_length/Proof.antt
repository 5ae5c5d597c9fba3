-- `opening_sizes::opening_length` meets its contract. Assumes nothing.
use mathlib.Core.Path.{ap}
use Prim.Native.Nat.{◌+◌, ◌*◌}
use native.Mathlib.Omega.{arith}
use borrow.Author.Rules.{rules}
use Rattle.opening_sizes.proofs.opening_length.Statement.{statement}
use Rattle.opening_sizes.proofs.opening_length.Tie as tie

returns : tie.Need-returns
returns c =
    let t = c in
    let s = t in
    (ap (λ n. n + (1 + s.args.set.shape.depth * 16)) t.transcript_length.ensures.0, omega (arith, t.transcript_length.ensures.1, s.args.set.valid.shallow))

pub opening_length_spec : {M : Type 1} → statement M
opening_length_spec =
    tie.close
    (tie.spec (λ c κs. search rules) (λ c. search rules) (λ c. search rules)
    (λ c. omega (arith, c.transcript_length.ensures.1, c.args.set.valid.shallow)) returns)
