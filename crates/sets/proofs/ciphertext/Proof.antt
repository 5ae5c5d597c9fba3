-- `sets::ciphertext` meets its contract: all that stands behind the front. Assumes nothing.
use Prim.Native.Nat.{◌-◌}
use native.Mathlib.Omega.{arith}
use lib.ListN.{length, drop, length-drop}
use lib.Seq.{take_all}
use borrow.Author.Rules.{rules}
use Rattle.sets.proofs.ciphertext.Statement.{statement}
use Rattle.sets.proofs.ciphertext.Tie as tie

pub ciphertext_spec : {M : Type 1} → statement M
ciphertext_spec =
    tie.close
    (tie.spec (λ c. search rules) (λ c. search rules) (λ c. search rules)
    (λ c.
    let a = c.before.args in
    take_all (length a.public.now - a.shape.front) (drop a.shape.front a.public.now)
    (omega (arith, length-drop a.shape.front a.public.now))))
