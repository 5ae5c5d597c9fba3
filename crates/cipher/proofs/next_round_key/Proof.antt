-- `cipher::next_round_key` is the composition of its steps. Assumes nothing.
use mathlib.Core.Path.{◌∙◌, ap, ap₂}
use mathlib.Core.List.{List, [], ◌∷◌, map}
use Prim.Native.Nat.{ℕ}
use borrow.Author.Rules.{rules}
use Rattle.aes.specs.Aes.{add, sbox, next_key}
use Rattle.cipher.proofs.next_round_key.Statement.{statement}
use Rattle.cipher.proofs.next_round_key.Tie as tie

returns : tie.Need-returns
returns c =
    let constant = c in
    let second = constant in
    let first = second in
    c.key_step.ensures
    ∙ ap₂ (λ (s : List ℕ) (r : ℕ). next_key first.args.k (add 4 s (r ∷ 0 ∷ 0 ∷ 0 ∷ [])))
    (second.substitute.ensures ∙ ap (map sbox) first.key_input-s.ensures) constant.round_constant.ensures

pub next_round_key_spec : {M : Type 1} → statement M
next_round_key_spec =
    tie.close
    (tie.spec (λ c κs. search rules) (λ c. search rules) (λ c κs. search rules) (λ c κs. search rules) (λ c κs. search rules) returns)
