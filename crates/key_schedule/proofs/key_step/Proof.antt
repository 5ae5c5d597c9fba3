-- `key_schedule::key_step` is the next round key. Assumes nothing.
use mathlib.Core.Path.{◌≡◌, refl, sym, ap, ap₂, ◌∙◌}
use mathlib.Core.List.{List, [], ◌∷◌}
use Prim.Native.Nat.{ℕ}
use lib.Bits.{bit_xor, xor_zero_r}
use lib.ListN.{get_or}
use borrow.Author.Rules.{rules}
use Rattle.aes.specs.Aes.{add, next_key}
use Rattle.key_schedule.proofs.key_step.Statement.{statement}
use Rattle.key_schedule.proofs.key_step.Tie as tie

-- a word plus Rcon
plus_rcon : (t : List ℕ) (c : ℕ) → bit_xor (get_or t 0 0) c ∷ get_or t 1 0 ∷ get_or t 2 0 ∷ get_or t 3 0 ∷ [] ≡ add 4 t (c ∷ 0 ∷ 0 ∷ 0 ∷ [])
plus_rcon t c = ap (bit_xor (get_or t 0 0) c ∷◌) (ap₂ ◌∷◌ (none 1) (ap₂ ◌∷◌ (none 2) (ap₂ ◌∷◌ (none 3) refl)))
  where
    none : (i : ℕ) → get_or t i 0 ≡ bit_xor (get_or t i 0) 0
    none i = sym (xor_zero_r (get_or t i 0))

returns : tie.Need-returns
returns c =
    let args = c.args in
    c.next_key.ensures ∙ ap (next_key args.k) (plus_rcon args.s args.c)

pub key_step_spec : {M : Type 1} → statement M
key_step_spec =
    tie.close (tie.spec (λ c. search rules) (λ c. search rules) (λ c. search rules) (λ c. search rules) (λ c κs. search rules) returns)
