-- `shares::next_key_share` is the next round key's share. Assumes nothing.
use mathlib.Core.Path.{◌≡◌, sym, ap, ap₂, ◌∙◌}
use mathlib.Core.List.{List, [], ◌∷◌}
use Prim.Native.Nat.{ℕ, ◌+◌, ◌*◌, ◌<◌}
use native.Mathlib.Nat.{add-zero}
use native.Mathlib.Omega.{arith}
use lib.ListN.{get_or}
use borrow.Author.Rules.{rules}
use Rattle.field.specs.Field.{zero_r}
use Rattle.field.specs.Byte.{mul8, field8}
use Rattle.aes.specs.Aes.{add, round_constants, rcon, next_key}
use Rattle.circuit.specs.Circuit.{public}
use Rattle.shares.proofs.Laws.{public_fits, public_byte}
use Rattle.shares.proofs.next_key_share.Statement.{statement}
use Rattle.shares.proofs.next_key_share.Tie as tie

word_read : (z : List ℕ) (a : ℕ) → get_or z a 0 ∷ get_or z (a + 1) 0 ∷ get_or z (a + 2) 0 ∷ get_or z (a + 3) 0 ∷ []
    ≡ get_or z (a + 0) 0 ∷ get_or z (a + 1) 0 ∷ get_or z (a + 2) 0 ∷ get_or z (a + 3) 0 ∷ []
word_read z a = ap (λ (i : ℕ). get_or z i 0 ∷ get_or z (a + 1) 0 ∷ get_or z (a + 2) 0 ∷ get_or z (a + 3) 0 ∷ []) (sym (add-zero a))

public_rcon : (one n : ℕ) → mul8 one (get_or round_constants n 0) ∷ 0 ∷ 0 ∷ 0 ∷ [] ≡ public one 4 (rcon n)
public_rcon one n = ap (λ (x : ℕ). mul8 one (get_or round_constants n 0) ∷ x ∷ x ∷ x ∷ []) (sym (zero_r 8 mul8 field8.ring one))

abbrev start : tie.After-round_constant → tie.Start
start c = c.before.before.before.before.before.before

small : (c : tie.After-round_constant) → (start c).args.one < 2
small c = omega (arith, (start c).requires)

byte : (c : tie.After-round_constant) → c.round_constant.result < 256
byte c = omega arith

mul-key-step : tie.Need-overflow_mul-one
mul-key-step c = omega (arith, public_fits (start c).args.one c.round_constant.result (small c) (byte c))

returns : tie.Need-returns
returns c =
    let constant = c.before in
    let args = (start constant).args in
    c.key_step.ensures
    ∙ ap₂ (λ (s t : List ℕ). next_key args.k (add 4 s t)) (word_read args.z.now (args.n * 4))
    (ap (λ (x : ℕ). x ∷ 0 ∷ 0 ∷ 0 ∷ [])
    (public_byte args.one constant.round_constant.result (small constant) (byte constant)
    ∙ ap (mul8 args.one) constant.round_constant.ensures)
    ∙ public_rcon args.one args.n)

pub next_key_share_spec : {M : Type 1} → statement M
next_key_share_spec =
    tie.close
    (tie.spec (λ c. search rules) (λ c. search rules) (λ c. search rules) (λ c. search rules) (λ c. search rules) (λ c. search rules)
    (λ c. search rules) (λ c. search rules) (λ c κs. search rules) mul-key-step (λ c κs. search rules) returns)
