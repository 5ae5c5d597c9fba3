-- `permutation::round::rotated` meets its contract: the library's rotation is that of the definition. Assumes nothing.
use Rattle.std.proofs.Common.{◌≡◌, ◌∙◌, ap, ap₂, ℕ, zero, suc, ◌-◌, ◌*◌, ◌/◌, ◌%◌, ◌^◌, ◌<◌, mod-eq_of_lt, arith}
use Rattle.std.proofs.Math.Nat.{mul-one, div-one}
use Rattle.std.specs.Int.Bits.{bit_or, or_self}
use Rattle.keccak.specs.Keccak.{rotl}
use Rattle.permutation.proofs.round.rotated.Goals as goal

shifts : (a k : ℕ) → a < 2 ^ 64 → k < 64 → bit_or (a * 2 ^ k % 2 ^ 64) (a / 2 ^ ((64 - k) % 64)) ≡ rotl a k
unfolding rotl
shifts a zero h l = ap₂ bit_or (ap (◌% 2 ^ 64) (mul-one a) ∙ mod-eq_of_lt h) (div-one a) ∙ or_self a
shifts a (suc k) h l = ap (λ j. bit_or (a * 2 ^ suc k % 2 ^ 64) (a / 2 ^ j)) (mod-eq_of_lt (omega arith))

pub returns : goal.returns
returns c = c.rotate_left.ensures ∙ shifts c.args.a (c.args.n % 64) (omega arith) (omega arith)
