-- A party's share of a public byte is the byte times 0 or 1. Assumes nothing.
use mathlib.Core.Path.{◌≡◌, sym, ◌∙◌}
use Prim.Native.Nat.{ℕ, ◌*◌, ◌<◌, ◌≤◌}
use native.Mathlib.Nat.{mul-le-mul_right}
use native.Mathlib.Omega.{arith}
use Rattle.slices.specs.Xor.{by_digit}
use Rattle.field.specs.Field.{zero_l}
use Rattle.field.specs.Byte.{mul8, field8}
use Rattle.field.proofs.Byte.{times_one}

module _ (one c : ℕ) (small : one < 2) (byte : c < 256) where
  pub public_fits : one * c < 256
  public_fits =
      let m : one * c ≤ 1 * c = mul-le-mul_right c (omega arith) in
      omega (arith, m)

  pub public_byte : one * c ≡ mul8 one c
  public_byte =
      let none : 0 * c ≡ 0 = omega arith in
      let same : 1 * c ≡ c = omega arith in
      by_digit (λ n. n * c ≡ mul8 n c) (none ∙ sym (zero_l 8 mul8 field8.ring c)) (same ∙ sym (times_one byte)) one small
