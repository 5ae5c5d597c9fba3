-- `affine::affine_byte` is the affine map of a byte. Assumes nothing.
use Rattle.std.proofs.Common.{◌≡◌, ◌∙◌, refl, sym, ap, ap₂, ℕ, ◌+◌, ◌*◌, ◌/◌, ◌%◌, ◌^◌, ◌<◌, arith}
use Rattle.std.proofs.Math.Nat.{add_comm, add-zero, mul-mod_left}
use Rattle.std.proofs.Math.Pow.{shr_lt}
use Rattle.std.proofs.lemmas.Nat.{mod-pow-add, or_shifted, shl-shr}
use Rattle.std.specs.Int.Bits.{bit_or, bit_xor, xor_shifted}
use Rattle.affine.specs.Rotations.{matrix_by_rotations}
use Rattle.affine.proofs.affine_byte.Goals as goal

-- the two parts of a rotated byte have no bit in common, so that joining them is adding them
joined : (b k j : ℕ) → 8 ≡ j + k → b < 2 ^ 8 → bit_or (b * 2 ^ k % 2 ^ 8) (b / 2 ^ j) ≡ bit_xor (b * 2 ^ k % 2 ^ 8) (b / 2 ^ j)
joined b k j e h =
    let few : b / 2 ^ j < 2 ^ k = shr_lt k j (rw (add_comm k j, ← e) h) in
    let high : b * 2 ^ k % 2 ^ 8 ≡ b % 2 ^ j * 2 ^ k =
    ap (λ m. b * 2 ^ k % 2 ^ m) e ∙ mod-pow-add (b * 2 ^ k) j k
    ∙ ap₂ ◌+◌ (ap (λ x. x % 2 ^ j * 2 ^ k) (shl-shr b k)) (mul-mod_left b (2 ^ k)) ∙ add-zero _ in
    rw high (or_shifted (b % 2 ^ j) k (b / 2 ^ j) few ∙ sym (xor_shifted (b % 2 ^ j) k (b / 2 ^ j) few))

pub returns : goal.returns
returns c =
    let b = c.args.b in
    let small : b < 2 ^ 8 = omega arith in
    rw (
      c.rotate_left.ensures,
      joined b 1 7 refl small,
      c.rotate_left-2.ensures,
      joined b 2 6 refl small,
      c.rotate_left-3.ensures,
      joined b 3 5 refl small,
      c.rotate_left-4.ensures,
      joined b 4 4 refl small,
    )
    (ap (λ (x : ℕ). bit_xor x c.args.c) (matrix_by_rotations b small))
