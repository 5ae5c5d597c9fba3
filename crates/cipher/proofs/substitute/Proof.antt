-- `cipher::substitute` inverts and then maps. Assumes nothing.
use mathlib.Core.Path.{◌∙◌, ap}
use mathlib.Core.List.{map, map-map}
use Prim.Native.Nat.{ℕ}
use lib.Bits.{bit_xor}
use borrow.Author.Rules.{rules}
use Rattle.field.specs.Byte.{inverse8}
use Rattle.aes.specs.Aes.{matrix, sbox}
use Rattle.cipher.proofs.substitute.Statement.{statement}
use Rattle.cipher.proofs.substitute.Tie as tie

abbrev affine : ℕ → ℕ
affine b = bit_xor (matrix b) 0x63

returns : tie.Need-returns
unfolding sbox
returns c =
    let second = c in
    let first = second in
    second.affine.ensures ∙ ap (map affine) first.invert.ensures ∙ map-map affine inverse8 first.args.s.now

pub substitute_spec : {M : Type 1} → statement M
substitute_spec = tie.close (tie.spec (λ c κs. search rules) (λ c κs. search rules) (λ c. search rules) returns)
