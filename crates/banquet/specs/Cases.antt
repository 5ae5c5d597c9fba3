-- "The starred cases are shown of the definitions as rows of a single list, by one proof." Quotations are without the stars.
use Rattle.std.specs.Prelude.{◌≡◌, List, [], ◌∷◌, map, ℕ}
use Rattle.std.proofs.Math.Path.{refl}
use Rattle.field.specs.Linear.{combine, orbit}
use Rattle.field.specs.Ring.{xtime, times}
use Rattle.field.specs.Field.{iterate, inverse, ones_power}
use Rattle.field.specs.Lift.{lift}
use Rattle.field.specs.Byte.{mul8}
use Rattle.aes.specs.Aes.{matrix, sbox}
use Rattle.banquet.specs.Shape.{j_of, k_of, sbox_at}
use Rattle.banquet.specs.Scheme.{wide_mul, lifted}
use Rattle.banquet.specs.Hash.{evaluation_point, party_of}
use Rattle.banquet.specs.Tree.{node_numbers, siblings}
use Rattle.banquet.specs.Sets.{base, base_scheme}

-- what the definitions give, and what document 01 says
abbrev pub Row : Type 0
Row = List ℕ × List ℕ

-- whatever salt, execution and root seed are
module _ (salt : List ℕ) (e : ℕ) (root : List ℕ) where
  abbrev sibling_nodes : ℕ → List ℕ
  sibling_nodes hidden = node_numbers (siblings base_scheme.hash salt e base.depth 0 root hidden)

  abbrev pub starred : List Row
  starred =
      -- "0x53 times 0xCA is 1 in the AES field; the S-box of 0x00 is 0x63; of 0x53, 0xED."
      (mul8 0x53 0xca ∷ [], 1 ∷ [])
      ∷ (sbox 0x00 ∷ [], 0x63 ∷ [])
      ∷ (sbox 0x53 ∷ [], 0xed ∷ [])
      -- "Wide: 0x10000 squared is 0x8D; 0x80000000 times 2 is 0x8D. 0 lifts to 0, 1 to 1."
      ∷ (wide_mul base_scheme 0x10000 0x10000 ∷ [], 0x8d ∷ [])
      ∷ (wide_mul base_scheme 0x80000000 2 ∷ [], 0x8d ∷ [])
      ∷ (lifted base_scheme 0 ∷ lifted base_scheme 1 ∷ [], 0 ∷ 1 ∷ [])
      -- "Siblings for hidden 0: nodes 2, 4, 8, 16; 5: 2, 3, 10, 19; 15: 1, 5, 13, 29."
      ∷ (sibling_nodes 0, 2 ∷ 4 ∷ 8 ∷ 16 ∷ [])
      ∷ (sibling_nodes 5, 2 ∷ 3 ∷ 10 ∷ 19 ∷ [])
      ∷ (sibling_nodes 15, 1 ∷ 5 ∷ 13 ∷ 29 ∷ [])
      -- "Draws 0, 19, 20 for R give 20, 39, 20. Hidden draw 31 gives 15. S-box 137 has j = 7, k = 13."
      ∷ (evaluation_point base.m2 0 ∷ evaluation_point base.m2 19 ∷ evaluation_point base.m2 20 ∷ [], 20 ∷ 39 ∷ 20 ∷ [])
      ∷ (party_of base.parties 31 ∷ [], 15 ∷ [])
      ∷ (j_of base 137 ∷ k_of base 137 ∷ sbox_at base 7 13 ∷ [], 7 ∷ 13 ∷ 137 ∷ [])
      ∷ []

  pub starred_hold : map (λ (r : Row). r.0) starred ≡ map (λ (r : Row). r.1) starred
  unfolding xtime times combine orbit iterate inverse ones_power lift matrix sbox siblings evaluation_point party_of
  starred_hold = refl
