-- The row that an execution begins with, in the terms of the definitions: the part of h1 and the product offsets that it leads to. Assumes nothing.
use Rattle.std.specs.Prelude.{◌≡◌, ℕ, suc, ◌+◌, ◌*◌, length, take}
use Rattle.std.proofs.Math.Path.{refl, sym, ap₂}
use Rattle.std.proofs.Common.{ap, ◌∙◌, length-append, take-add}
use mathlib.Core.List.{List, ◌++◌, append_assoc}
use Rattle.slices.specs.Lists.{rows, row, part}
use Rattle.slices.specs.Numbers.{length_numbers}
use Rattle.banquet.specs.declared.Shape.{Shape}
use Rattle.banquet.specs.Shape.{sboxes}
use Rattle.banquet.specs.Scheme.{true_inverses}
use Rattle.banquet.specs.Sets.{scheme_of}
use Rattle.banquet.specs.Hash.{commitment, first_challenge}
use Rattle.banquet.specs.Key.{front_of}
use Rattle.banquet.specs.Execution.{Committed, output_share}
use Rattle.banquet.specs.Signer.{seed_of, tape_of, product_offsets}
use Rattle.banquet.specs.Signature.{h1_part, signer_committed, signer_h1_part, signer_h1, signer_offsets}
use Rattle.sets.specs.Valid.{Valid}
use Rattle.sets.specs.Bounds.{by_points}
use Rattle.sets.specs.Circuit.{all_inputs, all_inverses}
use Rattle.forms.specs.Point.{point_rows, point_lasts}
use Rattle.forms.specs.Party.{committed}
use Rattle.forms.specs.Offsets.{worked_offsets, key_offset_lem, inverse_offsets_lem, product_offsets_lem}
use Rattle.signing.specs.Steps.{witness_length, own_row, own_part}
use Rattle.signing.specs.Own.{drawn, own_worked, own_key, own_inverses}

-- the key, the S-boxes' inputs under it, their inverses, and the key with the inverses behind it
pub record Witness (S : Shape) (key public_key inputs inverses witness : List ℕ) : Type 0 where
  pub key_size : length key ≡ 16
  pub inputs_is : inputs ≡ (scheme_of S).circuit.sbox_inputs (front_of (scheme_of S) public_key) key
  pub inverses_is : inverses ≡ true_inverses (scheme_of S) (front_of (scheme_of S) public_key) key
  pub witness_is : witness ≡ key ++ inverses

module _ {S : Shape} (v : Valid S) {key public_key inputs inverses witness : List ℕ} (w : Witness S key public_key inputs inverses witness) where
  pub inputs_size : length inputs ≡ sboxes S
  inputs_size = ap length w.inputs_is ∙ all_inputs v (front_of (scheme_of S) public_key) key

  pub inverses_size : length inverses ≡ sboxes S
  inverses_size = ap length w.inverses_is ∙ all_inverses v (front_of (scheme_of S) public_key) key

  pub witness_long : length witness ≡ witness_length S
  witness_long = ap length w.witness_is ∙ length-append key inverses ∙ ap₂ ◌+◌ w.key_size inverses_size

  module _ (message salt roots : List ℕ) (e : ℕ) where
    open S use {parties, wide, m2}

    abbrev front : List ℕ
    front = front_of (scheme_of S) public_key

    abbrev root : List ℕ
    root = row 16 e roots

    abbrev own : List ℕ
    own = own_row S witness salt root e

    abbrev x : Committed
    x = signer_committed (scheme_of S) key public_key salt roots e

    pub key_is : take 16 own ≡ x.key_offset
    key_is =
        own_key v witness salt root e key inverses w.witness_is w.key_size inverses_size
        ∙ key_offset_lem v (drawn v witness salt root e) front key

    pub inverses_are : part 16 (sboxes S) own ≡ x.inverse_offsets
    inverses_are =
        own_inverses v witness salt root e key inverses w.witness_is w.key_size inverses_size
        ∙ inverse_offsets_lem v (drawn v witness salt root e) front key w.inverses_is

    -- ---- the part of h1

    -- the commitments and the output shares
    abbrev shown : Committed → List ℕ
    shown c =
        rows (λ i. commitment (scheme_of S) salt e i (seed_of (scheme_of S) salt root e i)) parties
        ++ rows (λ i. output_share (scheme_of S) c i (tape_of (scheme_of S) salt root e i)) parties

    pub first_part : own_part S (front_of (scheme_of S) public_key) witness salt root e ≡ signer_h1_part (scheme_of S) key public_key salt roots e
    unfolding own_part signer_h1_part h1_part
    first_part =
        ap₂ ◌++◌ (λ j. shown (committed front (key_is j) (inverses_are j))) (take-add 16 (sboxes S) own ∙ ap₂ ◌++◌ key_is inverses_are)
        ∙ sym (append_assoc (shown x) x.key_offset x.inverse_offsets)

    -- ---- the product offsets

    abbrev first : List ℕ
    first = first_challenge (scheme_of S) (signer_h1 (scheme_of S) key public_key message salt roots) e

    abbrev offsets : List ℕ
    offsets = signer_offsets (scheme_of S) key public_key message salt roots e

    pub offsets_are : worked_offsets S (point_rows S inputs) (point_rows S inverses) (point_lasts S) own first ≡ offsets
    unfolding signer_offsets
    offsets_are =
        own_worked v witness salt root e witness_long (point_rows S inputs) (point_rows S inverses) (point_lasts S) first
        ∙ product_offsets_lem v (drawn v witness salt root e) front key w.inputs_is w.inverses_is refl refl refl first

    pub offsets_long : length offsets ≡ 21 * wide
    unfolding signer_offsets product_offsets
    offsets_long = length_numbers wide (suc m2) _ ∙ by_points v wide
