-- `shares::aes_circuit` is the S-boxes' affine transformations, and then the rounds. Assumes nothing.
use mathlib.Core.Path.{◌≡◌, sym, ap, ap₂, ◌∙◌}
use mathlib.Core.List.{List, map, ◌++◌}
use Prim.Native.Nat.{ℕ}
use native.Mathlib.Omega.{arith}
use lib.Bits.{bit_xor}
use lib.ListN.{length, drop}
use borrow.Author.Rules.{rules}
use Rattle.slices.specs.Lists.{rows}
use Rattle.slices.specs.Tab.{tab_map}
use Rattle.field.specs.Byte.{mul8}
use Rattle.aes.specs.Aes.{matrix, key_inputs}
use Rattle.circuit.specs.Circuit.{
  share,
  public,
  affine,
  sbox_outputs,
  round_key_share,
  expansion_share,
  entering_share,
  cipher_share,
  input_shares,
  output_share,
}
use Rattle.shares.proofs.Laws.{public_byte}
use Rattle.shares.proofs.aes_circuit.Statement.{statement}
use Rattle.shares.proofs.aes_circuit.Tie as tie

-- ---- what the calls give, in the words of the definitions

sbox_outputs_lem : (one : ℕ) (y : List ℕ) {x : ℕ} {s z : List ℕ} → length y ≡ 200 → s ≡ y → x ≡ mul8 one 0x63
    → z ≡ map (λ (b : ℕ). bit_xor (matrix b) x) s → z ≡ sbox_outputs 200 one y
unfolding sbox_outputs affine
sbox_outputs_lem one y size e q r =
    r ∙ ap₂ (λ (x : ℕ) (s : List ℕ). map (λ (b : ℕ). bit_xor (matrix b) x) s) q e ∙ sym (tab_map (affine one) y)
    ∙ ap (λ (m : ℕ). sbox_outputs m one y) size

module _ (one : ℕ) (key plaintext y : List ℕ) {z : List ℕ} (given : z ≡ sbox_outputs 200 one y) where
  output : {r : List ℕ} → r ≡ cipher_share (expansion_share one key z) (drop 40 z) → r ≡ output_share (share one key y)
  unfolding output_share
  output e = e ∙ ap (λ (z : List ℕ). cipher_share (expansion_share one key z) (drop 40 z)) given

  inputs : {i : List ℕ}
      → i ≡ key_inputs (round_key_share one key z) ++ rows (entering_share (expansion_share one key z) (public one 16 plaintext) (drop 40 z)) 10
      → i ≡ input_shares plaintext (share one key y)
  unfolding input_shares
  inputs e =
      e ∙ ap (λ (z : List ℕ). key_inputs (round_key_share one key z)
      ++ rows (entering_share (expansion_share one key z) (public one 16 plaintext) (drop 40 z)) 10) given

returns : tie.Need-returns
returns c =
    let rounds = c in
    let sum = rounds in
    let copied = sum in
    let entry = copied in
    let args = entry.args in
    let y = args.inverses.now in
    let size : length y ≡ 200 = omega (arith, entry.requires) in
    let constant = public_byte args.one 0x63 (omega (arith, entry.requires)) (omega arith) in
    let z = sbox_outputs_lem args.one y size copied.copy.ensures constant sum.affine.ensures in (
      output args.one args.key.now args.plaintext.now y z rounds.rounds.ensures.0,
      inputs args.one args.key.now args.plaintext.now y z rounds.rounds.ensures.1,
    )

pub aes_circuit_spec : {M : Type 1} → statement M
aes_circuit_spec =
    tie.close
    (tie.spec (λ c. search rules) (λ c κs. search rules) (λ c. search rules) (λ c. search rules) (λ c κs. search rules)
    (λ c. search rules) (λ c κs. search rules) (λ c. search rules) returns)
