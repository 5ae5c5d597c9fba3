-- The ciphertext and the S-boxes' inputs as the code takes them, what the first zero says, and the answers.
-- Assumes nothing.
use Rattle.std.specs.Prelude.{Some, None, Err}
use mathlib.Core.Path.{◌≡◌, sym, ap, ap₂, ◌∙◌}
use mathlib.Core.Bool.{Bool}
use mathlib.Core.List.{List}
use Prim.Native.Nat.{ℕ}
use native.Mathlib.Omega.{arith}
use lib.ListN.{length}
use borrow.Author.Tests.{eq-eqb, ne_eqb}
use Rattle.slices.specs.Lists.{same, found}
use Rattle.slices.specs.Found.{some_found, none_found}
use Rattle.aes.specs.Aes.{aes, sbox_inputs, first_zero}
use Rattle.aes.proofs.Sizes.{length_sbox_inputs}
use Rattle.aes.proofs.Zero.{first_zero_le}
use Rattle.banquet.specs.declared.Shape.{Shape}
use Rattle.banquet.specs.declared.Refusal.TheVariants.{ZeroInput, WrongKey}
use Rattle.banquet.specs.Shape.{sboxes}
use Rattle.banquet.specs.Scheme.{Circuit}
use Rattle.banquet.specs.Sets.{scheme_of}
use Rattle.banquet.specs.Answer.{accepted, require}
use Rattle.banquet.specs.Key.{zero_input, front_of, ciphertext_of, check_inputs, check_key}
use Rattle.sets.specs.Valid.{Valid}
use Rattle.sets.specs.Circuit.{circuit_is, sboxes_200}

module _ {S : Shape} (v : Valid S) (key public : List ℕ) where
  abbrev front : List ℕ
  front = front_of (scheme_of S) public

  -- what the S-boxes are given, as the code has it
  module _ {plaintext inputs : List ℕ} (front_is : plaintext ≡ front) (given : inputs ≡ sbox_inputs key plaintext) where
    inputs_right : inputs ≡ (scheme_of S).circuit.sbox_inputs front key
    inputs_right = given ∙ ap (sbox_inputs key) front_is ∙ ap (λ (c : Circuit). c.sbox_inputs front key) (sym (circuit_is v))

    size : length inputs ≡ sboxes S
    size = ap length given ∙ length_sbox_inputs key plaintext ∙ sym (sboxes_200 v)

    zero_is : first_zero inputs ≡ zero_input (scheme_of S) front key
    zero_is = ap first_zero inputs_right

    -- n is the first zero of all
    pub zero_refused : {n : ℕ} → Some n ≡ found (length inputs) (first_zero inputs) → Err (ZeroInput n) ≡ check_key (scheme_of S) public key accepted
    unfolding check_key check_inputs require
    zero_refused {n} e =
        let f = some_found (length inputs) (first_zero inputs) n e in
        let z : n ≡ zero_input (scheme_of S) front key = f.0 ∙ zero_is in
        sym (simp (← z, ne_eqb n (sboxes S) (λ h. omega (arith, h, f.0, f.1, size))))

    -- none is zero, and t is the test of the ciphertext
    module _ (none : None ≡ found (length inputs) (first_zero inputs)) {ciphertext stated : List ℕ} {t : Bool} (is : ciphertext ≡ aes key plaintext)
        (stated_is : stated ≡ ciphertext_of (scheme_of S) public) (test : t ≡ same ciphertext stated) where
      all_found : zero_input (scheme_of S) front key ≡ sboxes S
      all_found = omega (arith, none_found _ _ none, first_zero_le inputs, zero_is, size)

      tested : same ((scheme_of S).circuit.encrypt front key) (ciphertext_of (scheme_of S) public) ≡ t
      tested =
          sym (test ∙ ap₂ same (is ∙ ap (aes key) front_is ∙ ap (λ (c : Circuit). c.encrypt front key) (sym (circuit_is v))) stated_is)

      pub compared : {u : Bool} → t ≡ u → require u WrongKey accepted ≡ check_key (scheme_of S) public key accepted
      unfolding check_key check_inputs require
      compared h = sym (simp (eq-eqb (zero_input (scheme_of S) front key) (sboxes S) all_found, tested ∙ h))
