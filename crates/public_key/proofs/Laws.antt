-- What the call answers, for document 01's set, and leaves in the output. Assumes nothing.
use Rattle.std.specs.Prelude.{Some, None, Ok, Err, IsErrAnd}
use mathlib.Core.Path.{◌≡◌, refl, sym, ap, ◌∙◌}
use mathlib.Core.Bool.{true}
use mathlib.Core.List.{List, [], ◌++◌}
use Prim.Native.Nat.{ℕ, ◌+◌, ◌≤◌}
use native.Mathlib.Omega.{arith}
use lib.ListN.{length}
use borrow.Author.Tests.{eqb-true, leb-true, eq-eqb, ne_eqb}
use Rattle.slices.specs.Lists.{found, put}
use Rattle.slices.specs.Found.{some_found, none_found}
use Rattle.slices.proofs.Put.{front, front_none, front_more}
use Rattle.aes.specs.Aes.{aes, sbox_inputs, first_zero}
use Rattle.aes.proofs.Sizes.{length_aes, length_sbox_inputs}
use Rattle.aes.proofs.Zero.{first_zero_le}
use Rattle.banquet.specs.declared.Refusal.{Refusal}
use Rattle.banquet.specs.declared.Refusal.TheVariants.{ZeroInput}
use Rattle.banquet.specs.Sets.{base, base_scheme}
use Rattle.banquet.specs.Answer.{Answer, Test, require, in_order, output_after}
use Rattle.banquet.specs.Key.{public_key_of, check_inputs}
use Rattle.banquet.specs.Calls.{public_key_tests, written, written_after, public_key_answer, make_public_key}
use Rattle.banquet.proofs.Refusals.{test_at, passed_at}
use Rattle.verdict.specs.Tests.{written_refused, passes}

-- ---- the call

module _ (key plaintext output : List ℕ) where
  abbrev pub tests : List Test
  tests = public_key_tests base (length key) (length plaintext) (length output)

  pub refused : {a : Answer} → a ≡ in_order tests (Ok tt) → {refusal : Refusal} → a ≡ Err refusal → {r : Answer} → IsErrAnd r (λ e. e ≡ refusal)
      → written r output ≡ make_public_key base_scheme key plaintext output
  unfolding public_key_answer
  refused is h up =
      written_refused tests refl is h up (check_inputs base_scheme plaintext key (Ok tt)) (public_key_of base_scheme key plaintext) output

  -- ---- every length is right

  module _ {lengths : Answer} (is : lengths ≡ in_order tests (Ok tt)) (passed : lengths ≡ Ok tt) where
    right : (k : ℕ) → test_at tests k ≡ true
    right = passes tests refl is passed

    pub key_long : length key ≡ 16
    key_long = eqb-true _ _ (right 0)

    pub plaintext_long : length plaintext ≡ 16
    plaintext_long = eqb-true _ _ (right 1)

    room : 32 ≤ length output
    room = leb-true _ _ (right 2)

    -- the output has room for the plaintext, and for the ciphertext behind it
    pub plaintext_room : 0 + length plaintext ≤ length output
    plaintext_room = omega (arith, plaintext_long, room)

    pub ciphertext_room : {ciphertext : List ℕ} {n : ℕ} → ciphertext ≡ aes key plaintext → n ≡ length output → 16 + length ciphertext ≤ n
    ciphertext_room e k = omega (arith, ap length e, length_aes key plaintext, k, room)

    answered : {a : Answer} {out : List ℕ} → check_inputs base_scheme plaintext key (Ok tt) ≡ a
        → out ≡ output_after a (public_key_of base_scheme key plaintext) output → written a out ≡ make_public_key base_scheme key plaintext output
    unfolding public_key_answer
    answered {a} e w =
        ap (written a) w
        ∙ ap (λ (a : Answer). written_after a (public_key_of base_scheme key plaintext) output)
        (sym (passed_at tests (check_inputs base_scheme plaintext key (Ok tt)) right ∙ e))

    module _ {inputs : List ℕ} (given : inputs ≡ sbox_inputs key plaintext) where
      size : length inputs ≡ 200
      size = ap length given ∙ length_sbox_inputs key plaintext

      zero_is : first_zero inputs ≡ first_zero (sbox_inputs key plaintext)
      zero_is = ap first_zero given

      -- n is the first zero of all 200 inputs
      pub zero_refused : {n : ℕ} → Some n ≡ found (length inputs) (first_zero inputs)
          → written (Err (ZeroInput n)) output ≡ make_public_key base_scheme key plaintext output
      unfolding check_inputs require output_after
      zero_refused {n} e =
          let f = some_found (length inputs) (first_zero inputs) n e in
          let z : n ≡ first_zero (sbox_inputs key plaintext) = f.0 ∙ zero_is in
          answered (simp (← z, ne_eqb n 200 (λ h. omega (arith, h, f.0, f.1, size)))) refl

      module _ (none : None ≡ found (length inputs) (first_zero inputs)) where
        no_zero : check_inputs base_scheme plaintext key (Ok tt) ≡ Ok tt
        unfolding check_inputs require
        no_zero =
            let all : first_zero (sbox_inputs key plaintext) ≡ 200 = omega (arith, none_found _ _ none, first_zero_le inputs, zero_is, size) in
            simp (eq-eqb (first_zero (sbox_inputs key plaintext)) 200 all)

        -- the plaintext is written and then the ciphertext
        pub accepted : {ciphertext l r : List ℕ} → ciphertext ≡ aes key plaintext → l ≡ put output 0 plaintext → r ≡ put l 16 ciphertext
            → written (Ok tt) r ≡ make_public_key base_scheme key plaintext output
        unfolding output_after public_key_of front
        accepted {ciphertext} c w v =
            let first = front_more [] output plaintext (front_none output) refl w in
            let second = front_more plaintext output ciphertext first (sym plaintext_long) v in
            answered no_zero (second ∙ ap (λ (s : List ℕ). front (plaintext ++ s) output) c)
