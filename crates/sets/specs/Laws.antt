-- A valid parameter set, with its circuit and SHAKE128, has the laws that the theorems ask for. Assumes nothing.
use Rattle.std.specs.Prelude.{◌≡◌, List, ℕ, suc, ◌*◌, ◌^◌, ◌≤◌, eqb}
use Rattle.std.proofs.Common.{sym, subst₂, ◌∙◌, arith, pow_mono, eq-eqb, ne_eqb}
use Rattle.std.proofs.Math.Path.{subst₃}
use Rattle.std.proofs.Math.Decide.{ℕ_discrete}
use Rattle.slices.specs.Lists.{choose}
use Rattle.slices.specs.Bytes.{Sized}
use Rattle.field.specs.WideField.{WideField}
use Rattle.field.specs.Wide32.{powers32}
use Rattle.field.proofs.Wide32.{wide32}
use Rattle.wide48.specs.Wide48.{powers48, wide48}
use Rattle.banquet.specs.declared.Shape.{Shape}
use Rattle.banquet.specs.Shape.{sboxes}
use Rattle.banquet.specs.Sets.{circuit_of, scheme_of}
use Rattle.theorems.specs.Laws.{Laws}
use Rattle.theorems.specs.Sets.{CircuitLaws, aes_laws, set_laws}
use Rattle.sets.specs.Valid.{Valid}
use Rattle.sets.specs.Circuit.{circuit_is, sboxes_200}

-- the lifts of 1, 2, 4, .. 128
unfoldable pub powers_of : Shape → List ℕ
powers_of S = choose (eqb S.wide 4) powers32 powers48

module _ {S : Shape} (v : Valid S) where
  open S use {wide, low, y}

  pub wide_field : WideField wide low y (powers_of S)
  unfolding powers_of
  wide_field = go (ℕ_discrete wide 4)
    where
      go : Dec (wide ≡ 4) → WideField wide low y (choose (eqb wide 4) powers32 powers48)
      go (yes e) =
          rw (eq-eqb wide 4 e)
          (subst₃ (λ w l y. WideField w l y powers32) (sym e) (sym (v.wide32 e).0) (sym (v.wide32 e).1) wide32)
      go (no n) =
          rw (ne_eqb wide 4 n)
          (subst₃ (λ w l y. WideField w l y powers48) (sym (v.wide48 n).0) (sym (v.wide48 n).1) (sym (v.wide48 n).2) wide48)

  circuit_laws : (f : List ℕ) → Sized S.front f → CircuitLaws f (sboxes S) (circuit_of S.front)
  circuit_laws f h =
      subst₂ (CircuitLaws f) (sym (sboxes_200 v)) (sym (circuit_is v)) (aes_laws f (record { size = h.size ∙ v.plaintext; bytes = h.bytes }))

  points : suc (2 * S.m2) ≤ 2 ^ (8 * wide)
  points =
      let many : 2 ^ 32 ≤ 2 ^ (8 * wide) = pow_mono {i = 32} (omega (arith, v.wide_least)) in
      omega (arith, v.twenty, many)

  pub laws : Laws (scheme_of S)
  laws = set_laws S wide_field circuit_laws v.some v.leaves points
