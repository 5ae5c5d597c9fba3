-- A party's shares from what the steps leave: its own shares, and what the circuit gives. Assumes nothing.
use mathlib.Core.Path.{◌≡◌, refl, sym, ap, ap₂, ◌∙◌}
use mathlib.Core.Logic.{◌≢◌}
use mathlib.Core.List.{List}
use Prim.Native.Nat.{ℕ, zero, suc, ◌<◌}
use native.Mathlib.Omega.{arith}
use Rattle.slices.specs.Lists.{zip_xor}
use Rattle.poly.specs.Index.{at, at_same, at_other, at_cases}
use Rattle.circuit.specs.Circuit.{share, party, input_shares as inputs_of, output_share as output_of}
use Rattle.banquet.specs.declared.Shape.{Shape}
use Rattle.banquet.specs.Scheme.{Circuit}
use Rattle.banquet.specs.Sets.{scheme_of}
use Rattle.banquet.specs.Execution.{Committed, tape_part, key_share, inverse_shares, input_shares, output_share}
use Rattle.sets.specs.Valid.{Valid}
use Rattle.sets.specs.Circuit.{circuit_is}
use Rattle.forms.specs.Party.{committed, own}

-- ---- a party's own shares

module _ {i : ℕ} {share : List ℕ} (offset : List ℕ) {y : List ℕ} (copied : y ≡ share) where
  pub own_first : {z : List ℕ} → i ≡ 0 → z ≡ zip_xor y offset → z ≡ own i share offset
  own_first e h = h ∙ ap (λ s. zip_xor s offset) copied ∙ sym (at_same i 0 (zip_xor share offset) share e)

  pub own_other : i ≢ 0 → y ≡ own i share offset
  own_other n = copied ∙ sym (at_other i 0 (zip_xor share offset) share n)

pub one_small : (i : ℕ) {r : ℕ} → r ≡ at i 0 1 0 → r < 2
one_small i e = rw e (at_cases (λ r. r < 2) i 0 1 0 (λ _. omega arith) (λ _. omega arith))

party_is : (i : ℕ) (k y : List ℕ) → share (at i 0 1 0) k y ≡ party i k y
party_is zero k y = ap (λ o. share o k y) (at_same 0 0 1 0 refl)
party_is (suc i) k y = ap (λ o. share o k y) (at_other (suc i) 0 1 0 (λ e. omega arith))

-- ---- the output and the circuit

module _ {S : Shape} (v : Valid S) where
  module _ (front key inverse t : List ℕ) (i : ℕ) {one : ℕ} {p q mine inv : List ℕ} (o : one ≡ at i 0 1 0)
      (e : p ≡ tape_part (scheme_of S) 0 t) (f : mine ≡ own i p key) (e' : q ≡ tape_part (scheme_of S) 1 t) (f' : inv ≡ own i q inverse) where
    abbrev x : Committed
    x = committed front key inverse

    inverses_are : inv ≡ inverse_shares (scheme_of S) x i t
    inverses_are = f' ∙ ap (λ s. own i s inverse) e'

    whole : share one mine inv ≡ party i (key_share (scheme_of S) x i t) (inverse_shares (scheme_of S) x i t)
    whole =
        ap (λ n. share n mine inv) o ∙ ap₂ (share (at i 0 1 0)) (f ∙ ap (λ s. own i s key) e) inverses_are
        ∙ party_is i (key_share (scheme_of S) x i t) (inverse_shares (scheme_of S) x i t)

    pub walked : {r inputs : List ℕ} → r ≡ output_of (share one mine inv) → inputs ≡ inputs_of front (share one mine inv)
        → (r ≡ output_share (scheme_of S) x i t) × ((inv ≡ inverse_shares (scheme_of S) x i t) × (inputs ≡ input_shares (scheme_of S) x i t))
    unfolding output_share input_shares
    walked h k =
        let y = party i (key_share (scheme_of S) x i t) (inverse_shares (scheme_of S) x i t) in (
          h ∙ ap output_of whole ∙ ap (λ (c : Circuit). c.output_share front y) (sym (circuit_is v)),
          (inverses_are, k ∙ ap (inputs_of front) whole ∙ ap (λ (c : Circuit). c.input_shares front y) (sym (circuit_is v))),
        )
