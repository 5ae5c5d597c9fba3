-- The answers from number 13 on leave the work slice's front zero. Assumes nothing.
use mathlib.Core.Path.{refl}
use mathlib.Core.List.{List}
use Prim.Native.Nat.{ℕ}
use Rattle.banquet.specs.declared.Shape.{Shape}
use Rattle.banquet.specs.Sets.{scheme_of}
use Rattle.banquet.specs.Opening.{check_shares, check_parties}
use Rattle.scratch.specs.Clears.{Clears, require_clears, each_clears}

pub parties_clear : (S : Shape) (public_key t : List ℕ) (hidden : ℕ) (seed_of : ℕ → List ℕ)
    → Clears (check_parties (scheme_of S) public_key t hidden seed_of)
unfolding check_parties check_shares
parties_clear S public_key t hidden seed_of =
    each_clears S.parties 0 _ (λ j. record { is = refl })
    (each_clears S.parties 0 _ (λ j. record { is = refl }) (require_clears _ (record { is = refl })
    (require_clears _ (record { is = refl }) (record { is = refl }))))
