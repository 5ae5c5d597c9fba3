-- `same` tells equal lists from others. Assumes nothing.
use Rattle.std.specs.Prelude.{◌≡◌, refl, Bool, true, false, ◌&&◌, List, [], ◌∷◌, ◌≢◌, ℕ, suc, ◌<◌, ◌≤◌, eqb, nat_eq, length, get_or, drop}
use Rattle.std.specs.Cmp.Lexicographic.{pointwise}
use Rattle.std.proofs.Common.{sym, ap, ap₂, ◌∙◌, eqb-true, eq-eqb, ne_eqb}
use Rattle.std.proofs.lemmas.Bool.{false≢true}
use Rattle.std.proofs.Math.ListN.{drop_of_length-le}
use Rattle.std.proofs.Math.Seq.{drop-cons}
use Rattle.slices.specs.Lists.{same}
use Rattle.slices.specs.Tests.{and_split, and_join}

pub same_eq : (s t : List ℕ) → same s t ≡ true → s ≡ t
unfolding same
same_eq [] [] h = refl
same_eq [] (b ∷ t) h = absurd (false≢true h)
same_eq (a ∷ s) [] h = absurd (false≢true h)
same_eq (a ∷ s) (b ∷ t) h =
    let p = and_split (eqb a b) (same s t) h in
    ap₂ ◌∷◌ (eqb-true a b p.0) (same_eq s t p.1)

same_self : (s : List ℕ) → same s s ≡ true
unfolding same
same_self [] = refl
same_self (a ∷ s) = and_join (eqb a a) (same s s) (eq-eqb a a refl) (same_self s)

pub same_refl : (s t : List ℕ) → s ≡ t → same s t ≡ true
same_refl s t e = ap (same s) (sym e) ∙ same_self s

pub same_lengths : (s t : List ℕ) → length s ≢ length t → same s t ≡ false
unfolding same
same_lengths [] [] n = absurd (n refl)
same_lengths [] (b ∷ t) n = refl
same_lengths (a ∷ s) [] n = refl
same_lengths (a ∷ s) (b ∷ t) n = and_false (eqb a b) (same s t) (same_lengths s t (λ e. n (ap suc e)))
  where
    and_false : (a b : Bool) → b ≡ false → (a && b) ≡ false
    and_false true b h = h
    and_false false b h = refl

-- what `==` of slices tells
pub same_pointwise : (s t : List ℕ) → same s t ≡ pointwise nat_eq s t
unfolding same
same_pointwise [] [] = refl
same_pointwise [] (b ∷ t) = refl
same_pointwise (a ∷ s) [] = refl
same_pointwise (a ∷ s) (b ∷ t) = ap (eqb a b &&◌) (same_pointwise s t)

-- ---- for a loop over two lists: at element i, and past the end

module _ (s t : List ℕ) (i : ℕ) where
  same_cons : i < length s → i < length t
      → same (drop i s) (drop i t) ≡ (eqb (get_or s i 0) (get_or t i 0) && same (drop (suc i) s) (drop (suc i) t))
  unfolding same
  same_cons h k = rw (drop-cons s i 0 h, drop-cons t i 0 k)

  pub same_here : i < length s → i < length t → get_or s i 0 ≢ get_or t i 0 → same (drop i s) (drop i t) ≡ false
  same_here h k n = same_cons h k ∙ ap (◌&& same (drop (suc i) s) (drop (suc i) t)) (ne_eqb _ _ n)

  pub same_next : i < length s → i < length t → get_or s i 0 ≡ get_or t i 0 → same (drop i s) (drop i t) ≡ same (drop (suc i) s) (drop (suc i) t)
  same_next h k e = same_cons h k ∙ ap (◌&& same (drop (suc i) s) (drop (suc i) t)) (eq-eqb _ _ e)

  pub same_end : length s ≤ i → length t ≤ i → same (drop i s) (drop i t) ≡ true
  unfolding same
  same_end h k = rw (drop_of_length-le s h, drop_of_length-le t k)
