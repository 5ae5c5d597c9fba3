-- Laws of the first zero of a list: none stands before it, it is one, and it is the length exactly where there is none. Assumes nothing.
use Rattle.std.specs.Prelude.{◌≡◌, ◌≢◌, List, [], ◌∷◌, length, get_or}
use Rattle.std.proofs.Math.Path.{refl, ap}
use Rattle.std.proofs.Common.{◌∙◌, suc-ne-zero, arith, drop_of_length-le, drop-cons}
use Prim.Native.Nat.{ℕ, zero, suc, ◌<◌, ◌≤◌}
use Rattle.std.proofs.Math.ListN.{drop}
use Rattle.aes.specs.Aes.{first_zero}

pub first_zero_le : (s : List ℕ) → first_zero s ≤ length s
unfolding first_zero
first_zero_le [] = omega arith
first_zero_le (zero ∷ s) = omega arith
first_zero_le (suc x ∷ s) = omega (arith, first_zero_le s)

pub first_zero_before : (s : List ℕ) (i : ℕ) → i < first_zero s → get_or s i 0 ≢ 0
unfolding first_zero
first_zero_before [] i h = absurd (omega arith)
first_zero_before (zero ∷ s) i h = absurd (omega arith)
first_zero_before (suc x ∷ s) zero h = suc-ne-zero x
first_zero_before (suc x ∷ s) (suc i) h = first_zero_before s i (omega arith)

pub first_zero_at : (s : List ℕ) → first_zero s < length s → get_or s (first_zero s) 0 ≡ 0
unfolding first_zero
first_zero_at [] h = refl
first_zero_at (zero ∷ s) h = refl
first_zero_at (suc x ∷ s) h = first_zero_at s (omega arith)

pub first_zero_none : (s : List ℕ) → first_zero s ≡ length s → (i : ℕ) → i < length s → get_or s i 0 ≢ 0
first_zero_none s e i h = first_zero_before s i (rw e h)

pub first_zero_length : (s : List ℕ) → ((i : ℕ) → i < length s → get_or s i 0 ≢ 0) → first_zero s ≡ length s
unfolding first_zero
first_zero_length [] h = refl
first_zero_length (zero ∷ s) h = absurd (h 0 (omega arith) refl)
first_zero_length (suc x ∷ s) h = ap suc (first_zero_length s (λ i l. h (suc i) (omega arith)))

-- ---- for a loop: at element i, and past the end

module _ (s : List ℕ) (i : ℕ) where
  pub first_zero_here : i < length s → get_or s i 0 ≡ 0 → first_zero (drop i s) ≡ 0
  unfolding first_zero
  first_zero_here h e = ap first_zero (drop-cons s i 0 h) ∙ ap (λ (x : ℕ). first_zero (x ∷ drop (suc i) s)) e

  pub first_zero_later : i < length s → get_or s i 0 ≢ 0 → first_zero (drop i s) ≡ suc (first_zero (drop (suc i) s))
  unfolding first_zero
  first_zero_later h ne = ap first_zero (drop-cons s i 0 h) ∙ other (get_or s i 0) ne
    where
      other : (x : ℕ) → x ≢ 0 → first_zero (x ∷ drop (suc i) s) ≡ suc (first_zero (drop (suc i) s))
      other zero ne = absurd (ne refl)
      other (suc x) ne = refl

  pub first_zero_end : length s ≤ i → first_zero (drop i s) ≡ 0
  unfolding first_zero
  first_zero_end h = ap first_zero (drop_of_length-le s h)
