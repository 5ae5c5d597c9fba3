-- The sum of the elements of a list, as a fold. Assumes nothing.
use Rattle.std.proofs.Common.{◌≡◌, refl, sym, ap, ◌∙◌, List, ℕ, zero, suc, ◌≤◌, length, get_or, take, add-one, take_all, arith}
use Rattle.std.specs.Int.Bits.{bit_xor}
use Rattle.std.specs.List.{fold}
use Rattle.std.proofs.lemmas.List.Sums.{fold_more}
use Rattle.forms.specs.Point.{xor_sum}

module _ (s : List ℕ) where
  -- of the first n
  first : (n : ℕ) → n ≤ length s → fold bit_xor 0 (take n s) ≡ xor_sum n (λ k. get_or s k 0)
  unfolding xor_sum
  first zero h = refl
  first (suc n) h =
      ap (λ m. fold bit_xor 0 (take m s)) (sym (add-one n)) ∙ fold_more bit_xor 0 s n 0 (omega arith)
      ∙ ap (λ x. bit_xor x (get_or s n 0)) (first n (omega arith))

  pub sum_folded : {x : ℕ} → x ≡ fold bit_xor 0 s → x ≡ xor_sum (length s) (λ k. get_or s k 0)
  sum_folded e = e ∙ ap (fold bit_xor 0) (sym (take_all (length s) s (omega arith))) ∙ first (length s) (omega arith)
