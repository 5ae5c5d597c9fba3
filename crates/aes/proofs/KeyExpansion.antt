-- `key_expansion` is the KeyExpansion() of 5.2, Figure 11, word by word: word i is the key's for i < 4, and else word i - 4 plus temp, where temp
-- is word i - 1, or SubWord(RotWord()) of it plus Rcon[i / 4] where 4 divides i. Word i is written n * 4 + j, in round key n. Assumes nothing.
use Rattle.std.specs.Prelude.{◌≡◌}
use Rattle.std.proofs.Math.Path.{refl, sym, ap}
use Rattle.std.proofs.Common.{ap₂, ◌∙◌}
use mathlib.Core.List.{List}
use Prim.Native.Nat.{ℕ, zero, suc, ◌+◌, ◌*◌, ◌<◌}
use native.Mathlib.Omega.{arith}
use Rattle.std.proofs.Math.ListN.{get_or}
use Rattle.slices.specs.Tab.{tab_cong, get_d_rows}
use Rattle.aes.specs.Aes.{word, add, rcon, rot_word, sub_word, round_key, key_expansion}
use Rattle.aes.proofs.Sizes.{length_round_key}

module _ (key : List ℕ) where
  abbrev w : List ℕ
  w = key_expansion key

  in_round_key : (n j : ℕ) → n < 11 → j < 4 → word w (n * 4 + j) ≡ word (round_key key n) j
  unfolding key_expansion
  in_round_key n j h l =
      tab_cong 4
      (λ i m. let e : (n * 4 + j) * 4 + i ≡ n * 16 + (j * 4 + i) = omega arith in
      ap (λ (k : ℕ). get_or w k 0) e ∙ get_d_rows 16 (round_key key) 11 (λ n l. length_round_key key n) n (j * 4 + i) h (omega arith))

  pub key_words : (j : ℕ) → j < 4 → word w (0 * 4 + j) ≡ word key j
  unfolding round_key
  key_words j l = in_round_key 0 j (omega arith) l ∙ first j l
    where
      first : (j : ℕ) → j < 4 → word (round_key key 0) j ≡ word key j
      first zero l = refl
      first (suc zero) l = refl
      first (suc (suc zero)) l = refl
      first (suc (suc (suc zero))) l = refl
      first (suc (suc (suc (suc j)))) l = absurd (omega arith)

  pub first_words : (n : ℕ) → n < 10
      → word w (suc n * 4 + 0) ≡ add 4 (word w (n * 4 + 0)) (add 4 (sub_word (rot_word (word w (n * 4 + 3)))) (rcon n))
  unfolding round_key
  first_words n h =
      in_round_key (suc n) 0 (omega arith) (omega arith)
      ∙ sym (ap₂ (λ (u v : List ℕ). add 4 u (add 4 (sub_word (rot_word v)) (rcon n))) (in_round_key n 0 (omega arith) (omega arith))
      (in_round_key n 3 (omega arith) (omega arith)))

  pub other_words : (n j : ℕ) → n < 10 → j < 3 → word w (suc n * 4 + suc j) ≡ add 4 (word w (n * 4 + suc j)) (word w (suc n * 4 + j))
  unfolding round_key
  other_words n j h l =
      in_round_key (suc n) (suc j) (omega arith) (omega arith) ∙ next j l
      ∙ sym (ap₂ (add 4) (in_round_key n (suc j) (omega arith) (omega arith)) (in_round_key (suc n) j (omega arith) (omega arith)))
    where
      next : (j : ℕ) → j < 3 → word (round_key key (suc n)) (suc j) ≡ add 4 (word (round_key key n) (suc j)) (word (round_key key (suc n)) j)
      next zero l = refl
      next (suc zero) l = refl
      next (suc (suc zero)) l = refl
      next (suc (suc (suc j))) l = absurd (omega arith)
