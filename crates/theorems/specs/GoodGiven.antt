-- Where every product of a given S-box input and its given inverse is one, the key given is good. Assumes nothing.
use Rattle.std.specs.Prelude.{◌≡◌, List, ℕ, zero, suc, ◌*◌, ◌<◌, get_or}
use Rattle.std.proofs.Common.{sym, ◌∙◌, ap, subst, mod-lt, div-lt_iff_lt-mul, mul_comm, zero-mul, arith, lit<}
use Rattle.slices.specs.Lists.{sum_xor}
use Rattle.field.specs.Byte.{mul8, field8}
use Rattle.poly.specs.Balance.{AllOne}
use Rattle.circuit.proofs.Sound.{products_good}
use Rattle.banquet.specs.Shape.{sboxes, j_of, k_of, sbox_at, sbox_at_jk}
use Rattle.banquet.specs.Scheme.{Scheme, GoodKey, wide_ops, wide_mul, lifted}
use Rattle.banquet.specs.Execution.{Committed, output_share}
use Rattle.banquet.specs.Extraction.{given_key, given_inverses, given_inputs, given_input, given_inverse}
use Rattle.theorems.specs.Laws.{Laws}
use Rattle.theorems.specs.Shares.{IsTape, Fits, sized_given_key, sized_given_inverses, sum_inputs, sum_outputs}

module _ (𝓢 : Scheme) (L : Laws 𝓢) where
  open 𝓢.shape use {parties, m1, m2}

  byte_one : (a b : ℕ) → wide_mul 𝓢 (lifted 𝓢 a) (lifted 𝓢 b) ≡ 1 → mul8 a b ≡ 1
  byte_one a b h =
      L.embedding.injective (mul8 a b) 1 (field8.ring.lt a b) (lit< tt) (L.embedding.muls a b ∙ h ∙ sym L.embedding.one)

  -- S-box l is S-box j+10k for its j and k
  module _ (l : ℕ) (h : l < sboxes 𝓢.shape) where
    positive : 0 < m1
    positive = go m1 h
      where
        go : (m : ℕ) → l < m * m2 → 0 < m
        go zero h = absurd (none h)
          where
            none : l < zero * m2 → ⊥
            none h = let e : zero * m2 ≡ 0 = zero-mul m2 in omega arith
        go (suc m) h = omega arith

    j_lt : j_of 𝓢.shape l < m1
    j_lt = mod-lt l positive

    k_lt : k_of 𝓢.shape l < m2
    k_lt = (div-lt_iff_lt-mul positive).1 (subst (λ (n : ℕ). l < n) (mul_comm m1 m2) h)

  by_sbox : (P : ℕ → Type 0) → ((j k : ℕ) → j < m1 → k < m2 → P (sbox_at 𝓢.shape j k)) → (l : ℕ) → l < sboxes 𝓢.shape → P l
  by_sbox P f l h = subst P (sbox_at_jk 𝓢.shape l) (f (j_of 𝓢.shape l) (k_of 𝓢.shape l) (j_lt l h) (k_lt l h))

  module _ (x : Committed) (fits : Fits 𝓢 L x) (tapes : ℕ → List ℕ) (ts : (i : ℕ) → i < parties → IsTape 𝓢 L (tapes i)) (ciphertext : List ℕ)
      (outputs : sum_xor parties (λ i. output_share 𝓢 x i (tapes i)) ≡ ciphertext)
      (ones : AllOne (wide_ops 𝓢) m1 m2 (given_input 𝓢 x tapes) (given_inverse 𝓢 x tapes)) where
    product_one : (l : ℕ) → l < sboxes 𝓢.shape → mul8 (get_or (given_inputs 𝓢 x tapes) l 0) (get_or (given_inverses 𝓢 x tapes) l 0) ≡ 1
    product_one =
        by_sbox (λ l. mul8 (get_or (given_inputs 𝓢 x tapes) l 0) (get_or (given_inverses 𝓢 x tapes) l 0) ≡ 1)
        (λ j k hj hk.
        byte_one (get_or (given_inputs 𝓢 x tapes) (sbox_at 𝓢.shape j k) 0) (get_or (given_inverses 𝓢 x tapes) (sbox_at 𝓢.shape j k) 0) (ones j k hj hk))

    pub key_good : GoodKey 𝓢 x.front ciphertext (given_key 𝓢 x tapes)
    key_good =
        products_good (L.circuit fits.fits_front) ciphertext (given_key 𝓢 x tapes) (given_inverses 𝓢 x tapes)
        (sized_given_key 𝓢 L x fits tapes ts).bytes (sized_given_inverses 𝓢 L x fits tapes ts).bytes
        (λ l h. ap (λ (u : List ℕ). mul8 (get_or u l 0) (get_or (given_inverses 𝓢 x tapes) l 0)) (sym (sum_inputs 𝓢 L x fits tapes ts)) ∙ product_one l h)
        (sym (sum_outputs 𝓢 L x fits tapes ts) ∙ outputs)
