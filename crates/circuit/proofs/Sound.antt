-- What follows from what is asked of a circuit (specs/Law), for any number of parties: products of inputs and inverses that are all 1 and an output
-- that is the ciphertext show a good key, and a good key with the true inverses has both. Assumes nothing.
use Rattle.std.specs.Prelude.{◌≡◌, List, map, ℕ, suc, ◌<◌, get_or}
use Rattle.std.proofs.Common.{sym, ap, ap₂, ◌∙◌, subst, suc-ne-zero}
use Rattle.std.proofs.Math.ListN.{get_or-map}
use Rattle.slices.specs.Lists.{sum_xor}
use Rattle.slices.specs.Bytes.{Bytes}
use Rattle.slices.specs.Sums.{sum_bytes}
use Rattle.field.specs.Field.{inverse_unique, zero_l}
use Rattle.field.specs.Byte.{mul8, inverse8, field8}
use Rattle.aes.specs.Aes.{Good}
use Rattle.circuit.specs.Circuit.{Share, share, party, Inverted, ProductsOne}
use Rattle.circuit.specs.Law.{IsCircuit}
use Rattle.circuit.proofs.Linear.{parties_linear}

-- the inverses of a list are such a y
pub map_inverted : (m : ℕ) (x : List ℕ) → Inverted m x (map inverse8 x)
map_inverted m x l h = ap (get_or (map inverse8 x) l) (sym field8.inverse_zero) ∙ get_or-map inverse8 x l 0

module _ {m : ℕ} {given encrypted : List ℕ → List ℕ} {inputs output : Share → List ℕ} (C : IsCircuit m given encrypted inputs output)
    (ciphertext : List ℕ) where
  -- ---- the whole key and inverses

  module _ (key y : List ℕ) (hk : Bytes key) where
    x_bytes : Bytes (inputs (share 1 key y))
    x_bytes = (C.inputs_sized (share 1 key y) hk).bytes

    pub products_good : Bytes y → ProductsOne m (inputs (share 1 key y)) y → output (share 1 key y) ≡ ciphertext
        → Good m (given key) (encrypted key) ciphertext
    products_good hy h e =
        let s = C.own_inverses key y (λ l k. inverse_unique 8 mul8 field8 _ _ (x_bytes.lt l) (hy.lt l) (field8.ring.comm _ _ ∙ h l k)) in
        record {
          no_zero = λ l k z. suc-ne-zero 0
              (sym (h l k) ∙ ap (λ (u : ℕ). mul8 u (get_or y l 0)) (ap (λ (u : List ℕ). get_or u l 0) s.same_inputs ∙ z)
              ∙ zero_l 8 mul8 field8.ring _);
          encrypts = sym s.same_output ∙ e;
        }

    pub good_products : Good m (given key) (encrypted key) ciphertext → Inverted m (given key) y
        → ProductsOne m (inputs (share 1 key y)) y × (output (share 1 key y) ≡ ciphertext)
    good_products g i =
        let s = C.true_inverses_lem key y i in
        let at : (l : ℕ) → get_or (inputs (share 1 key y)) l 0 ≡ get_or (given key) l 0 = λ l. ap (λ (u : List ℕ). get_or u l 0) s.same_inputs in (
          (λ l k. ap₂ mul8 (at l) (i l k) ∙ field8.ring.comm _ _
              ∙ field8.inverse_mul _ (subst (λ (u : ℕ). u < 256) (at l) (x_bytes.lt l)) (g.no_zero l k)),
          s.same_output ∙ g.encrypts,
        )

  -- ---- parties 0 to n, whose shares of the key and of the inverses add up

  module _ (n : ℕ) (keys inverses : ℕ → List ℕ) (hk : (i : ℕ) → i < suc n → Bytes (keys i)) where
    abbrev key : List ℕ
    key = sum_xor (suc n) keys

    abbrev y : List ℕ
    y = sum_xor (suc n) inverses

    inputs_add : inputs (share 1 key y) ≡ sum_xor (suc n) (λ i. inputs (party i (keys i) (inverses i)))
    inputs_add = parties_linear C.inputs_linear n keys inverses

    output_adds : output (share 1 key y) ≡ sum_xor (suc n) (λ i. output (party i (keys i) (inverses i)))
    output_adds = parties_linear C.output_linear n keys inverses

    pub parties_good : ((i : ℕ) → i < suc n → Bytes (inverses i)) → ProductsOne m (sum_xor (suc n) (λ i. inputs (party i (keys i) (inverses i)))) y
        → sum_xor (suc n) (λ i. output (party i (keys i) (inverses i))) ≡ ciphertext → Good m (given key) (encrypted key) ciphertext
    parties_good hy h e =
        products_good key y (sum_bytes (suc n) hk) (sum_bytes (suc n) hy) (subst (λ (x : List ℕ). ProductsOne m x y) (sym inputs_add) h)
        (output_adds ∙ e)

    pub good_parties : Good m (given key) (encrypted key) ciphertext → Inverted m (given key) y
        → ProductsOne m (sum_xor (suc n) (λ i. inputs (party i (keys i) (inverses i)))) y
        × (sum_xor (suc n) (λ i. output (party i (keys i) (inverses i))) ≡ ciphertext)
    good_parties g i =
        let p = good_products key y (sum_bytes (suc n) hk) g i in
        (subst (λ (x : List ℕ). ProductsOne m x y) inputs_add p.0, sym output_adds ∙ p.1)
