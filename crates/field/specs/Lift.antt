-- A narrow field inside a wide one: X goes to a root y of the narrow modulus, and a number to the sum of its bits times powers of y. Assumes nothing.
use Rattle.std.specs.Prelude.{◌≡◌, map}
use Rattle.std.proofs.Math.Path.{refl, sym, ap, subst}
use Rattle.std.proofs.Common.{◌∙◌, mod-lt, suc-ne-zero, pow_pos}
use Prim.Native.Nat.{ℕ, zero, suc, ◌%◌, ◌^◌, ◌<◌}
use Rattle.std.proofs.Math.Nat.{mod-mod}
use Rattle.std.specs.Int.Bits.{bit_xor, xor_self}
use Rattle.std.proofs.lemmas.Nat.{xor_lt}
use Rattle.slices.specs.Xor.{xor_eq_zero}
use Rattle.field.specs.Linear.{combine, orbit, basis, Additive, compose, low_bits, combined, combine_map, orbit_map, cyclic, agree}
use Rattle.field.specs.Ring.{IsRing}
use Rattle.field.specs.Field.{inverse, IsField, mod_mul, adds_l, zero_r, low_l, low_r}

-- the sum of y^i over the bits i below v that are set in b
unfoldable pub lift : ℕ → (ℕ → ℕ → ℕ) → ℕ → ℕ → ℕ
lift v ◌·◌ y b = combine (orbit v (◌·◌ y) 1) b

module _ (v : ℕ) (◌∘◌ : ℕ → ℕ → ℕ) (w : ℕ) (◌·◌ : ℕ → ℕ → ℕ) where
  infixl 70 ◌∘◌ ◌·◌
  -- the laws of an embedding of fields
  pub record IsEmbedding (f : ℕ → ℕ) : Type 0 where
    pub lt : (a : ℕ) → f a < 2 ^ w
    pub adds : Additive f
    pub muls : (a b : ℕ) → f (a ∘ b) ≡ f a · f b
    pub one : f 1 ≡ 1
    pub low : (a : ℕ) → f (a % 2 ^ v) ≡ f a
    pub injective : (a b : ℕ) → a < 2 ^ v → b < 2 ^ v → f a ≡ f b → a ≡ b

  -- what is computed of a root: each fact is `refl`
  pub record IsRoot (y : ℕ) : Type 0 where
    pub powers : orbit v (λ a. 2 ∘ a) 1 ≡ basis v
    pub root : map (λ a. lift v ◌·◌ y (2 ∘ a)) (basis v) ≡ map (λ a. y · lift v ◌·◌ y a) (basis v)
    pub one_narrow : 1 % 2 ^ v ≡ 1
    pub one_wide : 1 % 2 ^ w ≡ 1
    pub one : lift v ◌·◌ y 1 ≡ 1

  module _ (F : IsField v ◌∘◌) (R : IsRing w ◌·◌) (y : ℕ) (C : IsRoot y) where
    N : IsRing v ◌∘◌
    N = F.ring

    f : ℕ → ℕ
    f = lift v ◌·◌ y

    f_additive : Additive f
    unfolding f lift
    f_additive = combined (orbit v (◌·◌ y) 1)

    f_mod : (a : ℕ) → f a % 2 ^ w ≡ f a
    unfolding f lift
    f_mod a =
        combine_map (low_bits w) (orbit v (◌·◌ y) 1) a
        ∙ ap (λ l. combine l a) (orbit_map (◌·◌ y) (◌·◌ y) (λ x. x % 2 ^ w) (λ x. mod_mul w ◌·◌ R y x ∙ sym (low_r w ◌·◌ R y x)) v 1)
        ∙ ap (λ x. combine (orbit v (◌·◌ y) x) a) C.one_wide

    f_step_low : (a : ℕ) → f (2 ∘ a) ≡ y · f (a % 2 ^ v)
    unfolding f N
    f_step_low a = ap f (sym (low_r v ◌∘◌ N 2 a)) ∙ agree (compose f_additive (N.adds 2)) (compose (R.adds y) f_additive) v C.root a

    -- a map that carries X to y is known by its value at 1
    known : {G : ℕ → ℕ} → Additive G → ((a : ℕ) → G (2 ∘ a) ≡ y · G a) → (a : ℕ) → G (a % 2 ^ v) ≡ combine (orbit v (◌·◌ y) (G 1)) a
    known h s a = cyclic v (λ x. 2 ∘ x) (◌·◌ y) C.powers h s a

    f_low : (a : ℕ) → f (a % 2 ^ v) ≡ f a
    unfolding f lift N
    f_low a =
        ap f (sym (mod-mod a (2 ^ v)))
        ∙ known (compose f_additive (low_bits v)) (λ x. ap f (mod_mul v ◌∘◌ N 2 x) ∙ f_step_low x) a
        ∙ ap (λ x. combine (orbit v (◌·◌ y) x) a) (ap f C.one_narrow ∙ C.one)

    f_step : (a : ℕ) → f (2 ∘ a) ≡ y · f a
    f_step a = f_step_low a ∙ ap (λ x. y · x) (f_low a)

    f_muls : (a b : ℕ) → f (a ∘ b) ≡ f a · f b
    unfolding N f
    f_muls a b =
        ap f (sym (low_l v ◌∘◌ N a b))
        ∙ known (compose f_additive (adds_l v ◌∘◌ N b)) (λ x. ap f (N.assoc 2 x b) ∙ f_step (x ∘ b)) a
        ∙ ap (λ x. combine (orbit v (◌·◌ y) x) a)
        (ap f (N.one b) ∙ f_low b ∙ sym (f_mod b) ∙ sym (R.one (f b)) ∙ ap (λ x. x · f b) (sym C.one))
        ∙ sym (known (compose (adds_l w ◌·◌ R (f b)) f_additive) (λ x. ap (λ z. z · f b) (f_step x) ∙ R.assoc y (f x) (f b)) a)
        ∙ ap (λ x. x · f b) (f_low a)

    f_nonzero : (a : ℕ) → a < 2 ^ v → f a ≡ 0 → a ≡ 0
    unfolding f
    f_nonzero zero h e = refl
    f_nonzero (suc a) h e =
        absurd (suc-ne-zero 0
        (sym C.one ∙ ap f (sym (F.inverse_mul (suc a) h (suc-ne-zero a))) ∙ f_muls (inverse v ◌∘◌ (suc a)) (suc a)
        ∙ ap (λ x. f (inverse v ◌∘◌ (suc a)) · x) e ∙ zero_r w ◌·◌ R (f (inverse v ◌∘◌ (suc a)))))

    pub lift_embedding : IsEmbedding (lift v ◌·◌ y)
    unfolding f
    lift_embedding =
        record {
          lt = λ a. subst (λ x. x < 2 ^ w) (f_mod a) (mod-lt (f a) (pow_pos w));
          adds = f_additive;
          muls = f_muls;
          one = C.one;
          low = f_low;
          injective = λ a b ha hb e.
              xor_eq_zero a b (f_nonzero (bit_xor a b) (xor_lt v a b ha hb) (f_additive.adds a b ∙ ap (λ x. bit_xor x (f b)) e ∙ xor_self (f b)));
        }
