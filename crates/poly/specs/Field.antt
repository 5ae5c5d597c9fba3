-- Fields of characteristic 2 whose elements are some of the values of a type. Assumes nothing.
use Rattle.std.specs.Prelude.{◌≡◌, ◌≢◌}
use Rattle.std.proofs.Common.{sym, ◌∙◌, ap}

-- The operations, with no laws: definitions that contracts cite take these alone.
pub record Ops (A : Type 0) : Type 0 where
  pub add : A → A → A
  pub mul : A → A → A
  pub inv : A → A
  pub zero : A
  pub one : A

-- The laws. Those of a ring hold for all values; those of one and of inverses, for the elements.
pub record BinaryField {A : Type 0} (O : Ops A) (Elem : A → Type 0) : Type 0 where
  pub discrete : Discrete A
  pub add_comm : (x y : A) → O.add x y ≡ O.add y x
  pub add_assoc : (x y z : A) → O.add (O.add x y) z ≡ O.add x (O.add y z)
  pub add_zero : (x : A) → O.add x O.zero ≡ x
  pub add_self : (x : A) → O.add x x ≡ O.zero
  pub mul_comm : (x y : A) → O.mul x y ≡ O.mul y x
  pub mul_assoc : (x y z : A) → O.mul (O.mul x y) z ≡ O.mul x (O.mul y z)
  pub mul_add : (x y z : A) → O.mul x (O.add y z) ≡ O.add (O.mul x y) (O.mul x z)
  pub elem_zero : Elem O.zero
  pub elem_one : Elem O.one
  pub elem_add : (x y : A) → Elem x → Elem y → Elem (O.add x y)
  pub elem_mul : (x y : A) → Elem x → Elem y → Elem (O.mul x y)
  pub elem_inv : (x : A) → Elem x → Elem (O.inv x)
  pub mul_one : (x : A) → Elem x → O.mul x O.one ≡ x
  pub mul_inv : (x : A) → Elem x → x ≢ O.zero → O.mul x (O.inv x) ≡ O.one

module _ {A : Type 0} {O : Ops A} {Elem : A → Type 0} (F : BinaryField O Elem) where
  open O use {add as ◌⊕◌, mul as ◌⊗◌, inv, zero as 𝟘, one as 𝟙}

  infixl 60 ◌⊕◌
  infixl 70 ◌⊗◌
  pub add_comm : (x y : A) → x ⊕ y ≡ y ⊕ x
  add_comm = F.add_comm

  pub add_assoc : (x y z : A) → (x ⊕ y) ⊕ z ≡ x ⊕ (y ⊕ z)
  add_assoc = F.add_assoc

  pub add_zero : (x : A) → x ⊕ 𝟘 ≡ x
  add_zero = F.add_zero

  pub add_self : (x : A) → x ⊕ x ≡ 𝟘
  add_self = F.add_self

  pub mul_comm : (x y : A) → x ⊗ y ≡ y ⊗ x
  mul_comm = F.mul_comm

  pub mul_assoc : (x y z : A) → (x ⊗ y) ⊗ z ≡ x ⊗ (y ⊗ z)
  mul_assoc = F.mul_assoc

  pub mul_add : (x y z : A) → x ⊗ (y ⊕ z) ≡ (x ⊗ y) ⊕ (x ⊗ z)
  mul_add = F.mul_add

  pub zero_add : (x : A) → 𝟘 ⊕ x ≡ x
  zero_add x = add_comm 𝟘 x ∙ add_zero x

  pub add_left_comm : (x y z : A) → x ⊕ (y ⊕ z) ≡ y ⊕ (x ⊕ z)
  add_left_comm x y z = rw (← add_assoc x y z, ← add_assoc y x z, add_comm x y)

  pub cancel : (x y : A) → x ⊕ (x ⊕ y) ≡ y
  cancel x y = rw (← add_assoc x x y, add_self, zero_add)

  pub mul_left_comm : (x y z : A) → x ⊗ (y ⊗ z) ≡ y ⊗ (x ⊗ z)
  mul_left_comm x y z = rw (← mul_assoc x y z, ← mul_assoc y x z, mul_comm x y)

  pub add_mul : (x y z : A) → (x ⊕ y) ⊗ z ≡ (x ⊗ z) ⊕ (y ⊗ z)
  add_mul x y z = rw (mul_comm (x ⊕ y) z, mul_comm x z, mul_comm y z) (mul_add z x y)

  pub mul_zero : (x : A) → x ⊗ 𝟘 ≡ 𝟘
  mul_zero x = ap (x ⊗◌) (sym (add_self 𝟘)) ∙ mul_add x 𝟘 𝟘 ∙ add_self (x ⊗ 𝟘)

  pub zero_mul : (x : A) → 𝟘 ⊗ x ≡ 𝟘
  zero_mul x = mul_comm 𝟘 x ∙ mul_zero x

  -- Both sides of an equation of the ring come to one sum: distributed, sorted, equal terms cancelled.
  pub ruleset ring = (
    add_comm,
    add_assoc,
    add_left_comm,
    add_zero,
    zero_add,
    add_self,
    cancel,
    mul_comm,
    mul_assoc,
    mul_left_comm,
    mul_add,
    add_mul,
    mul_zero,
    zero_mul,
  )

  pub eq_of_sum : (x y : A) → x ⊕ y ≡ 𝟘 → x ≡ y
  eq_of_sum x y h = sym (cancel y x) ∙ ap (y ⊕◌) (add_comm y x ∙ h) ∙ add_zero y

  pub sum_of_eq : (x y : A) → x ≡ y → x ⊕ y ≡ 𝟘
  sum_of_eq x y h = rw h (add_self y)

  pub no_divisors : (x y : A) → Elem x → Elem y → x ≢ 𝟘 → x ⊗ y ≡ 𝟘 → y ≡ 𝟘
  no_divisors x y ex ey n h =
      sym (F.mul_one y ey) ∙ ap (y ⊗◌) (sym (F.mul_inv x ex n)) ∙ rw (mul_left_comm, ← mul_assoc x y _, h, zero_mul)
