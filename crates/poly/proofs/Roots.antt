-- What holds of all known roots holds of every root (specs/Roots). Assumes nothing.
use Rattle.std.specs.Prelude.{◌≡◌, ◌≢◌, ◌⊎◌, length}
use Rattle.std.proofs.Common.{inl, inr, ⊎_elim, arith}
use mathlib.Core.List.{List, [], ◌∷◌}
use Prim.Native.Nat.{ℕ, suc, ◌≤◌}
use Rattle.poly.specs.Field.{Ops, BinaryField}
use Rattle.poly.specs.Poly.{All, Distinct, IsZero}
use Rattle.poly.specs.Roots.{Root, root_bound}

module _ {A : Type 0} {O : Ops A} {Elem : A → Type 0} (F : BinaryField O Elem) where
  member_or_not : (Q : A → Type 0) (xs : List A) (x : A) → All Q xs → Q x ⊎ All (λ y. y ≢ x) xs
  member_or_not Q [] x h = inr tt
  member_or_not Q (y ∷ xs) x h = go (F.discrete y x) (member_or_not Q xs x h.1)
    where
      go : Dec (y ≡ x) → Q x ⊎ All (λ y. y ≢ x) xs → Q x ⊎ All (λ y. y ≢ x) (y ∷ xs)
      go (yes e) r = inl (rw e at h.0)
      go (no n) (inl q) = inl q
      go (no n) (inr r) = inr (n, r)

  -- Where n roots are known they are all: what holds of them holds of every root.
  pub all_roots : (p : List A) (n : ℕ) → All Elem p → length p ≤ suc n → ¬ (IsZero O p) → (xs : List A) → Distinct xs
      → All (Root O Elem p) xs → length xs ≡ n → (Q : A → Type 0) → All Q xs → (x : A) → Root O Elem p x → Q x
  all_roots p n ep l nz xs d r k Q q x h = ⊎_elim (λ y. y) (λ m. absurd (more m)) (member_or_not Q xs x q)
    where
      more : All (λ y. y ≢ x) xs → ⊥
      more m = let b = root_bound F p n ep l nz (x ∷ xs) (m, d) (h, r) in omega arith
