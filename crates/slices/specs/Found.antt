-- `found`: a number below a bound, or none. Assumes nothing.
use Rattle.std.specs.Prelude.{◌≡◌, Bool, true, false, Some, None, ℕ, ◌<◌, ◌≤◌, ltb}
use Rattle.std.proofs.Common.{refl, sym, ap}
use Rattle.std.proofs.lemmas.Bool.{lt-ltb, le-ltb, ltb-true, ltb-false}
use Rattle.std.proofs.lemmas.Option.{same_Some, none-some}
use Rattle.slices.specs.Lists.{choose, found}

pub found_some : (n i : ℕ) → i < n → found n i ≡ Some i
found_some n i h = ap (λ (b : Bool). choose b (Some i) None) (lt-ltb i n h)

pub found_none : (n i : ℕ) → n ≤ i → found n i ≡ None
found_none n i h = ap (λ (b : Bool). choose b (Some i) None) (le-ltb i n h)

-- what is found is that number, and below the bound
pub some_found : (n i x : ℕ) → Some x ≡ found n i → (x ≡ i) × (i < n)
some_found n i x e = go (ltb i n) refl e
  where
    go : (b : Bool) → ltb i n ≡ b → Some x ≡ choose b (Some i) None → (x ≡ i) × (i < n)
    go true t q = (same_Some x i q, ltb-true i n t)
    go false t q = absurd (none-some x (sym q))

-- where none is found, it isn't below the bound
pub none_found : (n i : ℕ) → None ≡ found n i → n ≤ i
none_found n i e = go (ltb i n) refl e
  where
    go : (b : Bool) → ltb i n ≡ b → None ≡ choose b (Some i) None → n ≤ i
    go true t q = absurd (none-some i q)
    go false t q = ltb-false i n t
