-- Functions of an index, and searches over the indices below a bound. Assumes nothing.
use Rattle.std.specs.Prelude.{◌≡◌, ◌≢◌, ◌⊎◌, ℕ, zero, suc, ◌<◌, eqb}
use Rattle.std.proofs.Common.{sym, ◌∙◌, ap, subst, inl, inr, ⊎_elim, arith, eq-eqb, ne_eqb}
use Rattle.std.proofs.Math.Decide.{ℕ_discrete}
use Rattle.slices.specs.Lists.{choose}

-- a where i is k, and b elsewhere
unfoldable pub at : {C : Type 0} → ℕ → ℕ → C → C → C
at i k a b = choose (eqb i k) a b

-- f with a in place of its value at j
abbrev pub update : {C : Type 0} → (ℕ → C) → ℕ → C → ℕ → C
update f j a i = at i j a (f i)

pub at_same : {C : Type 0} (i k : ℕ) (a b : C) → i ≡ k → at i k a b ≡ a
unfolding at
at_same i k a b h = rw (eq-eqb i k h)

pub at_other : {C : Type 0} (i k : ℕ) (a b : C) → i ≢ k → at i k a b ≡ b
unfolding at
at_other i k a b h = rw (ne_eqb i k h)

pub at_cases : {C : Type 0} (P : C → Type 0) (i k : ℕ) (a b : C) → (i ≡ k → P a) → (i ≢ k → P b) → P (at i k a b)
at_cases P i k a b f g = go (ℕ_discrete i k)
  where
    go : Dec (i ≡ k) → P (at i k a b)
    go (yes e) = rw (at_same i k a b e) (f e)
    go (no n) = rw (at_other i k a b n) (g n)

-- Whether P holds of every number below n, or where not.
pub all_below : {P : ℕ → Type 0} → ((k : ℕ) → Dec (P k)) → (n : ℕ)
    → ((k : ℕ) → k < n → P k) ⊎ ((k : ℕ) × (k < n) × ¬ (P k))
all_below d zero = inl (λ k l. absurd (omega arith))
all_below {P} d (suc n) = go (d n) (all_below d n)
  where
    go : Dec (P n) → ((k : ℕ) → k < n → P k) ⊎ ((k : ℕ) × (k < n) × ¬ (P k))
        → ((k : ℕ) → k < suc n → P k) ⊎ ((k : ℕ) × (k < suc n) × ¬ (P k))
    go (yes h) (inl f) = inl (λ k l. last k (ℕ_discrete k n) l)
      where
        last : (k : ℕ) → Dec (k ≡ n) → k < suc n → P k
        last k (yes e) l = rw e h
        last k (no ne) l = f k (omega arith)
    go (yes h) (inr e) = inr (e.0, omega arith, e.2)
    go (no ne) r = inr (n, omega arith, ne)

pub dec_below : {P : ℕ → Type 0} → ((k : ℕ) → Dec (P k)) → (n : ℕ) → Dec ((k : ℕ) → k < n → P k)
dec_below d n = ⊎_elim yes (λ e. no (λ f. e.2 (f e.0 e.1))) (all_below d n)

-- Two families a and b, of which a isn't known at h and b isn't known at h': they differ where both are known, or they are
-- parts of one family.
merge : {C : Type 0} → Discrete C → (n h h' : ℕ) (a b : ℕ → C)
    → ((i : ℕ) × (i < n) × (i ≢ h) × (i ≢ h') × (a i ≢ b i))
    ⊎ ((i : ℕ) → i < n → (i ≢ h → update a h (b h) i ≡ a i) × (i ≢ h' → update a h (b h) i ≡ b i))
merge d n h h' a b = ⊎_elim (λ f. inr (λ i l. (at_other i h (b h) (a i), one f i l))) (λ e. inl (two e)) (all_below same n)
  where
    same : (i : ℕ) → Dec (i ≢ h → i ≢ h' → a i ≡ b i)
    same i = go (ℕ_discrete i h) (ℕ_discrete i h') (d (a i) (b i))
      where
        go : Dec (i ≡ h) → Dec (i ≡ h') → Dec (a i ≡ b i) → Dec (i ≢ h → i ≢ h' → a i ≡ b i)
        go (yes e) p q = yes (λ x y. absurd (x e))
        go (no x) (yes e) q = yes (λ x y. absurd (y e))
        go (no x) (no y) (yes e) = yes (λ x y. e)
        go (no x) (no y) (no z) = no (λ f. z (f x y))

    one : ((i : ℕ) → i < n → i ≢ h → i ≢ h' → a i ≡ b i) → (i : ℕ) → i < n → i ≢ h' → update a h (b h) i ≡ b i
    one f i l y = at_cases (λ u. u ≡ b i) i h (b h) (a i) (λ e. ap b (sym e)) (λ x. f i l x y)

    two : (i : ℕ) × (i < n) × ¬ (i ≢ h → i ≢ h' → a i ≡ b i) → (i : ℕ) × (i < n) × (i ≢ h) × (i ≢ h') × (a i ≢ b i)
    two (i, l, f) = (i, l, λ e. f (λ x y. absurd (x e)), λ e. f (λ x y. absurd (y e)), λ e. f (λ x y. e))

-- Where Q holds of what each family shows, the two clash, Q holding of two values at one place, or they merge: Q holds of one family of
-- which both show parts.
pub clash_or_merged : {C : Type 0} → Discrete C → (Q : ℕ → C → Type 0) (n h h' : ℕ) → h ≢ h' → (a b : ℕ → C)
    → ((i : ℕ) → i < n → i ≢ h → Q i (a i)) → ((i : ℕ) → i < n → i ≢ h' → Q i (b i))
    → ((i : ℕ) × (i < n) × (i ≢ h) × (i ≢ h') × (a i ≢ b i) × Q i (a i) × Q i (b i))
    ⊎ ((s : ℕ → C) × ((i : ℕ) → i < n → Q i (s i)) × ((i : ℕ) → i < n → i ≢ h → s i ≡ a i)
    × ((i : ℕ) → i < n → i ≢ h' → s i ≡ b i))
clash_or_merged d Q n h h' ne a b qa qb =
    ⊎_elim (λ (i, l, x, y, z). inl (i, l, x, y, z, qa i l x, qb i l y))
    (λ f. inr (update a h (b h), shown, λ i l. (f i l).0, λ i l. (f i l).1))
    (merge d n h h' a b)
  where
    shown : (i : ℕ) → i < n → Q i (update a h (b h) i)
    shown i l = at_cases (Q i) i h (b h) (a i) (λ e. subst (Q i) (ap b e) (qb i l (λ x. ne (sym e ∙ x)))) (qa i l)
