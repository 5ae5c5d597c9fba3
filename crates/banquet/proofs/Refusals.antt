-- Refusals in order: a call accepts exactly where every test passes. Assumes nothing.
use Rattle.std.specs.Prelude.{◌≡◌, refl, ◌≢◌, Err, is_ok, Bool, true, false, not, ◌&&◌, ◌||◌, List, [], ◌∷◌, ◌++◌, ℕ, zero, suc, ◌+◌, ◌≤◌, ◌<◌, eqb}
use Rattle.std.proofs.Common.{sym, ◌∙◌, ap, true≢false, arith, eq-eqb, ne_eqb}
use Rattle.std.proofs.Math.Decide.{ℕ_discrete}
use Rattle.std.proofs.lemmas.Bool.{not-true}
use Rattle.slices.specs.Tests.{and_split, and_join}
use Rattle.poly.specs.Poly.{All}
use Rattle.banquet.specs.declared.Refusal.{Refusal}
use Rattle.banquet.specs.Answer.{Answer, accepted, verdict_of_refusal, verdict_of, Test, require, in_order, each, all, clears}

-- a refusal isn't acceptance
pub refused : (a : Refusal) → Err a ≢ accepted
refused a e = true≢false (sym (ap is_ok e))

-- ---- one test

pub require_split : (t : Bool) (a : Refusal) (r : Answer) → require t a r ≡ accepted → (t ≡ true) × (r ≡ accepted)
unfolding require
require_split true a r h = (refl, h)
require_split false a r h = absurd (refused a h)

pub require_join : (t : Bool) (a : Refusal) (r : Answer) → t ≡ true → r ≡ accepted → require t a r ≡ accepted
unfolding require
require_join t a r e h = rw (e, h)

-- ---- a list of tests

abbrev pub Pass : Test → Type 0
Pass t = t.0 ≡ true

-- where all pass, the rest is asked
pub passed : (tests : List Test) (rest : Answer) → All Pass tests → in_order tests rest ≡ rest
unfolding require
passed [] rest p = refl
passed (t ∷ tests) rest p = ap (λ (b : Bool). require b t.1 (in_order tests rest)) p.0 ∙ passed tests rest p.1

-- "The first that applies is returned.": those before it pass, and this one fails
pub refused_at : (before : List Test) (t : Test) (behind : List Test) (rest : Answer) → All Pass before → t.0 ≡ false
    → in_order (before ++ t ∷ behind) rest ≡ Err t.1
unfolding require
refused_at [] t behind rest p f = ap (λ (b : Bool). require b t.1 (in_order behind rest)) f
refused_at (u ∷ before) t behind rest p f =
    ap (λ (b : Bool). require b u.1 (in_order (before ++ t ∷ behind) rest)) p.0 ∙ refused_at before t behind rest p.1 f

-- where the tests alone refuse, nothing else is asked
pub refused_by : (tests : List Test) (rest : Answer) → in_order tests accepted ≢ accepted → in_order tests rest ≡ in_order tests accepted
unfolding require
refused_by [] rest n = absurd (n refl)
refused_by ((true, a) ∷ tests) rest n = refused_by tests rest n
refused_by ((false, a) ∷ tests) rest n = refl

-- no test of the list has a refusal after which the work slice is cleared
abbrev pub leave : List Test → Bool
leave [] = true
leave (t ∷ tests) = not (clears (verdict_of_refusal t.1)) && leave tests

pub refusals_leave : (tests : List Test) → leave tests ≡ true → in_order tests accepted ≢ accepted
    → clears (verdict_of (in_order tests accepted)) ≡ false
unfolding require
refusals_leave [] l n = absurd (n refl)
refusals_leave ((true, a) ∷ tests) l n = refusals_leave tests (and_split (not (clears (verdict_of_refusal a))) (leave tests) l).1 n
refusals_leave ((false, a) ∷ tests) l n =
    not-true (clears (verdict_of_refusal a)) (and_split (not (clears (verdict_of_refusal a))) (leave tests) l).0

-- test k of the list
abbrev pub test_at : List Test → ℕ → Bool
test_at [] k = true
test_at (t ∷ tests) zero = t.0
test_at (t ∷ tests) (suc k) = test_at tests k

pub passed_at : (tests : List Test) (rest : Answer) → ((k : ℕ) → test_at tests k ≡ true) → in_order tests rest ≡ rest
unfolding require
passed_at [] rest p = refl
passed_at (t ∷ tests) rest p =
    ap (λ (b : Bool). require b t.1 (in_order tests rest)) (p 0) ∙ passed_at tests rest (λ k. p (suc k))

-- a call that begins with such tests accepts only where all pass
pub all_pass : (tests : List Test) (rest : Answer) → in_order tests rest ≡ accepted → ((k : ℕ) → test_at tests k ≡ true) × (rest ≡ accepted)
unfolding require
all_pass [] rest e = (λ k. refl, e)
all_pass ((true, a) ∷ tests) rest e = let others = all_pass tests rest e in (elim [ zero ↦ refl | suc k ↦ others.0 k ], others.1)
all_pass ((false, a) ∷ tests) rest e = absurd (refused a e)

-- ---- a test of each number

from_split : (n i : ℕ) (t : ℕ → Bool) (a : ℕ → Refusal) (r : Answer) → each n i t a r ≡ accepted
    → ((k : ℕ) → i ≤ k → k < i + n → t k ≡ true) × (r ≡ accepted)
unfolding each
from_split zero i t a r h = (λ k l m. absurd (omega arith), h)
from_split (suc n) i t a r h =
    let first = require_split (t i) (a i) (each n (suc i) t a r) h in
    let rest = from_split n (suc i) t a r first.1 in
    (λ k l m. go first.0 rest.0 k (ℕ_discrete k i) l m, rest.1)
  where
    go : t i ≡ true → ((k : ℕ) → suc i ≤ k → k < suc i + n → t k ≡ true) → (k : ℕ) → Dec (k ≡ i) → i ≤ k → k < i + suc n → t k ≡ true
    go e f k (yes q) l m = ap t q ∙ e
    go e f k (no q) l m = f k (omega arith) (omega arith)

pub each_split : (n : ℕ) (t : ℕ → Bool) (a : ℕ → Refusal) (r : Answer) → each n 0 t a r ≡ accepted
    → ((k : ℕ) → k < n → t k ≡ true) × (r ≡ accepted)
each_split n t a r h = let s = from_split n 0 t a r h in (λ k l. s.0 k (omega arith) (omega arith), s.1)

from_join : (n i : ℕ) (t : ℕ → Bool) (a : ℕ → Refusal) (r : Answer) → ((k : ℕ) → i ≤ k → k < i + n → t k ≡ true) → r ≡ accepted
    → each n i t a r ≡ accepted
unfolding each
from_join zero i t a r f h = h
from_join (suc n) i t a r f h =
    require_join (t i) (a i) (each n (suc i) t a r) (f i (omega arith) (omega arith))
    (from_join n (suc i) t a r (λ k l m. f k (omega arith) (omega arith)) h)

pub each_join : (n : ℕ) (t : ℕ → Bool) (a : ℕ → Refusal) (r : Answer) → ((k : ℕ) → k < n → t k ≡ true) → r ≡ accepted → each n 0 t a r ≡ accepted
each_join n t a r f h = from_join n 0 t a r (λ k l m. f k (omega arith)) h

-- "place is the lowest ..": the first test that fails names the refusal
from_lowest : (n i : ℕ) (t : ℕ → Bool) (a : ℕ → Refusal) (r : Answer) (k : ℕ) → i ≤ k → k < i + n → ((l : ℕ) → i ≤ l → l < k → t l ≡ true)
    → t k ≡ false → each n i t a r ≡ Err (a k)
unfolding each require
from_lowest zero i t a r k h l f e = absurd (omega arith)
from_lowest (suc n) i t a r k h l f e = go (ℕ_discrete i k) (from_lowest n (suc i) t a r k)
  where
    go : Dec (i ≡ k) → (suc i ≤ k → k < suc i + n → ((l : ℕ) → suc i ≤ l → l < k → t l ≡ true) → t k ≡ false → each n (suc i) t a r ≡ Err (a k))
        → require (t i) (a i) (each n (suc i) t a r) ≡ Err (a k)
    go (yes p) ih = ap (λ (b : Bool). require b (a i) (each n (suc i) t a r)) (ap t p ∙ e) ∙ ap (λ (k : ℕ). Err (a k)) p
    go (no p) ih =
        ap (λ (b : Bool). require b (a i) (each n (suc i) t a r)) (f i (omega arith) (omega arith))
        ∙ ih (omega arith) (omega arith) (λ l m q. f l (omega arith) q) e

pub each_lowest : (n : ℕ) (t : ℕ → Bool) (a : ℕ → Refusal) (r : Answer) (k : ℕ) → k < n → ((l : ℕ) → l < k → t l ≡ true) → t k ≡ false
    → each n 0 t a r ≡ Err (a k)
each_lowest n t a r k h f e = from_lowest n 0 t a r k (omega arith) (omega arith) (λ l m q. f l q) e

pub all_split : (n : ℕ) (t : ℕ → Bool) → all n t ≡ true → (k : ℕ) → k < n → t k ≡ true
unfolding all
all_split zero t h k l = absurd (omega arith)
all_split (suc n) t h k l = go (and_split (all n t) (t n) h).1 (all_split n t (and_split (all n t) (t n) h).0) (ℕ_discrete k n)
  where
    go : t n ≡ true → ((k : ℕ) → k < n → t k ≡ true) → Dec (k ≡ n) → t k ≡ true
    go e f (yes q) = ap t q ∙ e
    go e f (no q) = f k (omega arith)

pub all_join : (n : ℕ) (t : ℕ → Bool) → ((k : ℕ) → k < n → t k ≡ true) → all n t ≡ true
unfolding all
all_join zero t f = refl
all_join (suc n) t f = and_join (all n t) (t n) (all_join n t (λ k l. f k (omega arith))) (f n (omega arith))

-- ---- a test of the parties other than h

pub shown_split : (i h : ℕ) (t : Bool) → (eqb i h || t) ≡ true → i ≢ h → t ≡ true
shown_split i h t e ne = rw (ne_eqb i h ne) at e

pub shown_join : (i h : ℕ) (t : Bool) → (i ≢ h → t ≡ true) → (eqb i h || t) ≡ true
shown_join i h t f = go (ℕ_discrete i h)
  where
    go : Dec (i ≡ h) → (eqb i h || t) ≡ true
    go (yes e) = rw (eq-eqb i h e)
    go (no ne) = rw (ne_eqb i h ne) (f ne)
