-- Decimal digits: more divisions than are needed change nothing, a number's digits by those of its tenth, how many there are; digits and lines that
-- are written. Assumes nothing.
use mathlib.Core.Path.{◌≡◌, refl, sym, ap, ◌∙◌}
use mathlib.Core.List.{List, [], ◌∷◌, ◌++◌, append_assoc}
use Prim.Native.Nat.{ℕ, zero, suc, ◌+◌, ◌/◌, ◌%◌, ◌^◌, ◌≤◌, ◌<◌}
use native.Mathlib.Decide.{dec_lt}
use native.Mathlib.Omega.{arith}
use borrow.Author.Tests.{lt-ltb, le-ltb, eq-eqb, ne_eqb}
use lib.Dec.{ltb}
use lib.ListN.{length, set, drop, length-append}
use mir.Syntax.{w32}
use mir.Val.{Fits}
use Rattle.slices.specs.Lists.{choose, put}
use Rattle.slices.proofs.Put.{put_one, put_snoc, Wrote, wrote_none, wrote_more, wrote_one, wrote_all}
use Rattle.banquet.specs.declared.Verdict.{Verdict}
use Rattle.banquet.specs.Card.{decimal_in, decimal, accepted_word, refused_word, refusal_line, printed}

-- x divisions are enough, and no number of them is too many
pub decimal_enough : (n m x : ℕ) → x ≤ n → x ≤ m → decimal_in n x ≡ decimal_in m x
unfolding decimal_in
decimal_enough zero zero x h k = refl
decimal_enough zero (suc m) x h k = rw (lt-ltb x 10 (omega arith))
decimal_enough (suc n) zero x h k = rw (lt-ltb x 10 (omega arith))
decimal_enough (suc n) (suc m) x h k =
    ap (λ (l : List ℕ). choose (ltb x 10) ((0x30 + x) ∷ []) (l ++ ((0x30 + x % 10) ∷ [])))
    (decimal_enough n m (x / 10) (omega arith) (omega arith))

-- one digit
pub decimal_small : (x : ℕ) → x < 10 → decimal x ≡ (0x30 + x) ∷ []
unfolding decimal_in
decimal_small zero h = refl
decimal_small (suc x) h = rw (lt-ltb (suc x) 10 h)

-- more digits
pub decimal_more : (x : ℕ) → 10 ≤ x → decimal x ≡ decimal (x / 10) ++ ((0x30 + x % 10) ∷ [])
unfolding decimal_in
decimal_more zero h = absurd (omega arith)
decimal_more (suc x) h =
    let e : decimal_in x (suc x / 10) ≡ decimal (suc x / 10) = decimal_enough x (suc x / 10) (suc x / 10) (omega arith) (omega arith) in
    rw (le-ltb (suc x) 10 h, e)

-- how many
pub length_small : (x : ℕ) → x < 10 → length (decimal x) ≡ 1
length_small x h = ap length (decimal_small x h)

pub length_more : (x : ℕ) → 10 ≤ x → length (decimal x) ≡ length (decimal (x / 10)) + 1
length_more x h = ap length (decimal_more x h) ∙ length-append (decimal (x / 10)) ((0x30 + x % 10) ∷ [])

-- at most k + 1
pub decimal_long : (k x : ℕ) → x < 10 ^ suc k → length (decimal x) ≤ suc k
decimal_long zero x h = omega (arith, length_small x (omega arith))
decimal_long (suc k) x h = go (dec_lt x 10) (decimal_long k (x / 10) (omega arith))
  where
    go : Dec (x < 10) → length (decimal (x / 10)) ≤ suc k → length (decimal x) ≤ suc (suc k)
    go (yes l) tenth = omega (arith, length_small x l)
    go (no l) tenth = omega (arith, length_more x (omega arith))

-- those of a u32
pub decimal_room : (x : ℕ) → Fits w32 x → length (decimal x) ≤ 10
decimal_room x h = decimal_long 9 x (omega arith)

-- ---- where they are written

pub put_small : (x at : ℕ) (d : List ℕ) → x < 10 → at < length d → set d at (0x30 + x) ≡ put d at (decimal x)
put_small x at d h l = put_one d at (0x30 + x) l ∙ ap (put d at) (sym (decimal_small x h))

-- the last digit, behind those of the tenth
pub put_more : (x at r : ℕ) (d l : List ℕ) → 10 ≤ x → at + length (decimal x) ≤ length d → r ≡ at + length (decimal (x / 10))
    → l ≡ put d at (decimal (x / 10)) → set l r (0x30 + x % 10) ≡ put d at (decimal x)
put_more x at r d l h fits e w =
    rw (w, e) (put_snoc d at (decimal (x / 10)) (0x30 + x % 10) (omega (arith, length_more x h)) ∙ ap (put d at) (sym (decimal_more x h)))

-- ---- a refusal's line

-- behind a front of n bytes: s, which ends at m
wrote_to : (s : List ℕ) {d p l r : List ℕ} {n m : ℕ} → Wrote d p n l → r ≡ put l n s → length r ≡ length l → m ≡ n + length s
    → Wrote d (p ++ s) m r
wrote_to s {d} {p} {l} {r} w e k h = rw h (wrote_more s w refl e k)

-- the word, a number, a space, a number and the line end, each where the one before ends
pub refusal_written : (number place : ℕ) (d : List ℕ) {a b l : List ℕ} {s e : ℕ} → 30 ≤ length d → Fits w32 number → Fits w32 place
    → a ≡ put d 0 (refused_word ++ (0x20 ∷ [])) → length a ≡ length d
    → b ≡ put a 8 (decimal number) → length b ≡ length a → s ≡ 8 + length (decimal number)
    → l ≡ put (set b s 0x20) (s + 1) (decimal place) → length l ≡ length (set b s 0x20) → e ≡ s + 1 + length (decimal place)
    → (e + 1 ≡ length (refusal_line number place)) × (set l e 0x0a ≡ refusal_line number place ++ drop (e + 1) d)
unfolding refusal_line
refusal_written number place d {a} {b} {l} {s} {e} room hn hp ea ka eb kb es el kl ee =
    let word = refused_word ++ (0x20 ∷ []) in
    let n = decimal_room number hn in
    let p = decimal_room place hp in
    let w1 : Wrote d word 8 a = wrote_to word (wrote_none d) ea ka refl in
    let w2 : Wrote d (word ++ decimal number) s b = wrote_to (decimal number) w1 eb kb es in
    let w3 : Wrote d ((word ++ decimal number) ++ (0x20 ∷ [])) (s + 1) (set b s 0x20) = wrote_one 0x20 w2 (omega arith) in
    let w4 : Wrote d (((word ++ decimal number) ++ (0x20 ∷ [])) ++ decimal place) e l = wrote_to (decimal place) w3 el kl ee in
    let w5 : Wrote d ((((word ++ decimal number) ++ (0x20 ∷ [])) ++ decimal place) ++ (0x0a ∷ [])) (e + 1) (set l e 0x0a) =
    wrote_one 0x0a w4 (omega arith) in
    let same : (((word ++ decimal number) ++ (0x20 ∷ [])) ++ decimal place) ++ (0x0a ∷ []) ≡ refusal_line number place = simp append_assoc in
    (sym w5.size ∙ ap length same, wrote_all w5 ∙ ap (◌++ drop (e + 1) d) same)

-- ---- an answer's line

pub accepted_written : (v : Verdict) (d : List ℕ) {l : List ℕ} → v.number ≡ 0 → l ≡ put d 0 (accepted_word ++ (0x0a ∷ []))
    → (9 ≡ length (printed v)) × (l ≡ printed v ++ drop 9 d)
unfolding printed put
accepted_written v d e w = (rw (eq-eqb v.number 0 e), w ∙ rw (eq-eqb v.number 0 e))

pub refused_written : (v : Verdict) (d : List ℕ) {r : ℕ} {l : List ℕ} → (v.number ≡ 0 → ⊥)
    → (r ≡ length (refusal_line v.number v.place)) × (l ≡ refusal_line v.number v.place ++ drop r d)
    → (r ≡ length (printed v)) × (l ≡ printed v ++ drop r d)
unfolding printed
refused_written v d n told = rw (ne_eqb v.number 0 n) told
