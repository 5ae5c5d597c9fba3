-- `put`: a part that was lent comes back as one, and what it does to lengths, parts and further stores. Assumes nothing.
use Rattle.std.proofs.Common.{◌≡◌, refl, sym, ap, subst, ◌∙◌, List, [], ◌∷◌, ◌++◌, append_assoc, append-nil, ℕ, suc, ◌+◌, ◌-◌, ◌<◌, ◌≤◌, add-zero, arith, length, get_or, set, take, drop, length-append, length-drop, length-set, take-append-drop, drop_of_length-le, drop-cons, drop-drop, drop_at, take_at, length-take-le}
use Rattle.std.proofs.Math.Nat.{sub-zero}
use Rattle.std.proofs.Math.Seq.{set_at, drop-append-add}
use borrow.Rule.Slice.PartMut.{put_mid, same_len_mid}
use Rattle.slices.specs.Lists.{put}
use Rattle.slices.specs.Tab.{length_part}

-- what a callee left in `&mut d[a..a + k]`, said of d
pub put_mid_lem : (a k : ℕ) (d y s : List ℕ) → y ≡ s → k ≡ length s → put_mid a k d y ≡ put d a s
unfolding put
put_mid_lem a k d y s e h = simp (e, h, drop-drop)

pub length_put : (d : List ℕ) (at : ℕ) (s : List ℕ) → at + length s ≤ length d → length (put d at s) ≡ length d
unfolding put
length_put d at s h =
    let e : length (take at d) ≡ at = length-take-le at d (omega arith) in
    simp (length-append, length-drop, e) (omega arith)

-- how long the part up to where s ends is
length_head : (d : List ℕ) (at : ℕ) (s : List ℕ) → at ≤ length d → length (take at d ++ s) ≡ at + length s
length_head d at s h = length-append (take at d) s ∙ ap (λ (n : ℕ). n + length s) (length-take-le at d h)

-- that part
pub take_put : (d : List ℕ) (at : ℕ) (s : List ℕ) → at ≤ length d → take (at + length s) (put d at s) ≡ take at d ++ s
unfolding put
take_put d at s h =
    rw (← append_assoc (take at d) s (drop (at + length s) d))
    (take_at (take at d ++ s) (drop (at + length s) d) (at + length s) (length_head d at s h))

-- nothing is put
pub put_none : (d : List ℕ) (at : ℕ) → d ≡ put d at []
unfolding put
put_none d at = sym (ap (λ (n : ℕ). take at d ++ drop n d) (add-zero at) ∙ take-append-drop at d)

-- one element more
pub put_snoc : (d : List ℕ) (at : ℕ) (s : List ℕ) (x : ℕ) → at + length s < length d
    → set (put d at s) (at + length s) x ≡ put d at (s ++ (x ∷ []))
unfolding put
put_snoc d at s x h =
    let e : length (take at d ++ s) ≡ at + length s = length_head d at s (omega arith) in
    let n : at + length (s ++ (x ∷ [])) ≡ suc (at + length s) = simp length-append (omega arith) in
    rw (n, drop-cons d (at + length s) 0 h, ← append_assoc (take at d) s (get_or d (at + length s) 0 ∷ drop (suc (at + length s)) d))
    (set_at (take at d ++ s) (get_or d (at + length s) 0) (drop (suc (at + length s)) d) x (at + length s) e ∙ simp append_assoc)

-- one element
pub put_one : (d : List ℕ) (at x : ℕ) → at < length d → set d at x ≡ put d at (x ∷ [])
put_one d at x h =
    let e : set (put d at []) (at + 0) x ≡ put d at (x ∷ []) = put_snoc d at [] x (omega arith) in
    ap (λ (s : List ℕ). set s at x) (put_none d at) ∙ rw add-zero at e

-- d with its front replaced by p
unfoldable pub front : List ℕ → List ℕ → List ℕ
front p d = p ++ drop (length p) d

pub front_none : (d : List ℕ) → d ≡ front [] d
unfolding front
front_none d = refl

-- a field written where the fields before it end
pub front_more : (p d s : List ℕ) {l r : List ℕ} {at : ℕ} → l ≡ front p d → at ≡ length p → r ≡ put l at s → r ≡ front (p ++ s) d
unfolding front put
front_more p d s {l} {r} {at} e h w =
    w ∙ rw (e, h)
    (simp (take_at p (drop (length p) d) (length p) refl, drop-append-add p (drop (length p) d) (length s), drop-drop, length-append, append_assoc))

-- a list put at any index, as a front
put_front : (d : List ℕ) (at : ℕ) (s : List ℕ) → at ≤ length d → put d at s ≡ front (take at d ++ s) d
unfolding put front
put_front d at s h =
    sym (append_assoc (take at d) s (drop (at + length s) d)) ∙ ap (λ n. (take at d ++ s) ++ drop n d) (sym (length_head d at s h))

-- q put behind s
pub put_behind : (d : List ℕ) (at : ℕ) (s q : List ℕ) {l r : List ℕ} {at' : ℕ} → at ≤ length d → at' ≡ at + length s
    → l ≡ put d at s → r ≡ put l at' q → r ≡ put d at (s ++ q)
put_behind d at s q h e f g =
    front_more (take at d ++ s) d q (f ∙ put_front d at s h) (e ∙ sym (length_head d at s h)) g
    ∙ ap (λ t. front t d) (append_assoc (take at d) s q) ∙ sym (put_front d at (s ++ q) h)

-- l is d with its first n elements replaced by p
pub record Wrote (d p : List ℕ) (n : ℕ) (l : List ℕ) : Type 0 where
  pub is : l ≡ front p d
  pub size : length p ≡ n
  pub long : length l ≡ length d

pub wrote_none : (d : List ℕ) → Wrote d [] 0 d
wrote_none d = record { is = front_none d; size = refl; long = refl }

-- the next field
pub wrote_more : (s : List ℕ) {d p l r : List ℕ} {n m : ℕ} → Wrote d p n l → length s ≡ m → r ≡ put l n s → length r ≡ length l
    → Wrote d (p ++ s) (n + m) r
wrote_more s {d} {p} {l} {r} {n} {m} w h e k =
    record { is = front_more p d s w.is (sym w.size) e; size = simp (length-append, w.size, h); long = k ∙ w.long }

-- the whole
pub wrote_all : {d p l : List ℕ} {n : ℕ} → Wrote d p n l → l ≡ p ++ drop n d
unfolding front
wrote_all {d} {p} {l} {n} w = w.is ∙ rw w.size

-- the part up to m is lent, and comes back as y
pub lent_long : {d p l : List ℕ} {n : ℕ} (m : ℕ) → Wrote d p n l → m ≤ length d → length (take (m - n) (drop n l)) ≡ m - n
lent_long {d} {p} {l} {n} m w h = length-take-le (m - n) (drop n l) (omega (arith, length-drop n l, w.long))

pub wrote_lent : (s : List ℕ) {d p l y : List ℕ} {n : ℕ} (m : ℕ) → Wrote d p n l → n ≤ m → m ≤ length d → y ≡ s
    → length y ≡ length (take (m - n) (drop n l)) → Wrote d (p ++ s) m (put_mid n (m - n) l y)
wrote_lent s {d} {p} {l} {y} {n} m w k h e kept =
    let long : length s ≡ m - n = ap length (sym e) ∙ kept ∙ lent_long m w h in
    let end : n + (m - n) ≡ m = omega arith in
    subst (λ (j : ℕ). Wrote d (p ++ s) j (put_mid n (m - n) l y)) end
    (wrote_more s w long (put_mid_lem n (m - n) l y s e (sym long)) (same_len_mid n (m - n) l y kept))

-- the next element is stored
pub wrote_one : (x : ℕ) {d p l : List ℕ} {n : ℕ} → Wrote d p n l → n < length d → Wrote d (p ++ (x ∷ [])) (n + 1) (set l n x)
wrote_one x {d} {p} {l} {n} w h = wrote_more (x ∷ []) w refl (put_one l n x (omega (arith, w.long))) (length-set l n x)

-- a front of a elements and then k elements that are all the rest, each lent and written
pub put_pair : (a k : ℕ) (d : List ℕ) {y y' z z' : List ℕ} → y ≡ y' → length y' ≡ a → z ≡ z' → length d ≤ a + k
    → put_mid a k (put_mid 0 a d y) z ≡ y' ++ z'
put_pair a k d {y} {y'} {z} {z'} e h f room =
    let end : drop k (drop a d) ≡ [] = drop_of_length-le (drop a d) {i = k} (omega (arith, length-drop a d)) in
    rw (e, f, take_at y' (drop a d) a h, drop_at y' (drop a d) a h, end) (ap (y' ++◌) (append-nil z'))

-- s is written over the end of a buffer
pub put_last : (p q s : List ℕ) {a : ℕ} → length p ≡ a → length q ≡ length s → put (p ++ q) a s ≡ p ++ s
unfolding put
put_last p q s h e =
    let none : length q ≤ length s = omega arith in
    rw (← h, take_at p q (length p) refl, drop-append-add p q (length s), drop_of_length-le q none, append-nil)

-- ---- parts that are lent or read: `d[0..n]`, `s[a..b]`

pub front_long : (n : ℕ) (d : List ℕ) → n ≤ length d → length (take (n - 0) d) ≡ n
front_long n d h = rw sub-zero (length-take-le n d h)

-- a front that came back as y, read once more
pub front_again : (n : ℕ) (d : List ℕ) {y : List ℕ} → length y ≡ n → take (n - 0) (put_mid 0 (n - 0) d y) ≡ y
front_again n d {y} h = rw sub-zero (take_at y (drop n d) n h)

pub cut_long : (a b : ℕ) {n : ℕ} (s : List ℕ) → a + n ≡ b → b ≤ length s → length (take (b - a) (drop a s)) ≡ n
cut_long a b {n} s e h =
    let size : b - a ≡ n = omega arith in
    rw size (length_part a n s (omega arith))
