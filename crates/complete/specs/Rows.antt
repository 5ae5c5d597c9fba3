-- Rows of one length, one of which is replaced, and a sum in which one list stands apart. Assumes nothing.
use Rattle.std.specs.Prelude.{◌≡◌, refl, List, [], ◌∷◌, ◌++◌, ℕ, zero, suc, ◌+◌, ◌*◌, ◌<◌, ◌≤◌, length, drop}
use Rattle.std.proofs.Common.{sym, ap, ap₂, ◌∙◌, append-nil, append_assoc, arith, length-append, length-drop, drop_of_length-le, take_all, take_at, length-take-le}
use Rattle.std.proofs.Math.Decide.{ℕ_discrete}
use Rattle.std.proofs.lemmas.List.{take-append-le, drop-append-le}
use Rattle.slices.specs.Lists.{rows, row, put, zip_xor, sum_xor}
use Rattle.slices.specs.Xor.{xor_assoc}
use Rattle.slices.specs.Tab.{row_fits, length_rows, rows_cong, row_of_rows, rows_of}
use Rattle.slices.specs.Sums.{zip_nil, zip_comm, sum_xor_cong}
use Rattle.poly.specs.Index.{at, at_same, at_other, at_cases}
use Rattle.complete.specs.Complete.{completed_row}

-- ---- the sum of lists

zip_assoc : (xs ys zs : List ℕ) → zip_xor (zip_xor xs ys) zs ≡ zip_xor xs (zip_xor ys zs)
unfolding zip_xor
zip_assoc [] ys zs = refl
zip_assoc (x ∷ xs) [] zs = refl
zip_assoc (x ∷ xs) (y ∷ ys) [] = refl
zip_assoc (x ∷ xs) (y ∷ ys) (z ∷ zs) = ap₂ ◌∷◌ (xor_assoc x y z) (zip_assoc xs ys zs)

-- the list at index h of n lists is added first
sum_apart : (n h : ℕ) (s : List ℕ) (f : ℕ → List ℕ) → h < n
    → sum_xor n (λ k. at k h s (f k)) ≡ zip_xor s (sum_xor n (λ k. at k h [] (f k)))
unfolding sum_xor
sum_apart zero h s f l = absurd (omega arith)
sum_apart (suc n) h s f l = go (ℕ_discrete n h) (sum_apart n h s f)
  where
    others : (t : List ℕ) → n ≡ h → sum_xor n (λ k. at k h t (f k)) ≡ sum_xor n f
    others t e = sum_xor_cong n (λ k m. at_other k h t (f k) (λ q. omega arith))

    go : Dec (n ≡ h) → (h < n → sum_xor n (λ k. at k h s (f k)) ≡ zip_xor s (sum_xor n (λ k. at k h [] (f k))))
        → zip_xor (sum_xor n (λ k. at k h s (f k))) (at n h s (f n)) ≡ zip_xor s (zip_xor (sum_xor n (λ k. at k h [] (f k))) (at n h [] (f n)))
    go (yes e) ih =
        ap₂ zip_xor (others s e) (at_same n h s (f n) e) ∙ zip_comm (sum_xor n f) s
        ∙ ap (zip_xor s) (sym (ap₂ zip_xor (others [] e) (at_same n h [] (f n) e) ∙ zip_nil (sum_xor n f)))
    go (no ne) ih =
        ap₂ zip_xor (ih (omega arith)) (at_other n h s (f n) ne) ∙ zip_assoc s (sum_xor n (λ k. at k h [] (f k))) (f n)
        ∙ ap (λ t. zip_xor s (zip_xor (sum_xor n (λ k. at k h [] (f k))) t)) (sym (at_other n h [] (f n) ne))

-- ---- a row replaced

-- what is put into the first of two lists
put_append : (p q s : List ℕ) (a : ℕ) → a + length s ≤ length p → put (p ++ q) a s ≡ put p a s ++ q
unfolding put
put_append p q s a h =
    ap₂ (λ x y. x ++ (s ++ y)) (take-append-le a p q (omega arith)) (drop-append-le (a + length s) p q h)
    ∙ simp append_assoc

-- row h of n rows
pub put_row : (w : ℕ) (f : ℕ → List ℕ) (s : List ℕ) (n h : ℕ) → ((i : ℕ) → i < n → length (f i) ≡ w) → length s ≡ w → h < n
    → put (rows f n) (h * w) s ≡ rows (λ i. at i h s (f i)) n
unfolding put
put_row w f s zero h k e l = absurd (omega arith)
put_row w f s (suc n) h k e l = go (ℕ_discrete n h) (put_row w f s n h (λ i m. k i (omega arith)) e)
  where
    long : length (rows f n) ≡ n * w
    long = length_rows w f n (λ i m. k i (omega arith))

    go : Dec (n ≡ h) → (h < n → put (rows f n) (h * w) s ≡ rows (λ i. at i h s (f i)) n)
        → put (rows f n ++ f n) (h * w) s ≡ rows (λ i. at i h s (f i)) n ++ at n h s (f n)
    go (yes q) ih = whole ∙ sym (ap₂ ◌++◌ (rows_cong n (λ i m. at_other i h s (f i) (λ r. omega arith))) (at_same n h s (f n) q))
      where
        place : length (rows f n) ≡ h * w
        place = long ∙ ap (◌* w) q

        none : drop (h * w + length s) (rows f n ++ f n) ≡ []
        none =
            let last : length (f n) ≡ w = k n (omega arith) in
            drop_of_length-le (rows f n ++ f n) {i = h * w + length s} (omega (arith, length-append (rows f n) (f n), place, last, e))

        whole : put (rows f n ++ f n) (h * w) s ≡ rows f n ++ s
        whole = ap₂ (λ x y. x ++ (s ++ y)) (take_at (rows f n) (f n) (h * w) place) none ∙ ap (rows f n ++◌) (append-nil s)
    go (no ne) ih =
        let below : h < n = omega arith in
        put_append (rows f n) (f n) s (h * w) (omega (arith, row_fits w below, e, long))
        ∙ ap₂ ◌++◌ (ih (omega arith)) (sym (at_other n h s (f n) ne))

-- ---- rows completed

-- rows that agree
pub completed_cong : (n h : ℕ) (whole : List ℕ) {f g : ℕ → List ℕ} → ((k : ℕ) → k < n → f k ≡ g k)
    → (i : ℕ) → i < n → completed_row n h whole f i ≡ completed_row n h whole g i
completed_cong n h whole e i l =
    ap₂ (λ x y. at i h (zip_xor whole x) y) (sum_xor_cong n (λ k m. ap (at k h []) (e k m))) (e i l)

module _ (n w h : ℕ) (d whole : List ℕ) (long : length d ≡ n * w) (size : length whole ≡ w) (l : h < n) where
  abbrev f : ℕ → List ℕ
  f i = row w i d

  abbrev rest : List ℕ
  rest = zip_xor whole (sum_xor n (λ k. at k h [] (f k)))

  f_long : (i : ℕ) → i < n → length (f i) ≡ w
  f_long i m = length-take-le w (drop (i * w) d) (omega (arith, row_fits w m, length-drop (i * w) d))

  -- the whole stands for the hidden row
  module _ {d' : List ℕ} (is : d' ≡ put d (h * w) whole) where
    first : d' ≡ rows (λ i. at i h whole (f i)) n
    first = is ∙ ap (λ x. put x (h * w) whole) (sym (take_all (n * w) d (omega arith)) ∙ rows_of w n d) ∙ put_row w f whole n h f_long size l

    first_long : (i : ℕ) → i < n → length (at i h whole (f i)) ≡ w
    first_long i m = at_cases (λ x. length x ≡ w) i h whole (f i) (λ q. size) (λ q. f_long i m)

    -- the sum of these rows is what the others leave
    pub rest_summed : sum_xor n (λ i. row w i d') ≡ rest
    rest_summed =
        sum_xor_cong n (λ i m. ap (row w i) first ∙ row_of_rows w (λ i. at i h whole (f i)) n first_long i m)
        ∙ sum_apart n h whole f l

    -- and is put in its place
    pub completed : {sums d'' : List ℕ} → sums ≡ rest → length sums ≡ w → d'' ≡ put d' (h * w) sums → d'' ≡ rows (completed_row n h whole f) n
    completed {sums} e k p =
        p ∙ ap (λ x. put x (h * w) sums) first ∙ put_row w (λ i. at i h whole (f i)) sums n h first_long k l ∙ rows_cong n (λ i m. twice i)
      where
        twice : (i : ℕ) → at i h sums (at i h whole (f i)) ≡ at i h rest (f i)
        twice i = go (ℕ_discrete i h)
          where
            go : Dec (i ≡ h) → at i h sums (at i h whole (f i)) ≡ at i h rest (f i)
            go (yes q) = at_same i h sums _ q ∙ e ∙ sym (at_same i h rest (f i) q)
            go (no q) = at_other i h sums _ q ∙ at_other i h whole (f i) q ∙ sym (at_other i h rest (f i) q)

  pub hidden_left : rest ≡ completed_row n h whole f h
  hidden_left = sym (at_same h h rest (f h) refl)
