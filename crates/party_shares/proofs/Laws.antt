-- A party's shares from what the steps leave: parts of its tape, its own shares, its row. Assumes nothing.
use mathlib.Core.Path.{◌≡◌, refl, sym, ap, ap₂, ◌∙◌}
use mathlib.Core.Logic.{◌≢◌}
use mathlib.Core.List.{List, ◌++◌, append-nil, append_assoc}
use Prim.Native.Nat.{ℕ, ◌+◌, ◌-◌, ◌*◌, ◌<◌, ◌≤◌}
use native.Mathlib.Omega.{arith}
use lib.Bits.{bit_xor}
use lib.ListN.{length, get_or, take, drop, length-take, length-drop, drop_of_length-le}
use lib.Seq.{length-take-le}
use mir.Syntax.{w64}
use mir.Val.{Fits}
use borrow.Rule.Slice.PartMut.{put_mid}
use Rattle.slices.specs.Lists.{tab, put}
use Rattle.slices.specs.Tab.{length_tab, get_d_tab, rows_cong}
use Rattle.slices.specs.Layout.{total}
use Rattle.slices.specs.Numbers.{bytes_of, number_at, numbers}
use Rattle.slices.proofs.Put.{put_mid_lem, length_put, put_pair, wrote_none, wrote_more, wrote_all}
use Rattle.poly.specs.Index.{at_same, at_other}
use Rattle.lagrange.specs.Values.{dot_product}
use Rattle.banquet.specs.declared.Shape.{Shape}
use Rattle.banquet.specs.Sets.{scheme_of}
use Rattle.banquet.specs.Execution.{Committed, tape_part, inverse_shares, input_shares, output_share}
use Rattle.sets.specs.Valid.{Valid}
use Rattle.sets.specs.Bounds.{row_sizes, columns_most}
use Rattle.forms.specs.Point.{tabled_row, value_s, value_t}
use Rattle.forms.specs.Party.{committed, own, own_products, worked_c, worked_a, worked_b, worked_row}

-- ---- a front that is lent as `&mut d[0..a]`

pub front_long : {a n : ℕ} (d : List ℕ) → a ≡ n → a ≤ length d → length (take (a - 0) d) ≡ n
front_long {a} d e h = let z : a - 0 ≡ a = omega arith in rw z (length-take-le a d h ∙ e)

-- the rest, lent as `&mut d[a..e]` with e the length
pub rest_long : (d l : List ℕ) (a : ℕ) {n : ℕ} → length l ≡ length d → length d ≡ a + n → length (take (length d - a) (drop a l)) ≡ n
rest_long d l a e h = simp (length-take, length-drop) (omega arith)

pub no_shorter : {n m : ℕ} → n ≡ m → m ≤ n
no_shorter e = omega (arith, e)

pub put_both : (a k : ℕ) (d : List ℕ) {y y' z z' : List ℕ} → y ≡ y' → length y' ≡ a → z ≡ z' → length d ≤ a + k
    → put_mid a k (put_mid 0 (a - 0) d y) z ≡ y' ++ z'
put_both a k d e h f room = let z : a - 0 ≡ a = omega arith in rw z (put_pair a k d e h f room)

module _ {S : Shape} (v : Valid S) where
  open S use {wide, low, m1}

  -- ---- numbers that are loaded and stored

  pub half_word : Fits w64 (m1 * wide)
  half_word = omega (arith, columns_most v)

  module _ {n : ℕ} (h : n ≡ 2 * (m1 * wide)) where
    pub half_room : m1 * wide ≤ n
    half_room = omega (arith, h)

    pub halves : n ≡ m1 * wide + m1 * wide
    halves = omega (arith, h)

    pub halves_room : n ≤ m1 * wide + (n - m1 * wide)
    halves_room = omega (arith, h)

  pub store_fits : {n m : ℕ} → m ≡ m1 * wide → n ≡ m1 → (wide ≤ 8) × (m ≡ n * wide)
  store_fits h e = (omega (arith, v.wide_most), rw e h)

  -- a number for each j, made of the number of a row and of others
  pub stored : (f : ℕ → ℕ → ℕ) (g : ℕ → ℕ) {rows values out : List ℕ} → rows ≡ tab g m1 → values ≡ tab (λ j. f j (get_or rows j 0)) m1
      → out ≡ numbers wide (length values) (λ k. get_or values k 0) → out ≡ numbers wide m1 (λ j. f j (g j))
  stored f g {rows} {values} e h k =
      k ∙ ap (λ s. numbers wide (length s) (λ k. get_or s k 0)) h
      ∙ ap (λ n. numbers wide n (λ k. get_or (tab (λ j. f j (get_or rows j 0)) m1) k 0)) (length_tab _ m1)
      ∙ rows_cong m1
      (λ j l. ap (bytes_of wide)
      (get_d_tab (λ j. f j (get_or rows j 0)) m1 j 0 l ∙ ap (λ s. f j (get_or s j 0)) e ∙ ap (f j) (get_d_tab g m1 j 0 l)))

  -- ---- the share of c

  pub products_are : (product t : List ℕ) (i : ℕ) {p scratch out : List ℕ} {n : ℕ} → p ≡ tape_part (scheme_of S) 3 t → scratch ≡ own i p product
      → n ≡ 21 → out ≡ tab (λ k. number_at wide k scratch) n → out ≡ own_products S product i t
  products_are product t i e f l h =
      h ∙ ap₂ (λ s n. tab (λ k. number_at wide k s) n) (f ∙ ap (λ s. own i s product) e) l

  module _ (product far : List ℕ) (given i : ℕ) (t : List ℕ) {values : List ℕ} {r : ℕ} (p : values ≡ own_products S product i t)
      (h : r ≡ dot_product (8 * wide) low values far) where
    dot : r ≡ dot_product (8 * wide) low (own_products S product i t) far
    dot = h ∙ ap (λ s. dot_product (8 * wide) low s far) p

    pub c_first : i ≡ 0 → bit_xor r given ≡ worked_c S product far given i t
    unfolding worked_c
    c_first e = ap (λ z. bit_xor z given) dot ∙ sym (at_same i 0 _ _ e)

    pub c_other : i ≢ 0 → r ≡ worked_c S product far given i t
    unfolding worked_c
    c_other n = dot ∙ sym (at_other i 0 _ _ n)

  -- ---- the shares of a and b

  module _ (first tables : List ℕ) (last : ℕ) (t : List ℕ) {p extra : List ℕ} (e : p ≡ tape_part (scheme_of S) 2 t)
      {n : ℕ} (n_is : n ≡ 2 * m1) (h : extra ≡ tab (λ k. number_at wide k p) n) where
    extra_at : (k : ℕ) → k < 2 * m1 → get_or extra k 0 ≡ number_at wide k (tape_part (scheme_of S) 2 t)
    extra_at k l =
        ap (λ s. get_or s k 0) (h ∙ ap (tab (λ k. number_at wide k p)) n_is) ∙ get_d_tab (λ k. number_at wide k p) (2 * m1) k 0 l ∙ ap (number_at wide k) e

    pub a_worked : (inputs : List ℕ) {y : List ℕ}
        → y ≡ numbers wide m1 (λ j. value_s S (get_or first j 0) (tabled_row S inputs tables j) (get_or extra (2 * j) 0) last)
        → y ≡ numbers wide m1 (worked_a S first tables last t inputs)
    unfolding worked_a
    a_worked inputs g =
        g
        ∙ rows_cong m1
        (λ j l. ap (λ s. bytes_of wide (value_s S (get_or first j 0) (tabled_row S inputs tables j) s last)) (extra_at (2 * j) (omega arith)))

    pub b_worked : (inverses : List ℕ) {y : List ℕ}
        → y ≡ numbers wide m1 (λ j. value_t S (tabled_row S inverses tables j) (get_or extra (2 * j + 1) 0) last)
        → y ≡ numbers wide m1 (worked_b S first tables last t inverses)
    unfolding worked_b
    b_worked inverses g =
        g
        ∙ rows_cong m1
        (λ j l. ap (λ s. bytes_of wide (value_t S (tabled_row S inverses tables j) s last)) (extra_at (2 * j + 1) (omega arith)))

  -- ---- all of them

  pub row_size : {n : ℕ} → n ≡ total (row_sizes S) → n ≡ 16 + wide + 2 * (m1 * wide)
  row_size h = omega (arith, h)

  module _ {n : ℕ} (h : n ≡ 16 + wide + 2 * (m1 * wide)) where
    pub output_room : 16 ≤ n
    output_room = omega (arith, h)

    pub c_room : 16 + wide ≤ n
    c_room = omega (arith, h)

  pub few_bytes : wide ≤ 8
  few_bytes = omega (arith, v.wide_most)

  module _ (front key inverse product first far : List ℕ) (given : ℕ) (tables : List ℕ) (last i : ℕ) (t : List ℕ) where
    abbrev x' : Committed
    x' = committed front key inverse

    pub row_is : {y inverses inputs z : List ℕ} {c : ℕ} → y ≡ output_share (scheme_of S) x' i t → inverses ≡ inverse_shares (scheme_of S) x' i t
        → inputs ≡ input_shares (scheme_of S) x' i t → c ≡ worked_c S product far given i t
        → z ≡ numbers wide m1 (worked_a S first tables last t inputs) ++ numbers wide m1 (worked_b S first tables last t inverses)
        → y ++ (bytes_of wide c ++ z) ≡ worked_row S x' product first far given tables last i t
    unfolding worked_row
    row_is {y} {inverses} {inputs} {z} {c} e f g h k =
        ap₂ ◌++◌ e
        (ap₂ (λ c z. bytes_of wide c ++ z) h
        (k ∙ ap₂ (λ u v. numbers wide m1 (worked_a S first tables last t u) ++ numbers wide m1 (worked_b S first tables last t v)) g f))

-- ---- a row: 16 elements y, then w, then all the rest, each written in its place

pub put_row : (w : ℕ) (d y b z : List ℕ) {a k : ℕ} {s : List ℕ} → length d ≡ 16 + w + k → length y ≡ 16 → length b ≡ w
    → s ≡ put (put_mid 0 16 d y) 16 b → length s ≡ length d → length z ≡ k → a ≡ 16 + w → put_mid a (length s - a) s z ≡ y ++ (b ++ z)
put_row w d y b z {a} {k} {s} l h m p same n e =
    let first : put_mid 0 16 d y ≡ put d 0 y = put_mid_lem 0 16 d y y refl (sym h) in
    let one = wrote_more y (wrote_none d) h first (ap length first ∙ length_put d 0 y (omega arith)) in
    let two = wrote_more b one m p (same ∙ sym one.long) in
    let third : put_mid a (length s - a) s z ≡ put s (16 + w) z = rw e (put_mid_lem (16 + w) (length s - (16 + w)) s z z refl (omega arith)) in
    let three = wrote_more z two n third (ap length third ∙ length_put s (16 + w) z (omega arith)) in
    let none : length d ≤ 16 + w + k = omega arith in
    wrote_all three ∙ ap (((y ++ b) ++ z) ++◌) (drop_of_length-le d none) ∙ append-nil ((y ++ b) ++ z) ∙ append_assoc y b z
