-- A list put into another, the front of which is added to and read. Assumes nothing.
use mathlib.Core.Path.{◌≡◌, sym, ap, ap₂, ◌∙◌}
use mathlib.Core.List.{List, [], ◌++◌, append-nil, append_assoc}
use Prim.Native.Nat.{ℕ, ◌+◌, ◌-◌, ◌≤◌}
use native.Mathlib.Omega.{arith}
use lib.ListN.{length, take, drop, length-drop, take-append-drop}
use lib.Seq.{take_at, drop_at, drop-drop, take-append-le, drop-append-le, length-take-le}
use borrow.Rule.Slice.PartMut.{put_mid}
use Rattle.slices.specs.Lists.{part, put, zip_xor}
use Rattle.slices.specs.Sums.{zip_nil, length_zip_max, zip_append}

-- a front added to is the whole added to
zip_front : (n : ℕ) (xs ys : List ℕ) → length ys ≡ n → n ≤ length xs → zip_xor (take n xs) ys ++ drop n xs ≡ zip_xor xs ys
zip_front n xs ys h l =
    ap (zip_xor (take n xs) ys ++◌) (sym (zip_nil (drop n xs)))
    ∙ zip_append (take n xs) ys (drop n xs) [] (length-take-le n xs l ∙ sym h)
    ∙ ap₂ zip_xor (take-append-drop n xs) (append-nil ys)

module _ (k n m : ℕ) (d y w : List ℕ) (h : length y ≡ m) (l : length w ≡ n) (fits : n ≤ m) (room : k + m ≤ length d) where
  -- y was lent as `&mut d[k..k + m]`
  abbrev lent : List ℕ
  lent = put_mid k (k + m - k) d y

  front_size : length (take k d) ≡ k
  front_size = length-take-le k d (omega arith)

  behind : drop k lent ≡ y ++ drop (k + m) d
  behind =
      let e : k + m - k ≡ m = omega arith in
      rw (e, drop-drop m k d) (drop_at (take k d) (y ++ drop (k + m) d) k front_size)

  less : n ≤ length y
  less = omega arith

  -- z is its front, with w added
  module _ {z : List ℕ} (e : z ≡ zip_xor (take (k + n - k) (drop k lent)) w) where
    added : z ≡ zip_xor (take n y) w
    added =
        let one : k + n - k ≡ n = omega arith in
        e ∙ ap (λ i. zip_xor (take i (drop k lent)) w) one ∙ ap (λ s. zip_xor (take n s) w) behind
        ∙ ap (λ s. zip_xor s w) (take-append-le n y (drop (k + m) d) less)

    pub front_is : z ≡ take n (zip_xor y w)
    front_is =
        let size : length (zip_xor (take n y) w) ≡ n = rw (length_zip_max (take n y) w) (omega (arith, length-take-le n y less)) in
        added ∙ sym (take_at (zip_xor (take n y) w) (drop n y) n size) ∙ ap (take n) (zip_front n y w l less)

    pub front_added : put_mid k (k + n - k) lent z ≡ put d k (zip_xor y w)
    unfolding put
    front_added =
        let one : k + n - k ≡ n = omega arith in
        let size : length (zip_xor y w) ≡ m = rw (length_zip_max y w) (omega arith) in
        let end : drop (k + m) d ≡ drop (k + length (zip_xor y w)) d = ap (λ i. drop (k + i) d) (sym size) in
        let rest : drop (k + n - k) (drop k lent) ≡ drop n y ++ drop (k + m) d =
        ap (λ i. drop i (drop k lent)) one ∙ ap (drop n) behind ∙ drop-append-le n y (drop (k + m) d) less in
        ap₂ (λ a b. a ++ (z ++ b)) (take_at (take k d) _ k front_size) rest
        ∙ ap (take k d ++◌)
        (sym (append_assoc z (drop n y) (drop (k + m) d))
        ∙ ap₂ ◌++◌ (ap (◌++ drop n y) added ∙ zip_front n y w l less) end)

-- part of a front
pub part_front : (n m k : ℕ) (l : List ℕ) → n + m ≤ k → k ≤ length l → part n m (take k l) ≡ part n m l
part_front n m k l h r =
    let size : length (take k l) ≡ k = length-take-le k l r in
    let left : m ≤ length (drop n (take k l)) = rw length-drop (omega (arith, size)) in
    sym
    (ap (part n m) (sym (take-append-drop k l)) ∙ ap (take m) (drop-append-le n (take k l) (drop k l) (omega (arith, size)))
    ∙ take-append-le m (drop n (take k l)) (drop k l) left)
