-- Product offsets from what the steps leave. Assumes nothing.
use mathlib.Core.Path.{◌≡◌, ap, ap₂, ◌∙◌}
use mathlib.Core.List.{List}
use Prim.Native.Nat.{ℕ, ◌*◌, ◌≤◌}
use native.Mathlib.Omega.{arith}
use lib.Bits.{bit_xor}
use lib.ListN.{length, get_or}
use Rattle.slices.specs.Lists.{tab, row}
use Rattle.slices.specs.Tab.{get_d_tab, rows_cong}
use Rattle.slices.specs.Numbers.{bytes_of, number_at, numbers}
use Rattle.banquet.specs.declared.Shape.{Shape}
use Rattle.banquet.specs.Shape.{product_points, first_challenge_length}
use Rattle.banquet.specs.Sets.{scheme_of}
use Rattle.banquet.specs.Execution.{tape_part}
use Rattle.sets.specs.Valid.{Valid}
use Rattle.sets.specs.Bounds.{by_points}
use Rattle.forms.specs.Point.{product_value}
use Rattle.forms.specs.Offsets.{worked_offsets}

module _ {S : Shape} (v : Valid S) where
  open S use {wide, m1}

  -- the numbers that are loaded, and the offsets made of them
  pub offsets_worked : (us vs lasts sum first : List ℕ) {p q draws extra shares values out : List ℕ} {m n : ℕ} → m ≡ m1 → n ≡ 2 * m1
      → draws ≡ tab (λ k. number_at wide k first) m → p ≡ tape_part (scheme_of S) 2 sum → extra ≡ tab (λ k. number_at wide k p) n
      → q ≡ tape_part (scheme_of S) 3 sum → shares ≡ tab (λ k. number_at wide k q) 21
      → values ≡ tab (λ k. bit_xor (product_value S draws extra (row m1 k us) (row m1 k vs) (get_or lasts k 0)) (get_or shares k 0)) 21
      → out ≡ numbers wide (length values) (λ k. get_or values k 0) → out ≡ worked_offsets S us vs lasts sum first
  unfolding worked_offsets
  offsets_worked us vs lasts sum first {p} {q} {draws} {extra} {shares} {values} m_is n_is d e x f y h k =
      k ∙ ap (λ s. numbers wide (length s) (λ k. get_or s k 0)) h
      ∙ rows_cong 21
      (λ n l. ap (bytes_of wide)
      (get_d_tab (λ k. bit_xor (product_value S draws extra (row m1 k us) (row m1 k vs) (get_or lasts k 0)) (get_or shares k 0)) 21 n 0 l
      ∙ ap₂ bit_xor
      (ap₂ (λ a b. product_value S a b (row m1 n us) (row m1 n vs) (get_or lasts n 0)) (d ∙ ap (tab (λ k. number_at wide k first)) m_is)
      (x ∙ ap₂ (λ s n. tab (λ k. number_at wide k s) n) e n_is))
      (ap (λ s. get_or s n 0) (y ∙ ap (λ s. tab (λ k. number_at wide k s) 21) f)
      ∙ get_d_tab (λ k. number_at wide k (tape_part (scheme_of S) 3 sum)) 21 n 0 l)))

  pub first_long : {m : ℕ} → m ≡ first_challenge_length S → m1 * wide ≤ m
  first_long e = omega (arith, e)

  pub products_long : {m : ℕ} → m ≡ product_points S * wide → 21 * wide ≤ m
  products_long e = omega (arith, e, by_points v wide)

  pub store_fits : {n m : ℕ} → m ≡ product_points S * wide → n ≡ 21 → (wide ≤ 8) × (m ≡ n * wide)
  store_fits h e = (omega (arith, v.wide_most), rw e (h ∙ by_points v wide))
