-- Counts: what fits a byte or a word, bounds that are handed on, and the turns of a loop. Assumes nothing.
use Rattle.std.proofs.Common.{◌≡◌, ℕ, ◌+◌, ◌-◌, ◌/◌, ◌^◌, ◌≤◌, ◌<◌, arith, w8, w64, Fits}

pub in_byte : {n k : ℕ} → n < k → k ≤ 2 ^ 8 → Fits w8 n
in_byte h k = omega (arith, h, k)

pub in_word : {n k : ℕ} → n ≤ k → k ≤ 2 ^ 32 → Fits w64 n
in_word h k = omega (arith, h, k)

-- where a part of n elements that ends at k at the latest begins
pub begins : (n : ℕ) {a k : ℕ} → a + n ≤ k → a ≤ k
begins n h = omega (arith, h)

pub as_long : {n m k : ℕ} → n ≤ k → m ≡ k → n ≤ m
as_long h e = omega (arith, h, e)

pub half_most : (n : ℕ) → n / 2 ≤ n
half_most n = omega arith

-- a loop of n turns, at turn e
module _ {e n : ℕ} (h : e < n) where
  pub next_most : e + 1 ≤ n
  next_most = omega (arith, h)

  pub nearer : n - (e + 1) < n - e
  nearer = omega (arith, h)
