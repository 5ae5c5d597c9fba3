-- "a draw below 20 has 20 added": so a second challenge is at least 20, and it is a wide element. "modulo 16": so a hidden party is one of them.
-- Assumes nothing.
use Rattle.std.specs.Prelude.{◌≡◌, List, ℕ, ◌+◌, ◌*◌, ◌^◌, ◌≤◌, ◌<◌}
use Rattle.std.proofs.Common.{ap, arith, pow_mono, lt-ltb, le-ltb}
use Rattle.std.proofs.Math.Nat.{mod-lt}
use Rattle.std.proofs.Math.Decide.{dec_lt}
use Rattle.slices.specs.Lists.{choose}
use Rattle.slices.specs.Bytes.{Bytes}
use Rattle.slices.specs.Numbers.{number_at}
use Rattle.slices.proofs.Numbers.{number_at_lt}
use Rattle.banquet.specs.declared.Shape.{Shape}
use Rattle.banquet.specs.Hash.{evaluation_point, party_of}
use Rattle.sets.specs.Valid.{Valid}

-- ---- a draw x, where m is 20

pub moved : (m x : ℕ) → x < m → evaluation_point m x ≡ x + m
unfolding evaluation_point
moved m x l = ap (λ t. choose t (x + m) x) (lt-ltb x m l)

pub kept : (m x : ℕ) → m ≤ x → evaluation_point m x ≡ x
unfolding evaluation_point
kept m x l = ap (λ t. choose t (x + m) x) (le-ltb x m l)

pub point_least : (m x : ℕ) → m ≤ evaluation_point m x
point_least m x = cases (dec_lt x m)
  where
    cases : Dec (x < m) → m ≤ evaluation_point m x
    cases (yes l) = rw (moved m x l) (omega arith)
    cases (no l) = rw (kept m x (omega arith)) (omega arith)

-- below any bound of the draws that has room for two times m
pub point_lt : (m x n : ℕ) → x < n → m + m ≤ n → evaluation_point m x < n
point_lt m x n h room = cases (dec_lt x m)
  where
    cases : Dec (x < m) → evaluation_point m x < n
    cases (yes l) = rw (moved m x l) (omega arith)
    cases (no l) = rw (kept m x (omega arith)) h

-- ---- of a valid set

module _ {S : Shape} (v : Valid S) where
  -- the second challenge of execution e, for the bytes d that were drawn
  pub second_wide : (e : ℕ) {d : List ℕ} → Bytes d → evaluation_point S.m2 (number_at S.wide e d) < 2 ^ (8 * S.wide)
  second_wide e p =
      let many : 2 ^ 32 ≤ 2 ^ (8 * S.wide) = pow_mono {i = 32} (omega (arith, v.wide_least)) in
      point_lt S.m2 _ _ (number_at_lt S.wide e p) (omega (arith, v.twenty, many))

  pub second_least : (e : ℕ) (d : List ℕ) → S.m2 ≤ evaluation_point S.m2 (number_at S.wide e d)
  second_least e d = point_least S.m2 (number_at S.wide e d)

  pub hidden_lt : (x : ℕ) → party_of S.parties x < S.parties
  unfolding party_of
  hidden_lt x = mod-lt x v.some
