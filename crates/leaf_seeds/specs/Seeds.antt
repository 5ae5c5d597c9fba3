-- The leaves' seeds with zeros behind them: row i is party i's seed. Assumes nothing.
use Rattle.std.specs.Prelude.{◌≡◌, List, ◌++◌, ℕ, ◌+◌, ◌-◌, ◌*◌, ◌^◌, ◌<◌, ◌≤◌, length, drop, replicate}
use Rattle.std.proofs.Common.{ap, ◌∙◌, arith, length-append, length-drop}
use Rattle.std.proofs.lemmas.List.{length-replicate, take-append-le, drop-append-le}
use Rattle.slices.specs.Lists.{row}
use Rattle.slices.proofs.Rows.{row_fits}
use Rattle.shake.specs.Shake128.{shake128}
use Rattle.banquet.specs.declared.Shape.{Shape}
use Rattle.banquet.specs.Sets.{scheme_of}
use Rattle.banquet.specs.Tree.{node_seeds, leaves}
use Rattle.banquet.specs.Signer.{seed_of}
use Rattle.tree.specs.Rows.{row_leaf, length_leaf_seeds}
use Rattle.sets.specs.Valid.{Valid}
use Rattle.sets.specs.Bounds.{leaves_most, parties_by}

-- a row of the list in front
row_before : (k i n : ℕ) (s t : List ℕ) → i < n → length s ≡ n * k → row k i (s ++ t) ≡ row k i s
row_before k i n s t l h =
    let room : i * k + k ≤ n * k = row_fits k l in
    let start : i * k ≤ length s = omega arith in
    let left : k ≤ length (drop (i * k) s) = rw length-drop (omega arith) in
    rw (drop-append-le (i * k) s t start) (take-append-le k (drop (i * k) s) t left)

-- a list of k elements and what fills it up to n, which stays a variable, so that nothing writes the zeros out
filled_up : (n : ℕ) (s : List ℕ) {z : List ℕ} {k : ℕ} → length s ≡ k → k ≤ n → z ≡ s ++ replicate (n - k) 0 → length z ≡ n
filled_up n s {z} {k} h l e =
    ap length e ∙ length-append s (replicate (n - k) 0) ∙ omega (arith, length-replicate {A = ℕ} (n - k) 0)

module _ {S : Shape} (v : Valid S) (salt root : List ℕ) (e : ℕ) {seeds : List ℕ} (h : length root ≡ 16)
    (w : seeds ≡ node_seeds (leaves shake128 salt e S.depth 0 root) ++ replicate (2048 - 16 * 2 ^ S.depth) 0) where
  open S use {parties, depth}

  pub seeds_row : (i : ℕ) → i < parties → row 16 i seeds ≡ seed_of (scheme_of S) salt root e i
  seeds_row i l =
      let less : i < 2 ^ depth = omega (arith, v.leaves) in
      ap (row 16 i) w
      ∙ row_before 16 i (2 ^ depth) (node_seeds (leaves shake128 salt e depth 0 root)) (replicate (2048 - 16 * 2 ^ depth) 0) less
      (length_leaf_seeds salt e depth 0 root h)
      ∙ row_leaf salt e depth 0 root h i less

  pub seeds_long : length seeds ≡ 2048
  seeds_long =
      let size : length (node_seeds (leaves shake128 salt e depth 0 root)) ≡ 16 * 2 ^ depth =
      length_leaf_seeds salt e depth 0 root h ∙ omega arith in
      filled_up 2048 (node_seeds (leaves shake128 salt e depth 0 root)) size (leaves_most v) w

  pub seeds_room : parties * 16 ≤ length seeds
  seeds_room = omega (arith, seeds_long, parties_by v 16)
