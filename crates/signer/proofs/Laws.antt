-- Offsets from what the steps leave. Assumes nothing.
use mathlib.Core.Path.{◌≡◌, ap, ◌∙◌}
use mathlib.Core.List.{List}
use Prim.Native.Nat.{ℕ, ◌≤◌}
use native.Mathlib.Omega.{arith}
use Rattle.slices.specs.Lists.{row, sum_xor}
use Rattle.slices.specs.Layout.{total}
use Rattle.banquet.specs.declared.Shape.{Shape}
use Rattle.banquet.specs.Shape.{tape_sizes}
use Rattle.banquet.specs.Sets.{scheme_of}
use Rattle.banquet.specs.Hash.{tape}
use Rattle.sets.specs.Valid.{Valid}
use Rattle.sets.proofs.Bounds.{tape_most}
use Rattle.party.specs.Party.{party_hash}

module _ {S : Shape} (v : Valid S) where
  open S use {parties}

  -- the sum of the tapes
  pub tapes_summed : (salt seeds : List ℕ) (e : ℕ) {s : List ℕ} {n : ℕ} → n ≡ total (tape_sizes S)
      → s ≡ sum_xor parties (λ i. party_hash 4 salt e i (row 16 i seeds) n) → s ≡ sum_xor parties (λ i. tape (scheme_of S) salt e i (row 16 i seeds))
  unfolding party_hash tape
  tapes_summed salt seeds e l h = h ∙ ap (λ n. sum_xor parties (λ i. party_hash 4 salt e i (row 16 i seeds) n)) l

  pub few_parties : parties ≤ 256
  few_parties = omega (arith, v.few)

  pub hash_room : {n : ℕ} → n ≡ total (tape_sizes S) → n ≤ 512
  hash_room h = omega (arith, h, tape_most v)
