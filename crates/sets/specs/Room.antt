-- Local arrays have the room of the largest set: ten columns, 200 S-boxes. Of each the set's own part is lent, `&mut room[0..n]`. Assumes nothing.
use Rattle.std.specs.Prelude.{◌≡◌, List, ℕ, ◌-◌, ◌*◌, length, take}
use Rattle.std.proofs.Common.{arith}
use Rattle.slices.proofs.Put.{front_long}
use Rattle.banquet.specs.declared.Shape.{Shape}
use Rattle.sets.specs.Valid.{Valid}
use Rattle.sets.specs.Bounds.{sboxes_most}

module _ {S : Shape} (v : Valid S) (room : List ℕ) where
  open S use {m1, m2}

  pub columns_lent : length room ≡ 10 → length (take (m1 - 0) room) ≡ m1
  columns_lent h = front_long m1 room (omega (arith, h, v.columns))

  -- two numbers for each column
  pub pairs_lent : length room ≡ 20 → length (take (2 * m1 - 0) room) ≡ 2 * m1
  pairs_lent h = front_long (2 * m1) room (omega (arith, h, v.columns))

  pub sboxes_lent : length room ≡ 200 → length (take (m1 * m2 - 0) room) ≡ m1 * m2
  sboxes_lent h = front_long (m1 * m2) room (omega (arith, h, sboxes_most v))
