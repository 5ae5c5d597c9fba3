-- The lengths of what the parties of an execution have in common: the front of the public key, the offsets, the first challenge, Lagrange's values for the points
-- 20 to 40 and the tables.
use Rattle.std.specs.Prelude.{◌≡◌, List, ℕ, ◌*◌, length}
use Rattle.banquet.specs.declared.Shape.{Shape}
use Rattle.banquet.specs.Shape.{sboxes, product_points}
use Rattle.sets.specs.Valid.{Valid}

pub record Lengths (S : Shape) (front key_offset inverse_offsets product_offsets first far tables : List ℕ) : Type 0 where
  pub valid : Valid S
  pub front_size : length front ≡ S.front
  pub key_size : length key_offset ≡ 16
  pub inverses_size : length inverse_offsets ≡ sboxes S
  pub products_size : length product_offsets ≡ product_points S * S.wide
  pub first_size : length first ≡ S.m1
  pub far_size : length far ≡ 21
  pub tables_size : length tables ≡ 640
