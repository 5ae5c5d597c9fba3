-- The numbers that all parties have in common are right.
use Rattle.std.proofs.Common.{ℕ, ◌≡◌, ◌-◌, length, take, replicate, refl}
use Rattle.slices.specs.Bytes.{bytes_of}
use Rattle.sets.specs.Room.{columns_lent}
use Rattle.execution.proofs.Right.{right, rows_right}
use Rattle.execution.proofs.share_rows.Goals as goal

pub returns : goal.returns
returns c =
    let a = c.args in
    let v = c.args.set.valid in
    let lent : length {A = ℕ} (take (a.set.shape.m1 - 0) (replicate 10 0)) ≡ a.set.shape.m1 = columns_lent v (replicate 10 0) refl in
    let all =
    right v a.first.now a.product.now a.second c.requires.7 lent c.load.ensures c.far_values.ensures c.sum.ensures c.sum-2.ensures
    c.mul-given.ensures c.tables-last.ensures.out_after c.tables-last.ensures.value in
    rows_right v a.first.now a.product.now a.second c.requires.7 a.salt.now a.e a.seeds.now a.front.now a.key.now a.inverse.now c.requires.2
    (bytes_of c.type_inv.front) (bytes_of c.type_inv.key) (bytes_of c.type_inv.inverse) (bytes_of c.type_inv.product) all c.seed_rows.ensures
