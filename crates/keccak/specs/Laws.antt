-- A permuted state has 25 lanes. Assumes nothing.
use Rattle.std.specs.Prelude.{◌≡◌, List, ℕ, length}
use Rattle.std.proofs.Common.{length-set}
use Rattle.keccak.specs.Keccak.{keccak_f, rounds, round, iota, chi, lanes}

pub length_keccak_f : (a : List ℕ) → length (keccak_f a) ≡ 25
unfolding keccak_f rounds round iota chi lanes
length_keccak_f a = simp length-set
