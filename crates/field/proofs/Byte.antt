-- Laws of specs/Byte, which stand here so that an edit of what they rest on is refused by a fact. Assumes nothing.
use Rattle.std.specs.Prelude.{◌≡◌, ℕ, ◌<◌}
use Rattle.std.proofs.Common.{◌∙◌, mod-eq_of_lt}
use Rattle.field.specs.Byte.{mul8, field8}

pub times_one : {x : ℕ} → x < 256 → mul8 1 x ≡ x
times_one {x} h = field8.ring.one x ∙ mod-eq_of_lt h
