-- The work slice as scratch: only its front may differ, and cleared it is as if nothing had been written. Assumes nothing.
use Rattle.std.specs.Prelude.{◌≡◌, List, ◌++◌, ℕ, length, drop, replicate}
use Rattle.std.proofs.Common.{ap, ◌∙◌}
use Rattle.banquet.specs.Shape.{work_length}
use Rattle.banquet.specs.Answer.{cleared}

pub record Scratch (w w' : List ℕ) : Type 0 where
  pub long : length w' ≡ length w
  pub rest : drop work_length w' ≡ drop work_length w

pub cleared_scratch : {w w' : List ℕ} → Scratch w w' → cleared w' ≡ cleared w
unfolding cleared
cleared_scratch s = ap (replicate work_length 0 ++◌) s.rest

pub scratch_then : {u v w : List ℕ} → Scratch u v → Scratch v w → Scratch u w
scratch_then s t = record { long = t.long ∙ s.long; rest = t.rest ∙ s.rest }
