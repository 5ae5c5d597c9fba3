-- The number and the place are what `verdict` tells.
use mathlib.Core.Path.{ap}
use Prim.Native.Nat.{◌+◌, ◌*◌}
use Rattle.banquet.specs.declared.Verdict.{Verdict}
use Rattle.verdict.specs.Code.{code_of}
use Rattle.verdict.proofs.code.Goals as goal

pub returns : goal.returns
unfolding code_of
returns c = ap (λ (v : Verdict). v.number * 65536 + v.place) c.verdict-told.ensures
