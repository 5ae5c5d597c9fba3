-- A call's answer as one number, and what the call leaves. Assumes nothing.
use mathlib.Core.Path.{◌≡◌, ap, ◌∙◌}
use mathlib.Core.List.{List, [], ◌∷◌}
use Prim.Native.Nat.{ℕ}
use Rattle.banquet.specs.Answer.{Answer}
use Rattle.banquet.specs.Calls.{Written, Checked, Made, written, checked, made}
use Rattle.verdict.specs.Code.{code_of, told, told_written, told_checked, told_made}

module _ {r : ℕ} {a : Answer} (e : r ≡ code_of a) where
  pub written_told : {out : List ℕ} {w : Written} → written a out ≡ w → told r (out ∷ []) ≡ told_written w
  written_told {out} h = ap (λ n. told n (out ∷ [])) e ∙ ap told_written h

  pub checked_told : {work : List ℕ} {c : Checked} → checked a work ≡ c → told r (work ∷ []) ≡ told_checked c
  checked_told {work} h = ap (λ n. told n (work ∷ [])) e ∙ ap told_checked h

  pub made_told : {out work : List ℕ} {m : Made} → made a out work ≡ m → told r (out ∷ work ∷ []) ≡ told_made m
  made_told {out} {work} h = ap (λ n. told n (out ∷ work ∷ [])) e ∙ ap told_made h
