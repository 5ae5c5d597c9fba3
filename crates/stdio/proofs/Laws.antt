-- What a read or a write moved, by its answer, and how much was read. Assumes nothing.
use Rattle.std.specs.Prelude.{◌≡◌, refl, ℕ, zero, suc, ◌<◌, Result, Ok, Err, Option, Some, None, IfOk, MatchResult}
use Rattle.std.specs.declared.io.Error.{Error}
use Rattle.std.proofs.Common.{arith}
use Rattle.stdio.specs.Outcome.{outcome_of, ended}

pub outcome_end : (r : Result ℕ Error) {n : ℕ} → r ≡ Ok n → n ≡ 0 → Ok None ≡ outcome_of r
unfolding outcome_of
outcome_end r e end = let same : r ≡ Ok 0 = grind arith in rw same refl

pub outcome_bytes : (r : Result ℕ Error) (n : ℕ) → r ≡ Ok n → (n ≡ 0 → ⊥) → Ok (Some n) ≡ outcome_of r
unfolding outcome_of
outcome_bytes r zero e other = absurd (other refl)
outcome_bytes r (suc n) e other = rw e refl

pub outcome_failed : (r : Result ℕ Error) {x : Error} → r ≡ Err x → Err x ≡ outcome_of r
unfolding outcome_of
outcome_failed r e = rw e refl

-- at least one byte, and what the answer says of its count
pub bytes_some : (P : ℕ → Type 0) (r : Result ℕ Error) (k : ℕ) → IfOk r P → Ok (Some k) ≡ outcome_of r → (0 < k) × P k
unfolding outcome_of
bytes_some P (Ok zero) k m e = grind arith
bytes_some P (Ok (suc i)) k m e = let same : k ≡ suc i = grind arith in rw same (search (arith, m))
bytes_some P (Err x) k m e = grind arith

-- after the last read as many bytes are told as were counted, whether it failed or not
pub ended_counted : (P : ℕ → Type 0) (n : ℕ) (last : Result (Option ℕ) Error) → P n → MatchResult (ended n last) P (λ failed. P failed.length)
unfolding ended
ended_counted P n (Ok more) h = h
ended_counted P n (Err e) h = h
