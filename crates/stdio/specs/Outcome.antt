-- What the answer of a read or a write says, and what a read after which nothing more is read tells of the input. Assumes nothing.
use Rattle.std.specs.Prelude.{ℕ, zero, suc, Result, Ok, Err, Option, Some, None}
use Rattle.std.specs.declared.io.Error.{Error}
use Rattle.stdio.specs.declared.ReadFailed.{ReadFailed}

-- 0 is the end, a number above it that of the bytes that were read or written, and an error a failure
unfoldable pub outcome_of : Result ℕ Error → Result (Option ℕ) Error
outcome_of (Ok zero) = Ok None
outcome_of (Ok (suc n)) = Ok (Some (suc n))
outcome_of (Err e) = Err e

-- an error is a failure after that many bytes, and nothing else is one: as many then are the input
unfoldable pub ended : ℕ → Result (Option ℕ) Error → Result ℕ ReadFailed
ended length (Ok more) = Ok length
ended length (Err e) = Err (record { length = length })
