-- A line at the front of a room of 30 zeros. Assumes nothing.
use Rattle.std.specs.Prelude.{◌≡◌, List, ◌++◌, ℕ, ◌≤◌, length, drop, replicate}
use Rattle.std.proofs.Common.{sym, subst, arith, length-append}
use Rattle.print_card.specs.declared.Line.{Line}

unfoldable pub as_line : List ℕ → Line
as_line s = record { bytes = s ++ drop (length s) (replicate 30 0); length = length s }

pub line_within : {line : Line} (s : List ℕ) → line ≡ as_line s → line.length ≤ length line.bytes
unfolding as_line
line_within s e =
    subst (λ (line : Line). line.length ≤ length line.bytes) (sym e)
    (omega (arith, length-append s (drop (length s) (replicate 30 0))))
