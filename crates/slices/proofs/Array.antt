-- What a function is told of a `[u8; n]` by value (`c.good`, and `.ok` of a call): its elements are bytes. Assumes nothing.
use Rattle.std.proofs.Common.{List, [], ◌∷◌, ℕ, w8}
use mir.Val.{Val}
use denote.Shadow.{shadow}
use denote.Laws.{Is}
use denote.Plain.{UInt}
use denote.Array.{Array, each}
use Rattle.slices.specs.Bytes.{Bytes, nil_bytes, cons_bytes}

each_bytes : (xs : List ℕ) (us : List Val) → shadow (each ℕ (UInt w8).own_val xs us) → Bytes xs
each_bytes [] us p = nil_bytes
each_bytes (x ∷ xs) [] p = absurd p
each_bytes (x ∷ xs) (u ∷ us) p = cons_bytes p.0.1 (each_bytes xs us p.1)

pub array_bytes : (n : ℕ) (xs : List ℕ) (vs : List Val) → Is (Array (UInt w8) n) xs vs → Bytes xs
array_bytes n xs vs p = each_bytes xs p.0 p.1.1
