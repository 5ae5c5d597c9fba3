-- The hash inputs 0 and 4, which differ in their first byte and in how much is asked for.
use Rattle.std.specs.Prelude.{List, ◌∷◌, ◌++◌, ℕ}
use Rattle.shake.specs.Shake128.{shake128}

-- "0: salt, e, i, seed; gives the 32-byte commitment."; "4: salt, e, i, seed; gives a 380-byte tape"
unfoldable pub party_hash : ℕ → List ℕ → ℕ → ℕ → List ℕ → ℕ → List ℕ
party_hash tag salt e i seed size = shake128 (tag ∷ (salt ++ e ∷ i ∷ seed)) size
