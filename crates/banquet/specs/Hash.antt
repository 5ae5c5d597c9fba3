-- "SHAKE inputs": the nine hash inputs and what they give. "Execution e and party i (0 to 15) take one byte each; other numbers four, low byte first.
-- Every input begins with the byte shown."
use Rattle.std.specs.Prelude.{List, ◌∷◌, ◌++◌, ℕ, ◌+◌, ◌*◌, ◌%◌, ltb, length}
use Rattle.slices.specs.Lists.{choose, rows, row}
use Rattle.slices.specs.Numbers.{bytes_of, number_at}
use Rattle.slices.specs.Layout.{total}
use Rattle.banquet.specs.Shape.{first_challenge_length, tape_sizes}
use Rattle.banquet.specs.Scheme.{Scheme}

-- "a draw below 20 has 20 added"
unfoldable pub evaluation_point : ℕ → ℕ → ℕ
evaluation_point m2 x = choose (ltb x m2) (x + m2) x

-- "modulo 16 the hidden party"
unfoldable pub party_of : ℕ → ℕ → ℕ
party_of parties x = x % parties

-- "1: public key, message length, message, salt, then per execution ..": what stands before the executions
abbrev pub first_input : List ℕ → List ℕ → List ℕ → List ℕ
first_input public_key message salt = 1 ∷ (public_key ++ bytes_of 4 (length message) ++ message ++ salt)

-- "5: salt, e, node v, seed; gives the seeds of nodes 2v+1 and 2v+2."
unfoldable pub children : (List ℕ → ℕ → List ℕ) → List ℕ → ℕ → ℕ → List ℕ → List ℕ
children hash salt e v seed = hash (5 ∷ (salt ++ e ∷ (bytes_of 4 v ++ seed))) 32

module _ (𝓢 : Scheme) where
  open 𝓢 use {hash}
  open 𝓢.shape use {parties, executions, wide, m2}

  -- "0: salt, e, i, seed; gives the 32-byte commitment."
  unfoldable pub commitment : List ℕ → ℕ → ℕ → List ℕ → List ℕ
  commitment salt e i seed = hash (0 ∷ (salt ++ e ∷ i ∷ seed)) 32

  -- input 1 "gives h1, 32 bytes."
  unfoldable pub first_hash : List ℕ → List ℕ → List ℕ → (ℕ → List ℕ) → List ℕ
  first_hash public_key message salt per_execution =
      hash (first_input public_key message salt ++ rows per_execution executions) 32

  -- "2: h1, all product offsets; gives h2, 32 bytes."
  unfoldable pub second_hash : List ℕ → (ℕ → List ℕ) → List ℕ
  second_hash h1 per_execution = hash (2 ∷ (h1 ++ rows per_execution executions)) 32

  -- "3: h2, then per execution .."; "gives h3, 32 bytes."
  unfoldable pub third_hash : List ℕ → (ℕ → List ℕ) → List ℕ
  third_hash h2 per_execution = hash (3 ∷ (h2 ++ rows per_execution executions)) 32

  -- "4: salt, e, i, seed; gives a 380-byte tape"
  unfoldable pub tape : List ℕ → ℕ → ℕ → List ℕ → List ℕ
  tape salt e i seed = hash (4 ∷ (salt ++ e ∷ i ∷ seed)) (total (tape_sizes 𝓢.shape))

  -- ---- "Every number drawn from 6, 7 or 8 takes four bytes, low byte first, in execution order."

  -- "6: h1; gives per execution ten first draws r.": the bytes of execution e's
  unfoldable pub first_challenge : List ℕ → ℕ → List ℕ
  first_challenge h1 e = row (first_challenge_length 𝓢.shape) e (hash (6 ∷ h1) (executions * first_challenge_length 𝓢.shape))

  -- "7: h2; gives one second draw R each; a draw below 20 has 20 added."
  unfoldable pub second_challenge : List ℕ → ℕ → ℕ
  second_challenge h2 e = evaluation_point m2 (number_at wide e (hash (7 ∷ h2) (executions * wide)))

  -- "8: h3; gives one number each, modulo 16 the hidden party."
  unfoldable pub hidden_party : List ℕ → ℕ → ℕ
  hidden_party h3 e = party_of parties (number_at 4 e (hash (8 ∷ h3) (executions * 4)))
