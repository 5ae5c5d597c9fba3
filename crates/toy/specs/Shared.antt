-- The toy's signature again, where each stage is handed what the stages before it gave. `signature` names these anew at every place, which is one
-- value for a reader, but many computations.
use Rattle.std.specs.Prelude.{◌≡◌, List, [], ◌∷◌, ◌++◌, ℕ, zero, suc, get_or}
use Rattle.std.proofs.Math.Path.{refl}
use Rattle.slices.specs.Lists.{tab, rows}
use Rattle.slices.specs.Numbers.{bytes_of, numbers}
use Rattle.slices.specs.Layout.{layout}
use Rattle.poly.specs.Sum.{sum}
use Rattle.banquet.specs.Scheme.{wide_ops}
use Rattle.banquet.specs.Hash.{commitment, second_hash, third_hash, first_challenge, second_challenge, hidden_party}
use Rattle.banquet.specs.Tree.{sibling_seeds}
use Rattle.banquet.specs.Key.{front_of}
use Rattle.banquet.specs.Execution.{Committed, Challenge, challenge, opened_c, opened_a, opened_b}
use Rattle.banquet.specs.Signer.{product_offsets}
use Rattle.banquet.specs.Signature.{
  root_of,
  h3_part,
  signer_seed,
  signer_tape,
  signer_committed,
  signer_h1,
  signer_offsets,
  signer_h2,
  signer_h3_part,
  signer_h3,
  signer_frame,
  signature,
}
use Rattle.toy.specs.Toy.{toy}

-- of execution 0, and of execution 1
abbrev pub either : {A : Type 0} → A → A → ℕ → A
either a b zero = a
either a b (suc e) = b

-- party i's shares of c, of a and of b; one of them
abbrev shares_of : Committed → ℕ → List ℕ → Challenge → List ℕ
shares_of x i t d = opened_c toy i t d ∷ opened_a toy x i t d 0 ∷ opened_b toy x i t d 0 ∷ []

abbrev share : List (List ℕ) → ℕ → ℕ → ℕ
share t i k = get_or (get_or t i []) k 0

module _ (key public_key message salt seeds : List ℕ) where
  abbrev tapes : ℕ → ℕ → List ℕ
  tapes = signer_tape toy salt seeds

  abbrev committed : ℕ → Committed
  committed = signer_committed toy key public_key salt seeds

  -- the parties' shares: row i has party i's of c, of a and of b
  abbrev shares : ℕ → Challenge → List (List ℕ)
  shares e d = tab (λ i. shares_of (committed e) i (tapes e i) d) 3

  -- all parties' sum of the shares k
  abbrev whole : List (List ℕ) → ℕ → ℕ
  whole t k = sum (wide_ops toy) 3 (λ i. share t i k)

  abbrev third : List (List ℕ) → List ℕ
  third t = h3_part toy (whole t 0) (λ j. whole t 1) (λ j. whole t 2) (λ i. share t i 0) (λ i j. share t i 1) (λ i j. share t i 2)

  abbrev frame : List ℕ → (ℕ → List ℕ) → (ℕ → List (List ℕ)) → ℕ → List ℕ
  frame h3 offsets t e =
      layout
      (sibling_seeds toy.hash salt e 2 0 (root_of seeds e) (hidden_party toy h3 e)
      ∷ commitment toy salt e (hidden_party toy h3 e) (signer_seed toy salt seeds e (hidden_party toy h3 e))
      ∷ (committed e).key_offset ∷ (committed e).inverse_offsets ∷ offsets e
      ∷ bytes_of 1 (whole (t e) 0) ∷ numbers 1 1 (λ j. whole (t e) 1) ∷ numbers 1 1 (λ j. whole (t e) 2) ∷ [])

  abbrev after_third : List ℕ → (ℕ → List ℕ) → (ℕ → List (List ℕ)) → List ℕ → List ℕ
  after_third h1 offsets t h3 = layout (salt ∷ h1 ∷ h3 ∷ []) ++ rows (frame h3 offsets t) 2

  abbrev after_shares : List ℕ → (ℕ → List ℕ) → List ℕ → List (List ℕ) → List (List ℕ) → List ℕ
  after_shares h1 offsets h2 t0 t1 = after_third h1 offsets (either t0 t1) (third_hash toy h2 (λ e. third (either t0 t1 e)))

  abbrev challenge_of : List ℕ → (ℕ → List ℕ) → List ℕ → ℕ → Challenge
  challenge_of h1 offsets h2 e = challenge toy (first_challenge toy h1 e) (offsets e) (second_challenge toy h2 e)

  abbrev after_second : List ℕ → (ℕ → List ℕ) → List ℕ → List ℕ
  after_second h1 offsets h2 =
      after_shares h1 offsets h2 (shares 0 (challenge_of h1 offsets h2 0)) (shares 1 (challenge_of h1 offsets h2 1))

  abbrev after_offsets : List ℕ → List ℕ → List ℕ → List ℕ
  after_offsets h1 o0 o1 = after_second h1 (either o0 o1) (second_hash toy h1 (either o0 o1))

  abbrev offsets_under : List ℕ → ℕ → List ℕ
  offsets_under h1 e = product_offsets toy (tapes e) (front_of toy public_key) key (first_challenge toy h1 e)

  abbrev after_first : List ℕ → List ℕ
  after_first h1 = after_offsets h1 (offsets_under h1 0) (offsets_under h1 1)

  unfoldable pub shared : List ℕ
  shared = after_first (signer_h1 toy key public_key message salt seeds)

  pub signature_shared : signature toy key public_key message salt seeds ≡ shared
  unfolding shared signature signer_frame signer_h3 signer_h3_part signer_h2 signer_offsets second_hash third_hash layout h3_part sum
  signature_shared = refl
