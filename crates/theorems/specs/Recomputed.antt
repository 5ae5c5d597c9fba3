-- What the check of a signature recomputes: hidden shares as "sum minus the rest", and what the hashes bind. Assumes nothing.
use Rattle.std.specs.Prelude.{◌≡◌, ◌≢◌, ltb, length, get_or}
use Rattle.std.proofs.Math.Path.{refl, ap, ap₂}
use Rattle.std.proofs.Common.{sym, ◌∙◌, arith, lt-ltb, le-ltb, ext_get_or}
use mathlib.Core.List.{List, [], ◌∷◌, ◌++◌}
use Prim.Native.Nat.{ℕ, ◌+◌, ◌*◌, ◌≤◌, ◌<◌}
use Rattle.std.proofs.Math.Nat.{mod-lt}
use Rattle.std.proofs.Math.Decide.{ℕ_discrete, dec_lt}
use Rattle.std.specs.Int.Bits.{bit_xor}
use Rattle.std.proofs.lemmas.Nat.{xor_comm}
use Rattle.slices.specs.Lists.{choose, sum_xor, zip_xor}
use Rattle.slices.specs.Bytes.{Bytes, Sized, part_bytes}
use Rattle.slices.specs.Tab.{rows_cong}
use Rattle.slices.specs.Sums.{get_d_zip, sized_sum, length_zip_sum}
use Rattle.slices.specs.Xor.{xor_cancel}
use Rattle.slices.specs.Numbers.{bytes_of}
use Rattle.poly.specs.Field.{BinaryField, add_zero}
use Rattle.poly.specs.Index.{at, at_same, at_other, at_cases}
use Rattle.poly.specs.Sum.{sum, sum_cong, sum_add, sum_only}
use Rattle.banquet.specs.Scheme.{Scheme, wide_ops, Wide}
use Rattle.banquet.specs.Hash.{
  first_input,
  evaluation_point,
  party_of,
  first_hash,
  second_hash,
  third_hash,
  first_challenge,
  second_challenge,
  hidden_party,
}
use Rattle.banquet.specs.Signature.{h1_part, opened_bytes, h3_part, completed, completed_output}
use Rattle.theorems.specs.Laws.{Laws}
use Rattle.theorems.specs.Wide.{wide_field, byte_sum, wide_number}

-- ---- hidden shares are the sum minus the rest

module _ (𝓢 : Scheme) (L : Laws 𝓢) where
  open 𝓢.shape use {parties, executions, depth, wide, m1, m2, front}

  F : BinaryField (wide_ops 𝓢) (Wide 𝓢)
  F = wide_field 𝓢 L

  sum_split : (f : ℕ → ℕ) (h : ℕ) → h < parties → sum (wide_ops 𝓢) parties f ≡ bit_xor (sum (wide_ops 𝓢) parties (λ k. at k h 0 (f k))) (f h)
  sum_split f h l =
      sum_cong (wide_ops 𝓢) parties (λ k m. split k (ℕ_discrete k h)) ∙ sum_add F parties (λ k. at k h 0 (f k)) (λ k. at k h (f k) 0)
      ∙ ap (bit_xor (sum (wide_ops 𝓢) parties (λ k. at k h 0 (f k))))
      (sum_only F parties (λ k. at k h (f k) 0) h l (λ k m ne. at_other k h (f k) 0 ne) ∙ at_same h h (f h) 0 refl)
    where
      split : (k : ℕ) → Dec (k ≡ h) → f k ≡ bit_xor (at k h 0 (f k)) (at k h (f k) 0)
      split k (yes e) = simp at_same
      split k (no n) = simp at_other (sym (add_zero F (f k)))

  rest_right : (f g : ℕ → ℕ) (h : ℕ) → h < parties → ((k : ℕ) → k < parties → k ≢ h → g k ≡ f k)
      → bit_xor (sum (wide_ops 𝓢) parties f) (sum (wide_ops 𝓢) parties (λ k. at k h 0 (g k))) ≡ f h
  rest_right f g h l e =
      let s = sum (wide_ops 𝓢) parties (λ k. at k h 0 (f k)) in
      ap₂ bit_xor (sum_split f h l) (sum_cong (wide_ops 𝓢) parties (λ k m. others k m (ℕ_discrete k h)))
      ∙ xor_comm (bit_xor s (f h)) s ∙ xor_cancel s (f h)
    where
      others : (k : ℕ) → k < parties → Dec (k ≡ h) → at k h 0 (g k) ≡ at k h 0 (f k)
      others k m (yes p) = at_same k h 0 (g k) p ∙ sym (at_same k h 0 (f k) p)
      others k m (no n) = ap (at k h 0) (e k m n)

  pub completed_right : (f g : ℕ → ℕ) (h whole : ℕ) → h < parties → ((k : ℕ) → k < parties → k ≢ h → g k ≡ f k) → whole ≡ sum (wide_ops 𝓢) parties f
      → (i : ℕ) → i < parties → completed 𝓢 h whole g i ≡ f i
  unfolding completed
  completed_right f g h whole l e w i m =
      at_cases (λ v. v ≡ f i) i h _ (g i) (λ p. ap₂ bit_xor w refl ∙ rest_right f g h l e ∙ ap f (sym p)) (λ n. e i m n)

  pub completed_output_right : (f g : ℕ → List ℕ) (h : ℕ) (whole : List ℕ) → h < parties → ((k : ℕ) → k < parties → Sized 16 (f k))
      → ((k : ℕ) → k < parties → k ≢ h → g k ≡ f k) → sum_xor parties f ≡ whole → (i : ℕ) → i < parties → completed_output 𝓢 h whole g i ≡ f i
  unfolding completed_output
  completed_output_right f g h whole l s e w i m =
      at_cases (λ v. v ≡ f i) i h _ (g i) (λ p. ap₂ zip_xor (sym w) refl ∙ rest ∙ ap f (sym p)) (λ n. e i m n)
    where
      o : ℕ → List ℕ
      o k = at k h [] (g k)

      get_d_o : (b k : ℕ) → Dec (k ≡ h) → get_or (o k) b 0 ≡ at k h 0 (get_or (g k) b 0)
      get_d_o b k (yes p) = ap (λ t. get_or t b 0) (at_same k h [] (g k) p) ∙ sym (at_same k h 0 _ p)
      get_d_o b k (no n) = ap (λ t. get_or t b 0) (at_other k h [] (g k) n) ∙ sym (at_other k h 0 _ n)

      byte : (n : ℕ) → get_or (zip_xor (sum_xor parties f) (sum_xor parties o)) n 0 ≡ get_or (f h) n 0
      byte n =
          get_d_zip (sum_xor parties f) (sum_xor parties o) n
          ∙ ap₂ bit_xor (byte_sum 𝓢 L parties f n) (byte_sum 𝓢 L parties o n ∙ sum_cong (wide_ops 𝓢) parties (λ k r. get_d_o n k (ℕ_discrete k h)))
          ∙ rest_right (λ k. get_or (f k) n 0) (λ k. get_or (g k) n 0) h l (λ k r ne. ap (λ t. get_or t n 0) (e k r ne))

      rest : zip_xor (sum_xor parties f) (sum_xor parties o) ≡ f h
      rest =
          ext_get_or 0 _ _
          (length_zip_sum 16 parties (sum_xor parties f) o (sized_sum parties L.some_party s).size (λ k q. short k q (ℕ_discrete k h))
          ∙ sym (s h l).size)
          (λ n q. byte n)
        where
          short : (k : ℕ) → k < parties → Dec (k ≡ h) → length (o k) ≤ 16
          short k q (yes p) = rw (at_same k h [] (g k) p) (omega arith)
          short k q (no n) = rw (at_other k h [] (g k) n, e k q n) (let z = (s k q).size in omega arith)

  -- ---- what the hashes bind, by execution

  pub h1_part_cong : {c c' o o' : ℕ → List ℕ} {a a' b b' : List ℕ} → ((i : ℕ) → i < parties → c i ≡ c' i) → ((i : ℕ) → i < parties → o i ≡ o' i)
      → a ≡ a' → b ≡ b' → h1_part 𝓢 c o a b ≡ h1_part 𝓢 c' o' a' b'
  unfolding h1_part
  h1_part_cong p q r s = λ i. rows_cong parties p i ++ rows_cong parties q i ++ r i ++ s i

  opened_bytes_cong : {c c' : ℕ} {a a' b b' : ℕ → ℕ} → c ≡ c' → ((j : ℕ) → j < m1 → a j ≡ a' j) → ((j : ℕ) → j < m1 → b j ≡ b' j)
      → opened_bytes 𝓢 c a b ≡ opened_bytes 𝓢 c' a' b'
  opened_bytes_cong p q r =
      λ i. bytes_of wide (p i) ++ rows_cong m1 (λ j l. ap (bytes_of wide) (q j l)) i ++ rows_cong m1 (λ j l. ap (bytes_of wide) (r j l)) i

  pub h3_part_cong : {c c' : ℕ} {a a' b b' : ℕ → ℕ} {u u' : ℕ → ℕ} {v v' w w' : ℕ → ℕ → ℕ} → c ≡ c' → ((j : ℕ) → j < m1 → a j ≡ a' j)
      → ((j : ℕ) → j < m1 → b j ≡ b' j) → ((i : ℕ) → i < parties → u i ≡ u' i) → ((i j : ℕ) → i < parties → j < m1 → v i j ≡ v' i j)
      → ((i j : ℕ) → i < parties → j < m1 → w i j ≡ w' i j) → h3_part 𝓢 c a b u v w ≡ h3_part 𝓢 c' a' b' u' v' w'
  unfolding h3_part
  h3_part_cong p q r s t y =
      ap₂ ◌++◌ (opened_bytes_cong p q r) (rows_cong parties (λ i l. opened_bytes_cong (s i l) (λ j m. t i j l m) (λ j m. y i j l m)))

  pub first_hash_cong : (public_key message salt : List ℕ) {f g : ℕ → List ℕ} → ((e : ℕ) → e < executions → f e ≡ g e)
      → first_hash 𝓢 public_key message salt f ≡ first_hash 𝓢 public_key message salt g
  unfolding first_hash
  first_hash_cong public_key message salt h =
      ap (λ s. 𝓢.hash (first_input public_key message salt ++ s) 32) (rows_cong executions h)

  pub second_hash_cong : (h1 : List ℕ) {f g : ℕ → List ℕ} → ((e : ℕ) → e < executions → f e ≡ g e) → second_hash 𝓢 h1 f ≡ second_hash 𝓢 h1 g
  unfolding second_hash
  second_hash_cong h1 h = ap (λ s. 𝓢.hash (2 ∷ (h1 ++ s)) 32) (rows_cong executions h)

  pub third_hash_cong : (h2 : List ℕ) {f g : ℕ → List ℕ} → ((e : ℕ) → e < executions → f e ≡ g e) → third_hash 𝓢 h2 f ≡ third_hash 𝓢 h2 g
  unfolding third_hash
  third_hash_cong h2 h = ap (λ s. 𝓢.hash (3 ∷ (h2 ++ s)) 32) (rows_cong executions h)

  pub first_challenge_bytes : (h1 : List ℕ) (e : ℕ) → Bytes (first_challenge 𝓢 h1 e)
  unfolding first_challenge
  first_challenge_bytes h1 e = part_bytes (e * (m1 * wide)) (m1 * wide) _ (L.hash_sized _ _).bytes

  pub wide_second_challenge : (h2 : List ℕ) (e : ℕ) → Wide 𝓢 (second_challenge 𝓢 h2 e)
  unfolding second_challenge evaluation_point
  wide_second_challenge h2 e = go _ (wide_number 𝓢 L e (L.hash_sized _ _).bytes)
    where
      go : (x : ℕ) → Wide 𝓢 x → Wide 𝓢 (choose (ltb x m2) (x + m2) x)
      go x h = cases (dec_lt x m2)
        where
          cases : Dec (x < m2) → Wide 𝓢 (choose (ltb x m2) (x + m2) x)
          cases (yes l) = rw (lt-ltb x m2 l) (let p = L.enough_points in omega arith)
          cases (no l) = rw (le-ltb x m2 (omega arith)) h

  pub hidden_lt : (h3 : List ℕ) (e : ℕ) → hidden_party 𝓢 h3 e < parties
  unfolding hidden_party party_of
  hidden_lt h3 e = mod-lt _ L.some_party
