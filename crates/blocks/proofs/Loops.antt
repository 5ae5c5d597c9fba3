-- The loop over AES's rounds: what it has written after n turns, for any round keys f, any states E and any output o, AES's own or a party's
-- shares of them. Assumes nothing.
use mathlib.Core.Path.{◌≡◌, refl, sym, ap, ap₂, ◌∙◌, subst}
use mathlib.Core.List.{List, ◌++◌, append_assoc}
use Prim.Native.Nat.{ℕ, suc, ◌+◌, ◌*◌, ◌<◌, ◌≤◌}
use native.Mathlib.Numerals.{add-one}
use native.Mathlib.Decide.{ℕ_discrete}
use native.Mathlib.Omega.{arith}
use lib.ListN.{length, take, drop, length-append, length-drop, take-append-drop}
use lib.Seq.{take-append-le, drop-append-le, take-append-add, drop-append-add, length-take-le}
use Rattle.slices.specs.Lists.{put, rows}
use Rattle.slices.specs.Tab.{tab_cong, tab_sized, get_d_rows}
use Rattle.slices.proofs.Put.{length_put}
use Rattle.slices.proofs.Rows.{Stacking, stacking_none, stacking_more, stacking_all}
use Rattle.aes.specs.Aes.{block, key_input, key_inputs}

-- ---- a list put into the first or the second of two parts

put_first : (a b : List ℕ) (at : ℕ) (s : List ℕ) → at + length s ≤ length a → put (a ++ b) at s ≡ put a at s ++ b
unfolding put
put_first a b at s h =
    rw (take-append-le at a b (omega arith), drop-append-le (at + length s) a b h) (simp append_assoc)

put_second : (a b : List ℕ) (at : ℕ) (s : List ℕ) → put (a ++ b) (length a + at) s ≡ a ++ put b at s
unfolding put
put_second a b at s =
    let e : length a + at + length s ≡ length a + (at + length s) = omega arith in
    rw (e, take-append-add a b at, drop-append-add a b (at + length s)) (simp append_assoc)

-- one into each
put_each : (a b : List ℕ) (m i j : ℕ) (s t : List ℕ) {l l' l'' : List ℕ} → l ≡ a ++ b → length a ≡ m → i + length s ≤ m → l' ≡ put l i s
    → l'' ≡ put l' (m + j) t → l'' ≡ put a i s ++ put b j t
put_each a b m i j s t e size h p q =
    let room : i + length s ≤ length a = omega arith in
    q ∙ ap (λ (l : List ℕ). put l (m + j) t) (p ∙ ap (λ (l : List ℕ). put l i s) e ∙ put_first a b i s room)
    ∙ ap (λ (n : ℕ). put (put a i s ++ b) (n + j) t) (sym (length_put a i s room ∙ size)) ∙ put_second (put a i s) b j t

-- ---- before turn n, k is round key n and x is state n, or the output after the last; what the S-boxes were given before is written, the key
-- schedule's into the first 40 and the rounds' into the rest

pub record Running (f E : ℕ → List ℕ) (o : List ℕ) (n : ℕ) (k x inputs : List ℕ) : Type 0 where
  pub upto : n ≤ 10
  pub key : k ≡ f n
  pub size : length x ≡ 16
  pub state : n < 10 → x ≡ E n
  pub output : 10 ≤ n → x ≡ o
  pub long : length inputs ≡ 200
  pub first : List ℕ
  pub second : List ℕ
  pub both : inputs ≡ first ++ second
  pub words : Stacking (λ j. key_input (f j)) 4 n 40 first
  pub states : Stacking E 16 n 160 second

module _ {f E : ℕ → List ℕ} {o : List ℕ} (sizes : (n : ℕ) → length (E n) ≡ 16) (last : length o ≡ 16) where
  pub running_none : {k x inputs : List ℕ} → k ≡ f 0 → x ≡ E 0 → length inputs ≡ 200 → Running f E o 0 k x inputs
  running_none {k} {x} {inputs} e q h =
      record {
        upto = omega arith;
        key = e;
        size = ap length q ∙ sizes 0;
        state = λ l. q;
        output = λ l. absurd (omega arith);
        long = h;
        first = take 40 inputs;
        second = drop 40 inputs;
        both = sym (take-append-drop 40 inputs);
        words = stacking_none (λ j. key_input (f j)) 4 (length-take-le 40 inputs (omega arith));
        states = stacking_none E 16 (length-drop 40 inputs ∙ omega arith);
      }

  pub running_more : {n : ℕ} {k k' x x' t inputs inputs' inputs'' : List ℕ} → Running f E o n k x inputs → n < 10
      → t ≡ key_input k → inputs' ≡ put inputs (n * 4) t → inputs'' ≡ put inputs' (40 + n * 16) x → k' ≡ f (suc n)
      → (n < 9 → x' ≡ E (suc n)) → (n ≡ 9 → x' ≡ o) → Running f E o (n + 1) k' x' inputs''
  running_more {n} {k} {k'} {x} {x'} {t} {inputs} {inputs'} {inputs''} r h e p q key state output =
      let four : length t ≡ 4 = ap length e in
      let words = stacking_more r.words four (e ∙ ap key_input r.key) (omega arith) refl in
      let states = stacking_more r.states r.size (r.state h) (omega arith) refl in
      let both = put_each r.first r.second 40 (n * 4) (n * 16) t x r.both r.words.long (omega arith) p q in
      record {
        upto = omega arith;
        key = rw add-one key;
        size = sized (ℕ_discrete n 9);
        state = λ l. rw add-one (state (omega arith));
        output = λ l. output (omega arith);
        long = ap length both ∙ length-append (put r.first (n * 4) t) (put r.second (n * 16) x) ∙ ap₂ ◌+◌ words.long states.long;
        first = put r.first (n * 4) t;
        second = put r.second (n * 16) x;
        both = both;
        words = words;
        states = states;
      }
    where
      sized : Dec (n ≡ 9) → length x' ≡ 16
      sized (yes e) = ap length (output e) ∙ last
      sized (no ne) = ap length (state (omega arith)) ∙ sizes (suc n)

module _ {f E : ℕ → List ℕ} {o : List ℕ} where
  pub running_inputs : {n : ℕ} {k x inputs : List ℕ} → Running f E o n k x inputs → 10 ≤ n → inputs ≡ key_inputs f ++ rows E 10
  unfolding key_inputs
  running_inputs {n} {k} {x} {inputs} r h =
      let e : n ≡ 10 = omega (arith, r.upto) in
      let s = subst (λ (m : ℕ). Running f E o m k x inputs) e r in
      s.both ∙ ap₂ ◌++◌ (stacking_all s.words (omega arith)) (stacking_all s.states (omega arith))

-- ---- round key n is block n of the expanded key

pub key_block : (f : ℕ → List ℕ) → ((n : ℕ) → length (f n) ≡ 16) → (n : ℕ) → n < 11 → block (rows f 11) n ≡ f n
key_block f sizes n h = tab_cong 16 (λ i l. get_d_rows 16 f 11 (λ j m. sizes j) n i h l) ∙ tab_sized (f n) (sizes n)
