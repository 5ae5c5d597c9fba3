-- `key_schedule::next_key` fills a round key byte by byte, each with the byte of the word before it. Assumes nothing.
use mathlib.Core.Path.{◌≡◌, refl, sym, ap, ap₂, ◌∙◌}
use mathlib.Core.Logic.{⊎_elim}
use mathlib.Core.List.{List}
use Prim.Native.Nat.{ℕ, suc, ◌+◌, ◌-◌, ◌*◌, ◌/◌, ◌%◌, ◌<◌, ◌≤◌}
use native.Mathlib.Omega.{arith}
use lib.Bits.{bit_xor}
use lib.ListN.{get_or, drop, get_or-append}
use borrow.Author.Rules.{rules}
use Rattle.slices.specs.Lists.{tab}
use Rattle.slices.specs.Tab.{get_d_tab, length_tab}
use Rattle.slices.proofs.Fill.{Filling, filling_none, filling_more, filling_all}
use Rattle.aes.specs.Aes.{add, word, next_word}
use Rattle.key_schedule.proofs.next_key.Statement.{statement}
use Rattle.key_schedule.proofs.next_key.Tie as tie

-- byte i of the round key
abbrev byte : List ℕ → List ℕ → ℕ → ℕ
byte k temp i = get_or (next_word k temp (i / 4)) (i % 4) 0

-- byte j of a word of k plus another word
sum_byte : (k w : List ℕ) (m j : ℕ) → j < 4 → get_or (add 4 (word k m) w) j 0 ≡ bit_xor (get_or k (m * 4 + j) 0) (get_or w j 0)
sum_byte k w m j h =
    get_d_tab (λ i. bit_xor (get_or (word k m) i 0) (get_or w i 0)) 4 j 0 h
    ∙ ap (λ (x : ℕ). bit_xor x (get_or w j 0)) (get_d_tab (λ i. get_or k (m * 4 + i) 0) 4 j 0 h)

first_word : (k temp : List ℕ) (i : ℕ) → i < 4 → bit_xor (get_or k i 0) (get_or temp i 0) ≡ byte k temp i
first_word k temp i h =
    let q : i / 4 ≡ 0 = omega arith in
    let r : i % 4 ≡ i = omega arith in
    let e : 0 * 4 + i ≡ i = omega arith in
    sym (ap₂ (λ (n j : ℕ). get_or (next_word k temp n) j 0) q r ∙ sum_byte k temp 0 i h ∙ ap (λ (x : ℕ). bit_xor (get_or k x 0) (get_or temp i 0)) e)

next_word_lem : (k temp : List ℕ) (i : ℕ) → 4 ≤ i → bit_xor (get_or k i 0) (byte k temp (i - 4)) ≡ byte k temp i
next_word_lem k temp i h =
    let n = (i - 4) / 4 in
    let j = (i - 4) % 4 in
    let q : i / 4 ≡ suc n = omega arith in
    let r : i % 4 ≡ j = omega arith in
    let e : suc n * 4 + j ≡ i = omega arith in
    sym (ap₂ (λ (n j : ℕ). get_or (next_word k temp n) j 0) q r ∙ sum_byte k (next_word k temp n) (suc n) j (omega arith)
    ∙ ap (λ (x : ℕ). bit_xor (get_or k x 0) (byte k temp (i - 4))) e)

-- what is replaced is there
filled : {f : ℕ → ℕ} {m : ℕ} {d l : List ℕ} {i j : ℕ} → Filling f m d i l → j < i → get_or l j 0 ≡ f j
filled {f} {m} {d} {l} {i} {j} w h =
    rw w.is (get_or-append (tab f i) (drop i d) 0 j (rw (length_tab f i) h) ∙ get_d_tab f i j 0 h)

abbrev invariant-loop : tie.invariant-loop-i
invariant-loop k temp out₀ i₀ out i = Filling (byte k temp) 16 out₀ i out

abbrev decreases-loop : tie.decreases-loop-i
decreases-loop k temp out₀ i₀ out i = 16 - i

loop-holds : tie.Need-loop-i-init invariant-loop decreases-loop
loop-holds c = filling_none refl

loop-again : tie.Need-loop-i-preserved invariant-loop decreases-loop
loop-again c =
    let at = c in
    let k = at.args.k in
    let temp = at.args.temp in
    let i = at.loop-i.i in
    filling_more at.loop-i.invariant (omega arith)
    (⊎_elim (λ w. ap (bit_xor (get_or k i 0)) w.before-is ∙ first_word k temp i w.if-i-lt4.true)
    (λ w. ap (bit_xor (get_or k i 0)) (w.before-is ∙ filled at.loop-i.invariant (omega arith)) ∙ next_word_lem k temp i (omega arith)) c.if-i-lt4.branch-raw)

returns : tie.Need-returns invariant-loop decreases-loop
returns c = filling_all c.loop-i.invariant (omega arith)

pub next_key_spec : {M : Type 1} → statement M
next_key_spec =
    tie.close
    (tie.spec invariant-loop decreases-loop loop-holds (λ c. search rules) (λ c. search rules) (λ c. search rules) (λ c. search rules) (λ c. search rules)
    (λ c. search rules) loop-again returns)
