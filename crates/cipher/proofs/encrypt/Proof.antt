-- `cipher::encrypt` writes what the S-boxes are given, a round a turn. Assumes nothing.
use mathlib.Core.Path.{◌≡◌, ◌∙◌, sym, ap, ap₂}
use mathlib.Core.List.{List, map}
use Prim.Native.Nat.{ℕ, suc, ◌-◌, ◌<◌}
use native.Mathlib.Omega.{arith}
use lib.ListN.{length, get_or}
use borrow.Author.Rules.{rules}
use Rattle.slices.specs.Lists.{tab}
use Rattle.slices.specs.Tab.{tab_map}
use Rattle.aes.specs.Aes.{
  add,
  block,
  sbox,
  sub_bytes,
  shift_rows,
  mix_columns,
  rcon,
  sub_word,
  next_key,
  key_input,
  round_key,
  key_expansion,
  entering,
  cipher,
  aes,
  sbox_inputs,
}
use Rattle.aes.proofs.Sizes.{length_round_key, length_entering, length_aes}
use Rattle.blocks.proofs.Loops.{Running, running_none, running_more, running_inputs, key_block}
use Rattle.cipher.proofs.encrypt.Statement.{statement}
use Rattle.cipher.proofs.encrypt.Tie as tie

-- ---- a turn's round key and state in the words of the definitions

module _ (key p : List ℕ) where
  abbrev states : ℕ → List ℕ
  states = entering (key_expansion key) p

  first_state : {x b k : List ℕ} → x ≡ add 16 b k → b ≡ block p 0 → k ≡ block key 0 → x ≡ states 0
  unfolding entering key_expansion round_key
  first_state e q r = e ∙ ap₂ (add 16) q r

  next_key_lem : (n : ℕ) {k k' : List ℕ} → k ≡ round_key key n → k' ≡ next_key k (add 4 (sub_word (key_input k)) (rcon n)) → k' ≡ round_key key (suc n)
  unfolding round_key
  next_key_lem n e q = q ∙ ap (λ (k : List ℕ). next_key k (add 4 (sub_word (key_input k)) (rcon n))) e

  module _ (n : ℕ) {x y k : List ℕ} (at : x ≡ states n) (sub : y ≡ map sbox x) (next : k ≡ round_key key (suc n)) where
    substituted : y ≡ sub_bytes (states n)
    substituted =
        sub ∙ sym (tab_map sbox x)
        ∙ ap₂ (λ (x : List ℕ) (m : ℕ). tab (λ i. sbox (get_or x i 0)) m) at (ap length at ∙ length_entering (key_expansion key) p n)

    added : n < 10 → k ≡ block (key_expansion key) (suc n)
    unfolding key_expansion
    added h = next ∙ sym (key_block (round_key key) (length_round_key key) (suc n) (omega arith))

    next_state : {r : List ℕ} → n < 9 → r ≡ add 16 (mix_columns (shift_rows y)) k → r ≡ states (suc n)
    unfolding entering
    next_state h e = e ∙ ap₂ (λ (u v : List ℕ). add 16 (mix_columns (shift_rows u)) v) substituted (added (omega arith))

    last_state : {r : List ℕ} → n ≡ 9 → r ≡ add 16 (shift_rows y) k → r ≡ aes key p
    unfolding aes cipher
    last_state h e =
        e ∙ ap₂ (λ (u v : List ℕ). add 16 (shift_rows u) v) substituted (added (omega arith))
        ∙ ap (λ (m : ℕ). add 16 (shift_rows (sub_bytes (states m))) (block (key_expansion key) (suc m))) h

-- ---- the loop

abbrev invariant-loop : tie.invariant-loop-n
invariant-loop key plaintext inputs₀ k₀ x₀ n₀ inputs k x n =
    Running (round_key key) (entering (key_expansion key) plaintext) (aes key plaintext) n k x inputs

abbrev decreases-loop : tie.decreases-loop-n
decreases-loop key plaintext inputs₀ k₀ x₀ n₀ inputs k x n = 10 - n

-- ---- earlier moments

abbrev start-before-loop : tie.At-loop-n invariant-loop decreases-loop → tie.Start invariant-loop decreases-loop
start-before-loop c = c.before.before.before.before.before.before.before

loop-holds : tie.Need-loop-n-init invariant-loop decreases-loop
unfolding round_key
loop-holds c =
    let p = c in
    let k = p in
    let args = k.args in
    running_none (length_entering _ _) (length_aes _ _) k.block_at-k.ensures
    (first_state args.key.now args.plaintext.now c.add_blocks-x.ensures p.block_at.ensures k.block_at-k.ensures) (omega arith)

loop-again : tie.Need-loop-n-preserved invariant-loop decreases-loop
loop-again c =
    let y = c in
    let next = y in
    let second = next in
    let first = second in
    let word = first in
    let at = word.before.before.before.before.before.before.before.before.before.before.before.before.before.before.before.before.before in
    let args = (start-before-loop at).args in
    let turn = at.loop-n.invariant in
    let less : at.loop-n.n < 10 = omega arith in
    let k = next_key_lem args.key.now args.plaintext.now at.loop-n.n turn.key next.next_round_key-next.ensures in
    let state = turn.state less in
    running_more (length_entering _ _) (length_aes _ _) turn less word.key_input.ensures first.copy_at.ensures second.copy_at-in-loop-n.ensures k
    (λ l. next_state args.key.now args.plaintext.now at.loop-n.n state y.substitute.ensures k l (c.round-x.ensures.0 l))
    (λ e. last_state args.key.now args.plaintext.now at.loop-n.n state y.substitute.ensures k e (c.round-x.ensures.1 e))

returns : tie.Need-returns invariant-loop decreases-loop
unfolding sbox_inputs
returns c =
    let turn = c.loop-n.invariant in
    (turn.output (omega arith), running_inputs turn (omega arith))

pub encrypt_spec : {M : Type 1} → statement M
encrypt_spec =
    tie.close
    (tie.spec invariant-loop decreases-loop (λ c κs. search rules) (λ c κs. search rules) (λ c κs. search rules) loop-holds (λ c. search rules)
    (λ c κs. search rules) (λ c. search rules) (λ c κs. search rules) (λ c. search rules) (λ c. search rules) (λ c. search rules)
    (λ c κs. search rules) (λ c κs. search rules) (λ c. search rules) (λ c κs. search rules) (λ c κs. search rules) (λ c. search rules)
    (λ c. search rules) loop-again (λ c. search rules) returns)
