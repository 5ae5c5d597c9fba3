-- `shares::rounds` writes the shares of what the S-boxes are given, a round a turn. Assumes nothing.
use mathlib.Core.Path.{◌≡◌, refl, ◌∙◌, sym, ap, ap₂}
use mathlib.Core.List.{List}
use Prim.Native.Nat.{ℕ, suc, ◌-◌, ◌<◌}
use native.Mathlib.Omega.{arith}
use lib.ListN.{length, take, drop, length-drop}
use lib.Seq.{take_all}
use borrow.Author.Rules.{rules}
use Rattle.aes.specs.Aes.{add, word, block, shift_rows, mix_columns, rcon, next_key}
use Rattle.blocks.proofs.Loops.{Running, running_none, running_more, running_inputs, key_block}
use Rattle.circuit.specs.Circuit.{public, round_key_share, expansion_share, entering_share, cipher_share}
use Rattle.circuit.proofs.Sizes.{length_round_key_share, length_entering_share}
use Rattle.shares.proofs.rounds.Statement.{statement}
use Rattle.shares.proofs.rounds.Tie as tie

-- ---- a turn's shares in the words of the definitions

module _ (one : ℕ) (key plaintext z : List ℕ) where
  abbrev expanded : List ℕ
  expanded = expansion_share one key z

  abbrev states : ℕ → List ℕ
  states = entering_share expanded (public one 16 plaintext) (drop 40 z)

  abbrev output : List ℕ
  output = cipher_share expanded (drop 40 z)

  length_output : length output ≡ 16
  unfolding cipher_share
  length_output = refl

  first_state : {x p k : List ℕ} → x ≡ add 16 p k → p ≡ public one 16 plaintext → k ≡ block key 0 → x ≡ states 0
  unfolding entering_share expansion_share round_key_share
  first_state e q r = e ∙ ap₂ (add 16) q r

  next_key_lem : (n : ℕ) {k k' : List ℕ} → k ≡ round_key_share one key z n → k' ≡ next_key k (add 4 (word z n) (public one 4 (rcon n)))
      → k' ≡ round_key_share one key z (suc n)
  unfolding round_key_share
  next_key_lem n e q = q ∙ ap (λ (k : List ℕ). next_key k (add 4 (word z n) (public one 4 (rcon n)))) e

  module _ (n : ℕ) {y k : List ℕ} (size : length z ≡ 200) (sub : y ≡ block (take 160 (drop 40 z)) n) (next : k ≡ round_key_share one key z (suc n)) where
    substituted : y ≡ block (drop 40 z) n
    substituted = sub ∙ ap (λ (s : List ℕ). block s n) (take_all 160 (drop 40 z) (omega (arith, length-drop 40 z)))

    added : n < 10 → k ≡ block expanded (suc n)
    unfolding expansion_share
    added h = next ∙ sym (key_block (round_key_share one key z) (length_round_key_share one key z) (suc n) (omega arith))

    next_state : {r : List ℕ} → n < 9 → r ≡ add 16 (mix_columns (shift_rows y)) k → r ≡ states (suc n)
    unfolding entering_share
    next_state h e = e ∙ ap₂ (λ (u v : List ℕ). add 16 (mix_columns (shift_rows u)) v) substituted (added (omega arith))

    last_state : {r : List ℕ} → n ≡ 9 → r ≡ add 16 (shift_rows y) k → r ≡ output
    unfolding cipher_share
    last_state h e =
        e ∙ ap₂ (λ (u v : List ℕ). add 16 (shift_rows u) v) substituted (added (omega arith))
        ∙ ap (λ (m : ℕ). add 16 (shift_rows (block (drop 40 z) m)) (block expanded (suc m))) h

-- ---- the loop

abbrev invariant-loop : tie.invariant-loop-n
invariant-loop one key plaintext z inputs₀ k₀ x₀ n₀ inputs k x n =
    (length z ≡ 200) × Running (round_key_share one key z) (states one key plaintext z) (output one key plaintext z) n k x inputs

abbrev decreases-loop : tie.decreases-loop-n
decreases-loop one key plaintext z inputs₀ k₀ x₀ n₀ inputs k x n = 10 - n

-- ---- earlier moments

abbrev start-before-loop : tie.At-loop-n invariant-loop decreases-loop → tie.Start invariant-loop decreases-loop
start-before-loop c = c.before.before.before.before.before.before.before.before

loop-holds : tie.Need-loop-n-init invariant-loop decreases-loop
unfolding round_key_share
loop-holds c =
    let p = c in
    let k = p in
    let start = k in
    let one = start.args.one in
    let key = start.args.key.now in
    let plaintext = start.args.plaintext.now in
    let z = start.args.z.now in (
      omega (arith, start.requires),
      running_none (length_entering_share _ _ _) (length_output one key plaintext z) k.block_at-k.ensures
          (first_state one key plaintext z c.add_blocks-x.ensures p.public_share.ensures k.block_at-k.ensures)
          (omega (arith, start.requires)),
    )

loop-again : tie.Need-loop-n-preserved invariant-loop decreases-loop
loop-again c =
    let y = c in
    let next = y in
    let second = next in
    let first = second in
    let word = first in
    let at = word.before.before.before.before.before.before.before.before.before.before.before.before.before.before.before.before in
    let start = start-before-loop at in
    let one = start.args.one in
    let key = start.args.key.now in
    let plaintext = start.args.plaintext.now in
    let z = start.args.z.now in
    let n = at.loop-n.n in
    let size = at.loop-n.invariant.0 in
    let turn = at.loop-n.invariant.1 in
    let less : n < 10 = omega arith in
    let k = next_key_lem one key plaintext z n turn.key next.next_key_share-next.ensures in (
      size,
      running_more (length_entering_share _ _ _) (length_output one key plaintext z) turn less word.key_input.ensures first.copy_at.ensures
          second.copy_at-in-loop-n.ensures k (λ l. next_state one key plaintext z n size y.block_at.ensures k l (c.round-x.ensures.0 l))
          (λ e. last_state one key plaintext z n size y.block_at.ensures k e (c.round-x.ensures.1 e)),
    )

returns : tie.Need-returns invariant-loop decreases-loop
returns c =
    let turn = c.loop-n.invariant.1 in
    (turn.output (omega arith), running_inputs turn (omega arith))

pub rounds_spec : {M : Type 1} → statement M
rounds_spec =
    tie.close
    (tie.spec invariant-loop decreases-loop (λ c κs. search rules) (λ c κs. search rules) (λ c κs. search rules) loop-holds (λ c. search rules)
    (λ c κs. search rules) (λ c. search rules) (λ c κs. search rules) (λ c. search rules) (λ c. search rules) (λ c. search rules)
    (λ c κs. search rules) (λ c κs. search rules) (λ c. search rules) (λ c. search rules) (λ c. search rules) (λ c κs. search rules)
    (λ c κs. search rules) (λ c. search rules) (λ c. search rules) loop-again (λ c. search rules) returns)
