-- `vectors_card::main`: the texts are as long as their rooms, and of each no more is counted. Assumes nothing.
use Rattle.std.proofs.Common.{◌≡◌, ◌≤◌, length}
use Rattle.vectors_card.proofs.main.Given as goal

abbrev pub invariant-loop : goal.invariant-loop
invariant-loop l = (length l.whole ≡ 106000) × (length l.text ≡ 106000) × (l.counts.whole ≤ 106000) × (l.counts.now ≤ 106000)
