-- `hash_sums::add_hash` meets its contract: the scratch holds the hash, which is added. Assumes nothing.
use borrow.Author.Rules.{rules}
use Rattle.hash_sums.proofs.add_hash.Statement.{statement}
use Rattle.hash_sums.proofs.add_hash.Tie as tie

returns : tie.Need-returns
returns c =
    let x = c in
    let h = x in
    let s = h in
    rw (← s.requires.2, ← h.hash.ensures) x.xor_into.ensures

pub add_hash_spec : {M : Type 1} → statement M
add_hash_spec =
    tie.close (tie.spec (λ c κs. search rules) (λ c κs. search rules) (λ c. search rules) (λ c. search rules) returns)
