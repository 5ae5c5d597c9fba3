-- `circuit_shares::own` meets its contract. Assumes nothing.
use borrow.Author.Rules.{rules}
use Rattle.circuit_shares.proofs.Laws.{own_first, own_other}
use Rattle.circuit_shares.proofs.own.Statement.{statement}
use Rattle.circuit_shares.proofs.own.Tie as tie

-- ---- earlier moments

abbrev start-before-then1 : tie.Then-i-ne0 → tie.Start
start-before-then1 c = c.before.before.before.before.before.before.before.before

abbrev start-before-else1 : tie.Else-i-ne0 → tie.Start
start-before-else1 c = c.before.before.before.before.before.before.before.before

returns : tie.Need-returns-then-i-ne0
returns c =
    let s = start-before-then1 c in
    own_other s.args.offset.now c.copy.ensures c.if-i-ne0.true

returns-2 : tie.Need-returns
returns-2 c =
    let x = c in
    let test = x.before.before.before.before in
    let s = start-before-else1 test in
    own_first s.args.offset.now test.copy.ensures test.if-i-ne0.false x.xor_into.ensures

pub own_spec : {M : Type 1} → statement M
own_spec =
    tie.close
    (tie.spec (λ c κs. search rules) (λ c. search rules) returns (λ c κs. search rules) (λ c. search rules) returns-2)
