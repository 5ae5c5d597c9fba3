-- `write_card::join` meets its contract: each part stands where the one before ends. Assumes nothing.
use mathlib.Core.Path.{refl}
use borrow.Author.Rules.{rules}
use Rattle.write_card.proofs.Laws.{joined}
use Rattle.write_card.proofs.join.Statement.{statement}
use Rattle.write_card.proofs.join.Tie as tie

returns : tie.Need-returns
returns c =
    let third = c in
    let second = third in
    let first = second in
    let s = first in (
      refl,
      joined s.args.public.now s.args.message.now s.args.signature.now s.args.bytes.now first.copy_at.ensures
          first.copy_at.auto.dst second.copy_at-2.ensures second.copy_at-2.auto.dst third.copy_at-3.ensures third.copy_at-3.auto.dst,
    )

pub join_spec : {M : Type 1} → statement M
join_spec =
    tie.close
    (tie.spec (λ c. search rules) (λ c κs. search rules) (λ c κs. search rules) (λ c κs. search rules) (λ c. search rules) (λ c. search rules)
    returns)
