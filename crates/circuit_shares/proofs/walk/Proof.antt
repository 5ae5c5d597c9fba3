-- `circuit_shares::walk` meets its contract: the party's shares go through the circuit. Assumes nothing.
use mathlib.Core.Path.{sym, ◌∙◌}
use borrow.Author.Rules.{rules}
use Rattle.sets.specs.Circuit.{sboxes_200}
use Rattle.tapes.proofs.Laws.{part_long}
use Rattle.circuit_shares.proofs.Laws.{one_small, walked}
use Rattle.circuit_shares.proofs.walk.Statement.{statement}
use Rattle.circuit_shares.proofs.walk.Tie as tie

own-requires : tie.Need-own-requires
own-requires c κs =
    (part_long c.args.set.valid 0 c.args.tape.now c.requires.3 c.tape_part.ensures, c.requires.1)

own-requires-2 : tie.Need-own-requires-2
own-requires-2 c κs =
    let v = c.args.set.valid in
    let long = part_long v 1 c.args.tape.now c.requires.3 c.tape_part-2.ensures in
    (long ∙ sym c.requires.4, c.requires.2 ∙ sym c.requires.4)

aes-circuit-requires : tie.Need-aes_circuit-requires
aes-circuit-requires c κs =
    let v = c.args.set.valid in (
      one_small c.args.i c.one.ensures,
      (
        search rules,
        (
          c.requires.0 ∙ v.plaintext,
          (c.own-2.auto.out ∙ c.requires.4 ∙ sboxes_200 v, c.requires.5 ∙ sboxes_200 v),
        ),
      ),
    )

returns : tie.Need-returns
returns c =
    let a = c.args in
    walked c.args.set.valid a.front.now a.key.now a.inverse.now a.tape.now a.i c.one.ensures c.tape_part.ensures
    c.own.ensures c.tape_part-2.ensures c.own-2.ensures c.aes_circuit.ensures.0 c.aes_circuit.ensures.1

pub walk_spec : {M : Type 1} → statement M
walk_spec =
    tie.close
    (tie.spec (λ c κs. search rules) (λ c. search rules) own-requires (λ c κs. search rules) own-requires-2 (λ c κs. search rules)
    (λ c. search rules) aes-circuit-requires (λ c. search rules) (λ c. search rules) returns)
