-- `signer::byte_offsets` meets its contract. Assumes nothing.
use mathlib.Core.Path.{sym, ap, ◌∙◌}
use borrow.Author.Rules.{rules}
use Rattle.slices.specs.Lists.{zip_xor}
use Rattle.tapes.proofs.Laws.{part_long}
use Rattle.signer.proofs.byte_offsets.Statement.{statement}
use Rattle.signer.proofs.byte_offsets.Tie as tie

-- ---- earlier moments

abbrev start-before-tape-part2 : tie.After-tape_part-2 → tie.Start
start-before-tape-part2 c = c.before.before.before.before.before.before.before.before.before.before.before

offset-of-requires : tie.Need-offset_of-requires
offset-of-requires c κs =
    let at_tape_part = c in
    let s = at_tape_part in
    (s.requires.0 ∙ sym s.requires.3, part_long s.args.set.valid 0 s.args.sum.now s.requires.2 at_tape_part.tape_part.ensures ∙ sym s.requires.3)

offset-of-requires-2 : tie.Need-offset_of-requires-2
offset-of-requires-2 c κs =
    let at_tape_part2 = c.before in
    let s = start-before-tape-part2 at_tape_part2 in (
      s.requires.1 ∙ sym s.requires.4,
      part_long s.args.set.valid 1 s.args.sum.now s.requires.2 at_tape_part2.tape_part-2.ensures ∙ sym s.requires.4,
    )

returns : tie.Need-returns
returns c =
    let at_offset_of2 = c in
    let at_tape_part2 = at_offset_of2 in
    let at_offset_of = at_tape_part2 in
    let at_tape_part = at_offset_of in
    let s = at_tape_part in (
      at_offset_of.offset_of.ensures ∙ ap (zip_xor s.args.key.now) at_tape_part.tape_part.ensures,
      at_offset_of2.offset_of-2.ensures ∙ ap (zip_xor s.args.inverses.now) at_tape_part2.tape_part-2.ensures,
    )

pub byte_offsets_spec : {M : Type 1} → statement M
byte_offsets_spec =
    tie.close
    (tie.spec (λ c κs. search rules) offset-of-requires (λ c κs. search rules) offset-of-requires-2 (λ c. search rules) (λ c. search rules) returns)
