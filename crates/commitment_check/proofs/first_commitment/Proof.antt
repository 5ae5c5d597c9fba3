-- `commitment_check::first_commitment` meets its contract. Assumes nothing.
use mathlib.Core.Path.{◌∙◌}
use native.Mathlib.Omega.{arith}
use borrow.Author.Rules.{rules}
use Rattle.stated.proofs.Laws.{transcript_fits, field_size}
use Rattle.commitment_check.proofs.Commitments.{all_hashed, differing}
use Rattle.commitment_check.proofs.first_commitment.Statement.{statement}
use Rattle.commitment_check.proofs.first_commitment.Tie as tie

abbrev start : tie.After-transcript_sizes-sizes → tie.Start
start z = z.before.before.before.before

abbrev sized : tie.After-hash_rows → tie.After-transcript_sizes-sizes
sized h = h.before.before.before.before

abbrev hashed : tie.After-sizes-2-1 → tie.After-hash_rows
hashed c = c.before.before.before

field-requires : tie.Need-field-requires
field-requires c κs =
    let z = c.before in
    let s = start z in
    transcript_fits s.args.set.valid s.args.transcript.now z.transcript_sizes-sizes.ensures s.requires.0 _ (omega arith)

hash-rows-requires : tie.Need-hash_rows-requires
hash-rows-requires c κs =
    let f = c in
    let z = f.before.before.before in
    let s = start z in (
      field_size s.args.set.shape s.args.transcript.now 0 z.transcript_sizes-sizes.ensures s.requires.0 f.field.ensures,
      omega (arith, s.args.set.valid.few),
      s.requires.2,
      s.requires.3,
    )

field-requires-2 : tie.Need-field-stated-requires
field-requires-2 c κs =
    let z = sized (hashed c) in
    let s = start z in
    transcript_fits s.args.set.valid s.args.transcript.now z.transcript_sizes-sizes.ensures s.requires.0 _ (omega arith)

first-difference-requires : tie.Need-first_difference-requires
first-difference-requires c κs =
    let g = c in
    let h = hashed g.before in
    let z = sized h in
    let s = start z in (
      h.hash_rows.auto.out ∙ s.requires.3,
      field_size s.args.set.shape s.args.transcript.now 2 z.transcript_sizes-sizes.ensures s.requires.0 g.field-stated.ensures,
    )

returns : tie.Need-returns
returns c =
    let g = c in
    let h = hashed g.before.before in
    let z = sized h in
    let s = start z in
    let f = h in (
      differing s.args.set.shape s.args.transcript.now s.args.seeds.now s.args.e z.transcript_sizes-sizes.ensures f.field.ensures
          h.hash_rows.ensures s.args.hidden g.field-stated.ensures c.first_difference.ensures,
      all_hashed s.args.set.shape s.args.transcript.now s.args.seeds.now s.args.e z.transcript_sizes-sizes.ensures f.field.ensures
          h.hash_rows.ensures,
    )

pub first_commitment_spec : {M : Type 1} → statement M
first_commitment_spec =
    tie.close
    (tie.spec (λ c κs. search rules) (λ c. search rules) field-requires hash-rows-requires (λ c. search rules) field-requires-2
    first-difference-requires (λ c. search rules) returns)
