-- `check_opening::check_parties` meets its contract: number 13, then the rows; only the front of the work slice is written. Assumes nothing.
use Rattle.std.proofs.Common.{◌≡◌, ◌*◌, ◌^◌, ◌≤◌, ◌-◌, ◌∙◌, ℕ, List, ap, arith, length, take, replicate}
use borrow.Rule.Slice.PartMut.{put_mid}
use Rattle.slices.specs.Layout.{field}
use Rattle.slices.proofs.Put.{front_long}
use Rattle.shake.specs.Shake128.{shake128}
use Rattle.banquet.specs.declared.Shape.{Shape}
use Rattle.banquet.specs.Tree.{node_seeds, shown_leaves}
use Rattle.sets.specs.Valid.{Valid}
use Rattle.sets.specs.Bounds.{leaves_most, rows_most}
use Rattle.stated.proofs.Laws.{transcript_fits, field_size}
use Rattle.scratch.specs.Scratch.{Scratch, scratch_then}
use Rattle.scratch.proofs.Laws.{scratch_front}
use Rattle.check_opening.proofs.Seeds.{commitment_refused, commitments_passed}
use Rattle.check_opening.proofs.check_parties.Goals as goal

-- room for the seeds
abbrev zeros : List ℕ
zeros = replicate 2048 0

lent : {S : Shape} (v : Valid S) {end : ℕ} → end ≡ 16 * 2 ^ S.depth → length (take (end - 0) zeros) ≡ 16 * 2 ^ S.depth
lent v {end} e = front_long end zeros (omega (arith, e, leaves_most v)) ∙ e

pub field-requires : goal.field-requires
field-requires c =
    let a = c.args in
    transcript_fits c.requires.0.valid a.transcript.now c.transcript_sizes.ensures c.requires.0.stated.size 0 (omega arith)

pub expand_shown-requires : goal.expand_shown-requires
expand_shown-requires c =
    let a = c.args in (
      field_size a.set.shape a.transcript.now 0 c.transcript_sizes.ensures c.requires.0.stated.size c.field.ensures,
      c.requires.1,
      lent c.requires.0.valid c.leaf_bytes-end.ensures.0,
      omega (arith, leaves_most c.requires.0.valid),
    )

pub returns-in-Some-clause-value : goal.returns-in-Some-clause-value
returns-in-Some-clause-value c =
    let a = c.args in
    commitment_refused c.requires.0 a.siblings.now a.hidden c.requires.1
    (c.expand_shown.ensures
    ∙ ap (λ l. node_seeds (shown_leaves shake128 l a.e a.set.shape.depth 0 a.siblings.now a.hidden))
    (c.field.ensures ∙ ap (λ l. field l 0 a.transcript.now) c.transcript_sizes.ensures))
    (c.expand_shown.auto.out ∙ lent c.requires.0.valid c.leaf_bytes-end.ensures.0) c.leaf_bytes-end.result zeros
    c.first_commitment-differs.ensures.value c.in-Some.is

pub returns-in-Some-clause-scratch : goal.returns-in-Some-clause-scratch
returns-in-Some-clause-scratch c =
    let a = c.args in
    scratch_front (a.set.shape.parties * 32) a.work.now c.first_commitment-differs.new.scratch (omega (arith, c.requires.0.valid.few)) c.requires.2
    c.first_commitment-differs.auto.scratch

pub returns-clause-value : goal.returns-clause-value
returns-clause-value c =
    let a = c.args in
    commitments_passed c.requires.0 a.siblings.now a.hidden c.requires.1
    (c.expand_shown.ensures
    ∙ ap (λ l. node_seeds (shown_leaves shake128 l a.e a.set.shape.depth 0 a.siblings.now a.hidden))
    (c.field.ensures ∙ ap (λ l. field l 0 a.transcript.now) c.transcript_sizes.ensures))
    (c.expand_shown.auto.out ∙ lent c.requires.0.valid c.leaf_bytes-end.ensures.0) c.leaf_bytes-end.result zeros
    c.first_commitment-differs.ensures.value c.in_default.is c.check_rows.ensures.value

pub returns-clause-scratch : goal.returns-clause-scratch
returns-clause-scratch c =
    let a = c.args in
    let first : Scratch a.work.now (put_mid 0 (a.set.shape.parties * 32 - 0) a.work.now c.first_commitment-differs.new.scratch) =
    scratch_front (a.set.shape.parties * 32) a.work.now c.first_commitment-differs.new.scratch (omega (arith, c.requires.0.valid.few)) c.requires.2
    c.first_commitment-differs.auto.scratch in
    let n = 2 * (a.set.shape.parties * c.row_length.result) in
    let most : a.set.shape.parties * c.row_length.result ≤ 18176 = rows_most c.requires.0.valid c.row_length.ensures.1 in
    scratch_then first
    (scratch_front n (put_mid 0 (a.set.shape.parties * 32 - 0) a.work.now c.first_commitment-differs.new.scratch) c.check_rows.new.rows
    (omega (arith, most)) (omega (arith, first.long, c.requires.2)) c.check_rows.auto.rows)
