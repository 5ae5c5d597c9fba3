-- The bounds of a valid parameter set that lean on others: apart, so that what is edited there is refused by a fact. Assumes nothing.
use Rattle.std.specs.Prelude.{◌≡◌, ◌+◌, ◌*◌, ◌≤◌}
use Rattle.std.proofs.Common.{mul-le-mul, arith}
use Rattle.slices.specs.Layout.{total}
use Rattle.banquet.specs.declared.Shape.{Shape}
use Rattle.banquet.specs.Shape.{first_challenge_length, tape_sizes, transcript_sizes}
use Rattle.sets.specs.Valid.{Valid}
use Rattle.sets.specs.Bounds.{row_sizes, all_sboxes, by_points, columns_most, tape_total}

module _ {S : Shape} (v : Valid S) where
  open S use {executions, wide, m1}

  row_total : total (row_sizes S) ≡ 16 + wide + 2 * (m1 * wide)
  row_total = omega arith

  pub row_most : total (row_sizes S) ≤ 142
  row_most = omega (arith, row_total, columns_most v, v.wide_most)

  pub tape_most : total (tape_sizes S) ≤ 462
  tape_most = omega (arith, tape_total v, columns_most v, v.columns, v.wide_most)

  pub transcript_most : total (transcript_sizes S) ≤ 22713
  transcript_most =
      omega (
        arith,
        all_sboxes v,
        by_points v wide,
        columns_most v,
        v.columns,
        v.wide_most,
        v.few,
        mul-le-mul v.few v.wide_most,
        mul-le-mul v.few (columns_most v),
      )

  -- what all executions draw: the first challenges
  pub firsts_most : executions * first_challenge_length S ≤ 2460
  firsts_most = mul-le-mul v.brief (columns_most v)
