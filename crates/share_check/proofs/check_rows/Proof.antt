-- `share_check::check_rows` meets its contract: the halves are read back and compared, and left as they are. Assumes nothing.
use Prim.Native.Nat.{zero-le}
use borrow.Author.Rules.{rules}
use Rattle.slices.proofs.Counts.{half_most}
use Rattle.share_check.proofs.Rows.{read_lengths, halves_checked}
use Rattle.share_check.proofs.check_rows.Statement.{statement}
use Rattle.share_check.proofs.check_rows.Tie as tie

-- ---- earlier moments

abbrev fill-rows-before-compare-rows : tie.After-compare_rows → tie.After-fill_rows
fill-rows-before-compare-rows c = c.before.before.before.before.before.before.before

abbrev start : tie.After-fill_rows → tie.Start
start f = f.before.before.before.before.before.before

compare-rows-requires : tie.Need-compare_rows-requires
compare-rows-requires c κs =
    let f = c.before.before.before.before.before.before in
    let s = start f in
    let long = read_lengths s.requires.0 s.args.seeds.now f.fill_rows.new.rows f.fill_rows.ensures in
    (long.0, long.1)

returns : tie.Need-returns
returns c =
    let f = fill-rows-before-compare-rows c in
    let s = start f in (
      halves_checked s.requires.0 s.args.seeds.now f.fill_rows.new.rows f.fill_rows.ensures s.args.hidden
          c.ciphertext.ensures c.compare_rows.ensures,
      f.fill_rows.ensures,
    )

pub check_rows_spec : {M : Type 1} → statement M
check_rows_spec =
    tie.close
    (tie.spec (λ c κs. c.requires) (λ c κs. (start c.before.before.before).requires.0.key.size)
    (λ c. half_most _) (λ c. half_most _)
    (λ c. search rules) (λ c. zero-le) (λ c. zero-le) (λ c. half_most _) compare-rows-requires (λ c. search rules) returns)
