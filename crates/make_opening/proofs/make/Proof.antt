-- `make_opening::make` meets its contract. Assumes nothing.
use mathlib.Core.Path.{◌≡◌, refl, sym, ap, ◌∙◌}
use Prim.Native.Nat.{ℕ, ◌*◌, ◌-◌, ◌≤◌, zero-le}
use native.Mathlib.Nat.{le_trans}
use lib.ListN.{length, take, replicate}
use lib.Dec.{lit≤}
use borrow.Rule.Slice.PartMut.{same_len_mid}
use Rattle.banquet.specs.Shape.{work_length}
use Rattle.slices.proofs.Counts.{in_word}
use Rattle.sets.specs.Bounds.{by_points, rows_most}
use Rattle.scratch.proofs.Laws.{scratch_front, front_output}
use Rattle.party_shares.proofs.Laws.{front_long}
use Rattle.make_opening.proofs.Laws.{
  at_most,
  few_nodes,
  points_room,
  columns_room,
  inputs_long,
  inverses_long,
  at_points,
}
use Rattle.make_opening.proofs.make.Statement.{statement}
use Rattle.make_opening.proofs.make.Tie as tie

-- ---- earlier moments

abbrev true-rows-before-row-length : tie.After-row_length → tie.After-true_rows
true-rows-before-row-length c = c.before.before.before.before.before.before.before

abbrev expand-before-true-rows : tie.After-true_rows → tie.After-expand
expand-before-true-rows c = c.before.before.before.before.before.before.before.before.before

abbrev leaf-bytes-before-input-rows : tie.After-input_rows-1 → tie.After-leaf_bytes-leaves
leaf-bytes-before-input-rows c = c.before.before.before.before.before.before.before

abbrev make-shares-before-slice-known7 : tie.After-slice_known-7-1 → tie.After-make_shares
make-shares-before-slice-known7 c = c.before.before.before.before.before.before.before.before

abbrev start-before-slice-known2 : tie.After-slice_known-2-1 → tie.Start
start-before-slice-known2 c = c.before.before.before.before.before.before.before.before.before

abbrev true-rows-before-lasts3 : tie.After-lasts-3-1 → tie.After-true_rows
true-rows-before-lasts3 c = c.before.before.before.before.before.before.before.before.before.before

-- the moments that a need looks back to: the start, and after each call
abbrev start : tie.After-leaf_bytes-leaves → tie.Start
start c = c.before.before.before.before.before.before.before.before.before.before

abbrev leaved : tie.After-true_rows → tie.After-leaf_bytes-leaves
leaved c = c.before.before.before.before.before.before.before.before.before.before.before.before

abbrev begun : tie.After-row_length → tie.Start
begun c = start (leaved c.before.before.before.before.before.before.before)

abbrev rowed : tie.After-opening_length-size → tie.After-row_length
rowed c = c.before.before

abbrev sized : tie.After-make_shares-arg-2-1 → tie.After-opening_length-size
sized c = c.before.before.before.before

-- the parts that are lent are there: of the seeds, of the work slice and of out
seeds_fit : (c : tie.After-leaf_bytes-leaves) → c.leaf_bytes-leaves.result ≤ 2048
seeds_fit c = c.leaf_bytes-leaves.ensures.1

rows_fit : (c : tie.After-row_length) → (begun c).args.set.shape.parties * c.row_length.result ≤ work_length
rows_fit c = le_trans (rows_most (begun c).requires.0.valid c.row_length.ensures.1) (lit≤ tt)

opening_fits : (c : tie.After-opening_length-size) → c.opening_length-size.result ≤ length (begun (rowed c)).args.out.now
opening_fits c = at_most c.opening_length-size.ensures.0 (begun (rowed c)).requires.3

expand-requires : tie.Need-expand-requires
expand-requires c κs =
    let l = c.before.before in
    let p = (start l).requires in
    (p.0.salt_size, p.0.root_size, front_long _ l.leaf_bytes-leaves.ensures.0 (seeds_fit l), few_nodes p.0.valid)

-- the part that is lent for rows
lent : (s : tie.Start) → length {A = ℕ} (take (21 * s.args.set.shape.m1 - 0) (replicate 210 0)) ≡ 21 * s.args.set.shape.m1
lent s = front_long (replicate 210 0) refl (columns_room s.requires.0.valid)

true-rows-requires : tie.Need-true_rows-requires
true-rows-requires c κs =
    let s = start (leaf-bytes-before-input-rows c.before.before.before.before) in
    let p = s.requires in
    let v = p.0.valid in (inputs_long v p.2, inverses_long v s.args.key.now s.args.public.now p.2.inverses_is, lent s, lent s, refl)

make-shares-requires : tie.Need-make_shares-requires
make-shares-requires c κs =
    let r = rowed (sized c) in
    let at_true_rows = true-rows-before-row-length r in
    let s = begun r in
    let p = s.requires in
    let t = at_true_rows.true_rows.ensures in
    let v = p.0.valid in (
      p.0,
      p.1,
      at_points v p.2 t.0 t.1.0 t.1.1,
      (expand-before-true-rows at_true_rows).expand.ensures,
      front_long _ (sym (by_points v s.args.set.shape.wide)) (points_room v),
      front_long _ (ap (λ n. s.args.set.shape.parties * n) r.row_length.ensures.0) (le_trans (rows_fit r) p.4),
      front_long _ (sized c).opening_length-size.ensures.0 (opening_fits (sized c)),
    )

returns : tie.Need-returns
returns c =
    let done = make-shares-before-slice-known7 c in
    let z = sized done.before in
    let s = begun (rowed z) in
    let d = s.args.out.now in
    let size = z.opening_length-size in
    let m = done.make_shares in
    let long = m.auto.out ∙ front_long d size.ensures.0 (opening_fits z) in (
      front_output size.result d m.ensures (long ∙ sym size.ensures.0),
      scratch_front (s.args.set.shape.parties * (rowed z).row_length.result) s.args.work.now
          m.new.rows (rows_fit (rowed z)) s.requires.4
          m.auto.rows,
    )

-- out and the work slice are as long as they were
out-kept : tie.Need-shape_of-out
out-kept c =
    let done = make-shares-before-slice-known7 c in
    let z = sized done.before in
    same_len_mid 0 (z.opening_length-size.result - 0) (begun (rowed z)).args.out.now
    done.make_shares.new.out done.make_shares.auto.out

work-kept : tie.Need-shape_of-work
work-kept c =
    let done = make-shares-before-slice-known7 c in
    let r = rowed (sized done.before) in
    let s = begun r in
    same_len_mid 0 (s.args.set.shape.parties * r.row_length.result - 0) s.args.work.now
    done.make_shares.new.rows
    done.make_shares.auto.rows

pub make_spec : {M : Type 1} → statement M
make_spec =
    tie.close
    (tie.spec (λ c κs. tt) (λ c. zero-le) (λ c. zero-le) seeds_fit expand-requires
    (λ c. in_word (columns_room (start c.before.before.before.before.before.before).requires.0.valid) (lit≤ tt)) (λ c. zero-le) (λ c. zero-le)
    (λ c. columns_room (start c.before.before.before.before.before.before).requires.0.valid) (λ c. zero-le) (λ c. zero-le)
    (λ c. columns_room (start (leaf-bytes-before-input-rows c)).requires.0.valid) (λ c. refl)
    true-rows-requires (λ c. in_word (points_room (start (leaved c.before.before.before.before.before.before)).requires.0.valid) (lit≤ tt))
    (λ c κs. tt) (λ c. in_word (rows_fit c.before) (lit≤ tt))
    (λ c κs. tt)
    (λ c. sym (true-rows-before-lasts3 c).true_rows.auto.lasts)
    (λ c. zero-le) (λ c. zero-le) (λ c. points_room (start (leaved (true-rows-before-lasts3 c))).requires.0.valid) (λ c. zero-le) (λ c. zero-le)
    (λ c. let r = rowed c.before.before in le_trans (rows_fit r) (begun r).requires.4) (λ c. zero-le)
    (λ c. zero-le) (λ c. opening_fits c.before.before.before)
    make-shares-requires out-kept work-kept returns)
