-- `true_rows::true_rows` meets its contract: a turn writes a row of both and a number. Assumes nothing.
use mathlib.Core.Path.{◌≡◌, sym, ◌∙◌}
use Prim.Native.Nat.{ℕ, ◌+◌, ◌-◌, ◌*◌}
use native.Mathlib.Nat.{le_of_eq, lt_of_lt_of_le, le-add_right}
use native.Mathlib.Omega.{arith}
use Rattle.slices.proofs.Counts.{as_long}
use Rattle.slices.proofs.Fill.{Filling, filling_none, filling_more, filling_all}
use Rattle.slices.proofs.Rows.{Stacking, stacking_none, stacking_lent, row_long}
use Rattle.forms.specs.Point.{near, point_row}
use Rattle.true_rows.proofs.Laws.{Turn, point_fits, turn, stacked}
use Rattle.true_rows.proofs.true_rows.Statement.{statement}
use Rattle.true_rows.proofs.true_rows.Tie as tie

abbrev invariant-loop : tie.invariant-loop-k
invariant-loop set inputs inverses us₀ vs₀ lasts₀ m k₀ us vs lasts k =
    Filling (λ k. near set.shape (20 + k) 20) 21 lasts₀ k lasts
    × Stacking (point_row set.shape inputs) set.shape.m1 k (21 * set.shape.m1) us
    × Stacking (point_row set.shape inverses) set.shape.m1 k (21 * set.shape.m1) vs

abbrev decreases-loop : tie.decreases-loop-k
decreases-loop set inputs inverses us₀ vs₀ lasts₀ m k₀ us vs lasts k = 21 - k

abbrev start : tie.At-loop-k invariant-loop decreases-loop → tie.Start invariant-loop decreases-loop
start l = l.before.before.before.before.before.before

abbrev m : tie.At-loop-k invariant-loop decreases-loop → ℕ
m l = (start l).args.set.shape.m1

-- the indices of a turn
at_turn : (i : tie.In-loop-k invariant-loop decreases-loop) → Turn (m i.before) i.before.loop-k.k
at_turn i = turn (start i.before).args.set.valid.columns i.loop-k-test.true

-- the turn at whose end a number is written
abbrev turned : tie.After-slice_known-in-loop-k-2-1 invariant-loop decreases-loop → tie.In-loop-k invariant-loop decreases-loop
turned c = c.before.before.before.before.before.before.before

loop-holds : tie.Need-loop-k-init invariant-loop decreases-loop
loop-holds c =
    let s = c in
    (filling_none s.requires.4, stacking_none _ s.args.set.shape.m1 s.requires.2, stacking_none _ s.args.set.shape.m1 s.requires.3)

loop-again : tie.Need-loop-k-preserved invariant-loop decreases-loop
loop-again c =
    let p = c.point_rows in
    let i = turned c in
    let h = i.loop-k-test.true in
    let l = i.loop-k in (
      filling_more l.invariant.0 h p.ensures.0,
      stacking_lent l.invariant.1 (at_turn i).row_room p.ensures.1.0 p.auto.u,
      stacking_lent l.invariant.2 (at_turn i).row_room p.ensures.1.1 p.auto.v,
    )

point-rows-requires : tie.Need-point_rows-requires invariant-loop decreases-loop
point-rows-requires c κs =
    let i = c.before.before in
    let l = i.before in
    let s = start l in
    let u = row_long l.loop-k.k (m l) l.loop-k.us (as_long (at_turn i).row_room l.loop-k.invariant.1.long) in
    let v = row_long l.loop-k.k (m l) l.loop-k.vs (as_long (at_turn i).row_room l.loop-k.invariant.2.long) in
    (point_fits s.args.set.valid i.loop-k-test.true, s.requires.0, s.requires.1, u, v)

returns : tie.Need-returns invariant-loop decreases-loop
returns c =
    let l = c.loop-k in
    let e : l.k ≡ 21 = omega arith in
    (stacked l.invariant.1 e (omega arith), (stacked l.invariant.2 e (omega arith), filling_all l.invariant.0 (le_of_eq (sym e))))

-- the number's place is there
last_fits : tie.Need-bounds-lasts-k invariant-loop decreases-loop
last_fits c =
    let i = turned c in
    lt_of_lt_of_le i.loop-k-test.true (le_of_eq (sym i.loop-k.invariant.0.long))

pub true_rows_spec : {M : Type 1} → statement M
true_rows_spec =
    tie.close
    (tie.spec invariant-loop decreases-loop loop-holds (λ c. (at_turn c).row_start) (λ c. (at_turn c).row_end) (λ c. (at_turn c).point) (λ c. (at_turn c).row_bytes)
    (λ c. le-add_right _ (m c.before)) (λ c. le-add_right _ (m c.before)) (λ c. as_long (at_turn c).row_room c.loop-k.invariant.1.long)
    (λ c. (at_turn c.before).row_bytes) (λ c. le-add_right _ (m c.before.before)) (λ c. le-add_right _ (m c.before.before))
    (λ c. as_long (at_turn c.before).row_room c.loop-k.invariant.2.long) point-rows-requires
    (λ c. (at_turn (turned c)).number_bytes) last_fits (λ c. (at_turn (turned c)).next) (λ c. (at_turn (turned c)).nearer) loop-again
    (λ c. c.loop-k.invariant.1.long ∙ sym (start c.before).requires.2) (λ c. c.loop-k.invariant.2.long ∙ sym (start c.before).requires.3)
    (λ c. c.loop-k.invariant.0.long ∙ sym (start c.before).requires.4) returns)
