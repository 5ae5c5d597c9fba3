-- `check_signature::absorb_executions` meets its contract: after e turns the parts of e executions are absorbed. Assumes nothing.
use mathlib.Core.Path.{◌≡◌, sym, ◌∙◌}
use Prim.Native.Nat.{◌+◌, ◌*◌, ◌-◌, ◌≤◌, zero-le}
use native.Mathlib.Nat.{le_trans, le_antisymm, le-add_right}
use native.Mathlib.Omega.{arith}
use lib.Dec.{lit≤}
use lib.ListN.{length}
use borrow.Author.Rules.{rules}
use Rattle.slices.specs.Layout.{total}
use Rattle.slices.proofs.Counts.{in_word, begins, next_most}
use Rattle.slices.proofs.Rows.{row_cut}
use Rattle.banquet.specs.Shape.{head_length}
use Rattle.sets.specs.Bounds.{row_sizes, columns_most}
use Rattle.check_signature.proofs.Execution.{first_room, first_most, second_room, third_room, Absorbed, absorbed_none, given, turn}
use Rattle.check_signature.proofs.absorb_executions.Statement.{statement}
use Rattle.check_signature.proofs.absorb_executions.Tie as tie

abbrev invariant-loop : tie.invariant-loop-e
invariant-loop set public s firsts seconds thirds commitments₀ rows₀ n count t₀ e₀ commitments rows t e =
    (e ≤ count) × (length commitments ≡ set.shape.parties * 32) × (length rows ≡ set.shape.parties * total (row_sizes set.shape))
    × Absorbed set.shape public s t₀.first t₀.third e t.first t.third

abbrev decreases-loop : tie.decreases-loop-e
decreases-loop set public s firsts seconds thirds commitments₀ rows₀ n count t₀ e₀ commitments rows t e = count - e

-- ---- earlier moments

abbrev start-before-struct-known : tie.After-struct_known-1 invariant-loop decreases-loop → tie.Start invariant-loop decreases-loop
start-before-struct-known c = c.before.before.before.before.before.before.before.before

abbrev turn-before-absorb-frame-arg3 : tie.After-absorb_frame-arg-in-loop-e-2-1 invariant-loop decreases-loop → tie.In-loop-e invariant-loop decreases-loop
turn-before-absorb-frame-arg3 c = c.before.before.before.before.before.before.before

abbrev start : tie.At-loop-e invariant-loop decreases-loop → tie.Start invariant-loop decreases-loop
start k = k.before.before.before.before.before.before.before.before.before

abbrev salted : tie.After-absorb_frame-u invariant-loop decreases-loop → tie.After-salt invariant-loop decreases-loop
salted x = x.before.before.before.before.before.before.before

head_room : (s : tie.Start invariant-loop decreases-loop) → head_length ≤ length s.args.s.now
head_room s = omega (arith, s.requires.0.file_sized.size)

mul-n : tie.Need-overflow_mul-n invariant-loop decreases-loop
mul-n c =
    let s = start-before-struct-known c in
    omega (arith, columns_most s.requires.0.valid)

loop-holds : tie.Need-loop-e-init invariant-loop decreases-loop
loop-holds c =
    let s = start-before-struct-known c in
    let a = s.args in
    (zero-le, s.requires.2, s.requires.3, absorbed_none a.set.shape a.public.now a.s.now a.start.first a.start.third)

most : (i : tie.In-loop-e invariant-loop decreases-loop) → i.before.loop-e.e * ((start i.before).args.set.shape.m1 * (start i.before).args.set.shape.wide)
    + (start i.before).args.set.shape.m1 * (start i.before).args.set.shape.wide ≤ 2460
most i = first_most (start i.before).requires.0 (start i.before).requires.1 i.loop-e-test.true

hidden-requires : tie.Need-hidden-requires invariant-loop decreases-loop
hidden-requires c κs = let i = c in let p = (start i.before.before).requires in (third_room p.0 p.1 i.loop-e-test.true)

part-absorb-frame-end : tie.Need-slice_bounds-absorb_frame-end invariant-loop decreases-loop
part-absorb-frame-end c = let i = c in let p = (start i.before.before.before).requires in first_room p.0 p.1 i.loop-e-test.true

second-requires : tie.Need-second-requires invariant-loop decreases-loop
second-requires c κs = let i = c in let p = (start i.before.before.before.before).requires in (second_room p.0 p.1 i.loop-e-test.true)

absorb-frame-requires : tie.Need-absorb_frame-u-requires invariant-loop decreases-loop
absorb-frame-requires c κs =
    let i = turn-before-absorb-frame-arg3 c in
    let k = i.before in
    let a = (start k).args in
    let p = (start k).requires in (
      given p.0 p.1 i.loop-e-test.true c.salt.ensures
          c.hidden.ensures
          (row_cut k.loop-e.e (a.set.shape.m1 * a.set.shape.wide) a.firsts.now) c.second.ensures
          c.frame.ensures,
      k.loop-e.invariant.1,
      k.loop-e.invariant.2,
    )

add-e : tie.Need-overflow_step-e invariant-loop decreases-loop
add-e c =
    let i = (turn-before-absorb-frame-arg3 c.before.before.before.before.before) in
    in_word (next_most i.loop-e-test.true) (le_trans (start i.before).requires.0.valid.brief (lit≤ tt))

loop-again : tie.Need-loop-e-preserved invariant-loop decreases-loop
loop-again c =
    let x = c.before.before.before.before in
    let i = (turn-before-absorb-frame-arg3 x.before) in
    let k = i.before in
    let a = (start k).args in
    let p = (start k).requires in
    let v = k.loop-e.invariant in (
      next_most i.loop-e-test.true,
      x.absorb_frame-u.auto.commitments ∙ v.1,
      x.absorb_frame-u.auto.rows ∙ v.2,
      turn p.0 p.1 i.loop-e-test.true (salted x).salt.ensures x.hidden.ensures
          (row_cut k.loop-e.e (a.set.shape.m1 * a.set.shape.wide) a.firsts.now) x.second.ensures
          x.frame.ensures v.3 x.absorb_frame-u.ensures.0 x.absorb_frame-u.ensures.1.0,
    )

returns : tie.Need-returns invariant-loop decreases-loop
returns c =
    let k = c.before in
    let e : k.loop-e.e ≡ (start k).args.set.shape.executions = le_antisymm k.loop-e.invariant.0 c.loop-e-test.false in
    (rw e at k.loop-e.invariant.3.first, rw e at k.loop-e.invariant.3.third)

pub absorb_executions_spec : {M : Type 1} → statement M
absorb_executions_spec =
    tie.close
    (tie.spec invariant-loop decreases-loop mul-n loop-holds (λ c. in_word (begins _ (most c)) (lit≤ tt)) (λ c. in_word (most c) (lit≤ tt))
    (λ c κs. head_room (start c.before)) (λ c. search rules) hidden-requires (λ c. le-add_right _ _) (λ c. le-add_right _ _) part-absorb-frame-end
    second-requires
    (λ c κs. tt) absorb-frame-requires add-e (λ c. search rules) loop-again
    (λ c. c.loop-e.invariant.1 ∙ sym (start c.before).requires.2) (λ c. c.loop-e.invariant.2 ∙ sym (start c.before).requires.3) returns)
