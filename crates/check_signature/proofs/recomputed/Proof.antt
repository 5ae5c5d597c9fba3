-- `check_signature::recomputed` meets its contract: there is room for the challenges, and they are those of h1, h2 and h3. Assumes nothing.
use mathlib.Core.Path.{ap}
use mathlib.Core.List.{◌∷◌}
use Prim.Native.Nat.{ℕ, ◌*◌, ◌≤◌, zero-le}
use native.Mathlib.Omega.{arith}
use lib.Dec.{lit≤}
use lib.ListN.{length}
use Rattle.slices.proofs.Counts.{in_word}
use Rattle.banquet.specs.Shape.{head_length, first_challenge_length}
use Rattle.sets.specs.Bounds.{columns_most, seconds_most, thirds_most}
use Rattle.sets.proofs.Bounds.{firsts_most}
use Rattle.check_signature.proofs.Execution.{drawn_front, array_kept}
use Rattle.check_signature.proofs.recomputed.Statement.{statement}
use Rattle.check_signature.proofs.recomputed.Tie as tie

-- ---- earlier moments

abbrev h1-before-h3 : tie.After-h3 → tie.After-h1
h1-before-h3 c = c.before.before.before.before.before.before.before

abbrev draw-before-firsts3 : tie.After-firsts-3-1 → tie.After-draw
draw-before-firsts3 c = c.before.before.before.before.before.before.before.before.before

abbrev draw2-before-seconds3 : tie.After-seconds-3-1 → tie.After-draw-2
draw2-before-seconds3 c = c.before.before.before.before.before.before.before

abbrev h3-before-absorb-executions-arg2 : tie.After-absorb_executions-arg-2-1 → tie.After-h3
h3-before-absorb-executions-arg2 c = c.before.before.before.before.before.before.before.before

abbrev h1-before-absorb-executions-arg2 : tie.After-absorb_executions-arg-2-1 → tie.After-h1
h1-before-absorb-executions-arg2 c = h1-before-h3 (h3-before-absorb-executions-arg2 c)

abbrev start-before-struct-known2 : tie.After-struct_known-2-1 → tie.Start
start-before-struct-known2 c = c.before.before.before.before.before.before.before

module _ (s : tie.Start) where
  abbrev f : ℕ
  f = s.args.set.shape.executions * first_challenge_length s.args.set.shape

  abbrev w : ℕ
  w = s.args.set.shape.executions * s.args.set.shape.wide

  abbrev p : ℕ
  p = s.args.set.shape.executions * 4

  columns : first_challenge_length s.args.set.shape ≤ 60
  columns = columns_most s.requires.0.valid

  few_firsts : f ≤ 2460
  few_firsts = firsts_most s.requires.0.valid

  few_seconds : w ≤ 246
  few_seconds = seconds_most s.requires.0.valid

  few_thirds : p ≤ 164
  few_thirds = thirds_most s.requires.0.valid

  head_room : head_length ≤ length s.args.s.now
  head_room = omega (arith, s.requires.0.file_sized.size)

abbrev start : tie.After-h1 → tie.Start
start c = c.before.before.before.before.before.before.before.before

firsts-kept : tie.Need-slice_bounds-absorb_executions-end
firsts-kept c = let s = start (h1-before-h3 c.before.before.before.before) in
    array_kept (f s) (few_firsts s) (draw-before-firsts3 c).draw.new.out (draw-before-firsts3 c).draw.auto.out

seconds-kept : tie.Need-slice_bounds-absorb_executions-end-2
seconds-kept c = let s = start (h1-before-h3 c.before.before.before.before.before) in
    array_kept (w s) (few_seconds s) (draw2-before-seconds3 c).draw-2.new.out (draw2-before-seconds3 c).draw-2.auto.out

thirds-kept : tie.Need-slice_bounds-absorb_executions-end-3
thirds-kept c = let s = start (h1-before-h3 c.before.before.before.before.before.before) in
    array_kept (p s) (few_thirds s) c.draw-3.new.out c.draw-3.auto.out

absorb-executions-requires : tie.Need-absorb_executions-requires
absorb-executions-requires c κs =
    let s = start (h1-before-absorb-executions-arg2 c) in
    let a = s.args in (
      s.requires.0,
      record {
        firsts_are = drawn_front (f s) (few_firsts s) (ap (6 ∷◌) (h1-before-absorb-executions-arg2 c).h1.ensures)
            (draw-before-firsts3 c.before.before.before.before).draw.ensures;
        seconds_are = drawn_front (w s) (few_seconds s) (ap (7 ∷◌) s.requires.1) (draw2-before-seconds3 c.before.before.before).draw-2.ensures;
        thirds_are = drawn_front (p s) (few_thirds s) (ap (8 ∷◌) (h3-before-absorb-executions-arg2 c).h3.ensures)
            c.draw-3.ensures;
      },
      s.requires.2,
      s.requires.3,
    )

pub recomputed_spec : {M : Type 1} → statement M
recomputed_spec =
    tie.close
    (tie.spec (λ c. in_word (columns c.before.before.before.before.before.before) (lit≤ tt))
    (λ c. in_word (few_firsts c.before.before.before.before.before.before) (lit≤ tt))
    (λ c. in_word (few_seconds (start-before-struct-known2 c)) (lit≤ tt)) (λ c. in_word (few_thirds (start-before-struct-known2 c)) (lit≤ tt))
    (λ c κs. head_room (start-before-struct-known2 c)) (λ c. zero-le) (λ c. zero-le) (λ c. few_firsts (start c))
    (λ c κs. tt) (λ c. zero-le) (λ c. zero-le) (λ c. few_seconds (start c.before.before.before)) (λ c κs. tt)
    (λ c κs. head_room (start c.before.before.before.before.before.before)) (λ c. zero-le) (λ c. zero-le)
    (λ c. few_thirds (start (h1-before-h3 c)))
    (λ c κs. tt) firsts-kept
    seconds-kept thirds-kept absorb-executions-requires (λ c. c.absorb_executions.auto.commitments)
    (λ c. c.absorb_executions.auto.rows)
    (λ c. c.absorb_executions.ensures))
