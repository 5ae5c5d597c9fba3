use Rattle.std.proofs.Common.{◌≡◌, length, ◌∙◌, arith, ap}
use Rattle.slices.specs.Lists.{part}
use Rattle.slices.specs.Tab.{length_part}
use Rattle.slices.specs.Bytes.{bytes_of, part_bytes}
use Rattle.numbers.proofs.Turns.{reading_none, reading_more, reading_fits, reading_all}
use Rattle.numbers.proofs.load.Goals as goal

pub loop-b-init : goal.loop-b-init
loop-b-init c =
    let a = c.args in
    let size : length (part a.at a.w a.s.now) ≡ a.w = length_part a.at a.w a.s.now c.requires.1 in
    reading_none (part_bytes a.at a.w a.s.now (bytes_of c.type_inv.s)) (rw size c.requires.0)
    (ap (λ i. i.rest.now) (ap (λ i. i.iter) c.into_iter-b-iterator.ensures.into_iter_gives ∙ c.rev-b-items.ensures.source)
    ∙ c.iter.ensures.rest ∙ ap (λ n. part a.at n a.s.now) (omega arith))

pub overflow_mul-x : goal.overflow_mul-x
overflow_mul-x c = omega (arith, reading_fits (reading_more _ _ c.loop-b.invariant c.in-Some.ensures.steps))

pub overflow_add-x : goal.overflow_add-x
overflow_add-x c = omega (arith, reading_fits (reading_more _ _ c.loop-b.invariant c.in-Some.ensures.steps))

pub loop-b-preserved : goal.loop-b-preserved
loop-b-preserved c = reading_more _ _ c.loop-b.invariant c.in-Some.ensures.steps

pub returns : goal.returns
returns c = reading_all c.loop-b.invariant c.in-None.ensures.steps.0
