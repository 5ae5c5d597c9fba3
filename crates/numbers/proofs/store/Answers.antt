use Rattle.std.proofs.Common.{◌≡◌, ◌∙◌, ap, refl, arith, length, ◌+◌, ◌-◌, ◌*◌, ◌/◌, ◌%◌, ◌^◌, take, drop}
use Rattle.slices.specs.Lists.{tab}
use Rattle.slices.specs.Tab.{length_part}
use Rattle.slices.specs.Numbers.{bytes_of, length_bytes_of}
use Rattle.slices.proofs.Put.{put_mid_lem}
use Rattle.slices.proofs.Fill.{filling_none, filling_more, filling_all}
use Rattle.numbers.proofs.Turns.{bytes_tab}
use Rattle.numbers.proofs.store.Goals as goal

pub loop-i-init : goal.loop-i-init
loop-i-init c = filling_none refl

pub loop-i-preserved : goal.loop-i-preserved
loop-i-preserved c = filling_more c.loop-i.invariant c.loop-i-test.true refl

pub returns : goal.returns
returns c =
    let a = c.args in
    let w : a.at + a.w - a.at ≡ a.w = omega arith in
    let long : length (take (a.at + a.w - a.at) (drop a.at a.s.now)) ≡ a.w = rw w (length_part a.at a.w a.s.now c.requires.1) in
    put_mid_lem a.at _ a.s.now _ (bytes_of a.w a.x)
    (filling_all c.loop-i.invariant c.loop-i-test.false ∙ ap (tab (λ i. a.x / 2 ^ (8 * i) % 256)) long ∙ bytes_tab a.w a.x) (w ∙ omega (arith, length_bytes_of a.w a.x))
