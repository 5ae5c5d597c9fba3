-- The shares of a fill the first half, those of b the second.
use Rattle.std.proofs.Common.{ℕ, ◌≡◌, ◌+◌, ◌-◌, ◌*◌, sym, length, get_or, take, replicate, refl}
use native.Mathlib.Nat.{le_of_eq}
use Rattle.slices.specs.Numbers.{length_numbers}
use Rattle.sets.specs.Room.{pairs_lent}
use Rattle.forms.specs.Point.{tabled_row, value_s, value_t}
use Rattle.tapes.proofs.Laws.{part_long, load_fits}
use Rattle.party_shares.proofs.Laws.{put_both, halves_room, stored, a_worked, b_worked}
use Rattle.party_shares.proofs.opened_row.Goals as goal

pub load-requires : goal.load-requires
load-requires c =
    let v = c.args.set.valid in
    load_fits v (2 * c.args.set.shape.m1) (pairs_lent v (replicate 20 0) refl) (le_of_eq (sym (part_long v 2 c.args.tape.now c.requires.4 c.tape_part.ensures)))

pub returns : goal.returns
returns c =
    let a = c.args in
    let v = c.args.set.valid in
    let half = a.set.shape.m1 * a.set.shape.wide in
    let x = c.load.new.out in
    let e = c.tape_part.ensures in
    let h = c.load.ensures in
    let pairs : length {A = ℕ} (take (2 * a.set.shape.m1 - 0) (replicate 20 0)) ≡ 2 * a.set.shape.m1 = pairs_lent v (replicate 20 0) refl in
    put_both half (length a.out.now - half) a.out.now
    (a_worked v a.first.now a.tables.now a.last a.tape.now e pairs h a.inputs.now
    (stored v (λ j u. value_s a.set.shape (get_or a.first.now j 0) u (get_or x (2 * j) 0) a.last)
    (tabled_row a.set.shape a.inputs.now a.tables.now) c.rows.ensures c.values_s.ensures c.store.ensures))
    (length_numbers a.set.shape.wide a.set.shape.m1 _)
    (b_worked v a.first.now a.tables.now a.last a.tape.now e pairs h a.inverses.now
    (stored v (λ j u. value_t a.set.shape u (get_or x (2 * j + 1) 0) a.last)
    (tabled_row a.set.shape a.inverses.now a.tables.now) c.rows-2.ensures c.values_t.ensures c.store-2.ensures))
    (halves_room v c.requires.5)
