-- The shares are written one after the other.
use Rattle.std.proofs.Common.{◌≡◌, ◌+◌, ◌*◌, ◌∙◌, arith, length, refl}
use Rattle.std.proofs.Math.Seq.{length-take-le}
use borrow.Rule.Slice.PartMut.{same_len_mid}
use Rattle.slices.specs.Numbers.{bytes_of, length_bytes_of}
use Rattle.fields.specs.Offsets.{offset_is}
use Rattle.sets.proofs.Bounds.{row_most}
use Rattle.party_shares.proofs.Laws.{rest_long, row_size, output_room, row_is, put_row}
use Rattle.party_shares.proofs.party_row.Goals as goal

pub returns : goal.returns
returns c =
    let a = c.args in
    let v = c.requires.0.valid in
    let n = a.set.shape.wide in
    let y = c.copy.new.dst in
    let b = bytes_of n c.opened_c-c.result in
    let z = c.opened_row.new.out in
    let s = c.store.new.s in
    let at = c.offset-at.result in
    let size : length a.out.now ≡ 16 + n + 2 * (a.set.shape.m1 * n) = row_size v c.requires.2 in
    let copied : length y ≡ 16 = c.copy.auto.dst ∙ length-take-le 16 a.out.now (output_room v size) in
    let same : length s ≡ length a.out.now = c.store.auto.s ∙ same_len_mid 0 16 a.out.now y c.copy.auto.dst in
    let behind : at ≡ 16 + n = omega (arith, (offset_is c.row_sizes.ensures (row_most v) 2 c.offset-at.ensures).0) in
    let rest : length z ≡ 2 * (a.set.shape.m1 * n) = c.opened_row.auto.out ∙ rest_long s s at refl (omega (arith, behind, same, size)) in
    put_row n a.out.now y b z size copied (length_bytes_of n c.opened_c-c.result) c.store.ensures same rest behind
    ∙ row_is v a.front.now a.key.now a.inverse.now a.product.now a.first.now a.far.now a.given a.tables.now a.last a.i a.tape.now
    (c.copy.ensures ∙ c.walk-output.ensures.value) c.walk-output.ensures.inverses_after c.walk-output.ensures.inputs_after c.opened_c-c.ensures
    c.opened_row.ensures
