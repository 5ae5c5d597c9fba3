-- A piece of a lane is absorbed.
use Rattle.std.proofs.Common.{◌≡◌, min, ◌-◌, ◌%◌, length, arith}
use Rattle.slices.specs.Bytes.{bytes_of}
use Rattle.stream.proofs.Stream.{piece_takes}
use Rattle.stream.proofs.Input.{absorbed_piece}
use Rattle.absorb.proofs.absorb_some.Goals as goal

pub returns-else-w-eq8 : goal.returns-else-w-eq8
returns-else-w-eq8 c =
    let a = c.args in
    let w = c.piece-w.result in
    let is : w ≡ min (8 - a.at % 8) (length a.src.now - 0) = omega (arith, c.piece-w.ensures) in
    let t = piece_takes a.at (length a.src.now) 0 w c.requires.0 c.requires.1 is in (
      t.0,
      t.1,
      omega (arith, t.2),
      absorbed_piece a.lanes.now a.at a.src.now 0 w c.load-x.result (bytes_of c.type_inv.src) c.requires.0 t.3 t.2 c.load-x.ensures,
    )
