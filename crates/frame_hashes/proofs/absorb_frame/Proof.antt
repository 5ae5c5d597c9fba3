-- `frame_hashes::absorb_frame` meets its contract: what the rows give is what the hashes bind. Assumes nothing.
use mathlib.Core.Path.{◌≡◌, ap, ◌∙◌}
use Prim.Native.Nat.{◌*◌}
use lib.ListN.{length}
use borrow.Author.Rules.{rules}
use Rattle.slices.specs.Layout.{total}
use Rattle.stream.specs.Stream.{absorbed}
use Rattle.sets.specs.Bounds.{row_sizes}
use Rattle.frame_hashes.specs.Frame.{seed_shown}
use Rattle.frame_hashes.proofs.Bound.{first_bound, third_bound}
use Rattle.frame_hashes.proofs.absorb_frame.Statement.{statement}
use Rattle.frame_hashes.proofs.absorb_frame.Tie as tie

-- ---- earlier moments

abbrev frame-rows-before-absorb-first : tie.After-absorb_first → tie.After-frame_rows
frame-rows-before-absorb-first c = c.before.before.before.before.before.before

abbrev frame-rows-before-absorb-third : tie.After-absorb_third → tie.After-frame_rows
frame-rows-before-absorb-third c = c.before.before.before.before.before.before.before.before

module _ (f : tie.After-frame_rows) where
  abbrev s : tie.Start
  s = f.before.before.before.before.before.before.before.before.before

  rows_long : length f.frame_rows.new.rows ≡ s.args.set.shape.parties * total (row_sizes s.args.set.shape)
  rows_long = f.frame_rows.auto.rows ∙ s.requires.2

absorb-first-requires : tie.Need-absorb_first-requires
absorb-first-requires c κs = let f = c.before.before.before.before.before in ((s f).requires.0.frame_sized.size, rows_long f)

absorb-third-requires : tie.Need-absorb_third-requires
absorb-third-requires c κs = let f = frame-rows-before-absorb-first c.before in ((s f).requires.0.frame_sized.size, rows_long f)

returns : tie.Need-returns
returns c =
    let f = frame-rows-before-absorb-third c in
    let a = (s f).args in
    let g = (s f).requires.0 in
    let seed = seed_shown a.set.shape a.salt.now a.e a.hidden a.frame.now in
    let made = f.frame_rows.ensures in (
      c.absorb_first.ensures ∙ ap (absorbed a.hashes.first) (first_bound g a.e seed made.0 made.1),
      (
        c.absorb_third.ensures ∙ ap (absorbed a.hashes.third) (third_bound g a.e seed made.0 made.1),
        (made.0, made.1),
      ),
    )

pub absorb_frame_spec : {M : Type 1} → statement M
absorb_frame_spec =
    tie.close
    (tie.spec (λ c κs. search rules) absorb-first-requires absorb-third-requires
    (λ c. (frame-rows-before-absorb-third c).frame_rows.auto.commitments)
    (λ c. (frame-rows-before-absorb-third c).frame_rows.auto.rows) returns)
