-- `check_opening::second_of` meets its contract. Assumes nothing.
use mathlib.Core.Path.{◌≡◌, sym, ap, ◌∙◌}
use native.Mathlib.Omega.{arith}
use lib.ListN.{take}
use borrow.Author.Rules.{rules}
use Rattle.slices.specs.Lists.{part}
use Rattle.slices.specs.Numbers.{number}
use Rattle.slices.specs.Layout.{total}
use Rattle.fields.specs.Offsets.{field_part, total_take_fits}
use Rattle.banquet.specs.Shape.{transcript_sizes}
use Rattle.stated.proofs.Laws.{transcript_fits}
use Rattle.check_opening.proofs.second_of.Statement.{statement}
use Rattle.check_opening.proofs.second_of.Tie as tie

abbrev start : tie.After-transcript_sizes → tie.Start
start z = z.before.before

offset-requires : tie.Need-offset-at-requires
offset-requires c κs =
    let z = c.before in
    let s = start z in
    let fits = transcript_fits s.args.set.valid s.args.transcript.now z.transcript_sizes.ensures s.requires 8 (omega arith) in
    (omega (arith, fits.0), fits.2)

module _ (c : tie.After-offset-at) where
  abbrev begun : tie.Start
  begun = start c.before.before

  at_is : c.offset-at.result ≡ total (take 8 (transcript_sizes begun.args.set.shape))
  at_is = c.offset-at.ensures ∙ ap (λ l. total (take 8 l)) c.transcript_sizes.ensures

load-requires : tie.Need-load-requires
load-requires c κs =
    let s = begun c in
    (omega (arith, s.args.set.valid.wide_most), omega (arith, at_is c, total_take_fits (transcript_sizes s.args.set.shape) 8, s.requires))

returns : tie.Need-returns
returns c =
    let o = c.before in
    let s = begun o in
    c.load.ensures ∙ ap (λ n. number (part n s.args.set.shape.wide s.args.transcript.now)) (at_is o)
    ∙ ap number (sym (field_part (transcript_sizes s.args.set.shape) 8 s.args.transcript.now))

pub second_of_spec : {M : Type 1} → statement M
second_of_spec = tie.close (tie.spec (λ c κs. search rules) (λ c. search rules) offset-requires load-requires returns)
