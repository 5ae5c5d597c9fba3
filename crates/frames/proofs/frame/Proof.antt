-- `frames::frame` meets its contract. Assumes nothing.
use mathlib.Core.Path.{◌≡◌}
use Prim.Native.Nat.{◌+◌, ◌*◌, ◌≤◌}
use native.Mathlib.Omega.{arith}
use lib.ListN.{length}
use borrow.Author.Rules.{rules}
use Rattle.slices.specs.Layout.{total}
use Rattle.banquet.specs.Shape.{head_length, frame_sizes}
use Rattle.frames.proofs.Laws.{of_another_length, none_such, ends_within, framed}
use Rattle.frames.proofs.frame.Statement.{statement}
use Rattle.frames.proofs.frame.Tie as tie

module _ (w : tie.After-signature_length) where
  abbrev start : tie.Start
  start = w.before.before.before

  size_is : w.before.frame_length-size.result ≡ total (frame_sizes start.args.set.shape)
  size_is = w.frame_length-size.ensures.0

returns : tie.Need-returns-then-s-signature_length
returns c =
    let t = c in
    let w = t.before.before in
    let s = start w in
    of_another_length s.args.set.shape s.args.s.now s.args.e w.signature_length.ensures.0 (size_is w) t.if-s-signature_length.true

returns-2 : tie.Need-returns-then-e-set
returns-2 c =
    let t = c in
    let l = t in
    let w = l.before.before.before.before in
    let s = start w in
    none_such s.args.set.shape s.args.s.now s.args.e w.signature_length.ensures.0 (size_is w) l.if-s-signature_length.false t.if-e-set.true

-- frame e ends within the signature
module _ (c : tie.Else-e-set) where
  abbrev lengths : tie.Else-s-signature_length
  lengths = c.before.before

  fits : head_length + (start lengths.before).args.e * lengths.before.before.frame_length-size.result + lengths.before.before.frame_length-size.result
      ≤ length (start lengths.before).args.s.now
  fits =
      let w = lengths.before in
      let s = start w in
      ends_within s.args.set.shape s.args.s.now s.args.e w.signature_length.ensures.0 (size_is w) lengths.if-s-signature_length.false c.if-e-set.false

returns-3 : tie.Need-returns
returns-3 c =
    let t = c.before in
    let l = lengths t in
    let w = l.before in
    let s = start w in
    framed s.args.set.shape s.args.s.now s.args.e w.signature_length.ensures.0 (size_is w) l.if-s-signature_length.false t.if-e-set.false

pub frame_spec : {M : Type 1} → statement M
frame_spec =
    tie.close
    (tie.spec (λ c κs. search rules) (λ c κs. search rules) (λ c. search rules) (λ c. search rules)
    (λ c. search rules) returns (λ c. search rules) (λ c. search rules) (λ c. search rules) returns-2 (λ c. omega (arith, fits c))
    (λ c. omega (arith, fits c)) (λ c. omega (arith, fits c)) (λ c. search rules) (λ c. search rules) (λ c. omega (arith, fits c)) returns-3)
