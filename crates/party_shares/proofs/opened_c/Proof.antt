-- `party_shares::opened_c` meets its contract. Assumes nothing.
use mathlib.Core.Path.{◌≡◌, refl, sym, ◌∙◌}
use Prim.Native.Nat.{ℕ, ◌-◌, ◌*◌}
use native.Mathlib.Omega.{arith}
use lib.ListN.{length, take, replicate}
use borrow.Author.Rules.{rules}
use Rattle.banquet.specs.Shape.{product_points}
use Rattle.sets.specs.Bounds.{by_points}
use Rattle.sets.specs.Laws.{wide_field}
use Rattle.forms.specs.Party.{own_products}
use Rattle.tapes.proofs.Laws.{part_long, load_fits}
use Rattle.party_shares.proofs.Laws.{front_long, products_are, c_first, c_other}
use Rattle.party_shares.proofs.opened_c.Statement.{statement}
use Rattle.party_shares.proofs.opened_c.Tie as tie

-- ---- earlier moments

abbrev tape-part-before-load : tie.After-load → tie.After-tape_part
tape-part-before-load c = c.before.before.before.before.before.before

abbrev start-before-load : tie.After-load → tie.Start
start-before-load c = c.before.before.before.before.before.before.before.before.before.before.before.before

part-bytes-end : tie.Need-slice_bounds-bytes-end
part-bytes-end c =
    let s = c in
    omega (arith, by_points s.args.set.valid s.args.set.shape.wide, s.args.set.valid.wide_most)

-- the part of `bytes` that is lent
lent : (p : tie.After-tape_part)
    → let s = p.before.before.before.before.before.before in
    length {A = ℕ} (take (length s.args.product.now - 0) (replicate 126 0)) ≡ product_points s.args.set.shape * s.args.set.shape.wide
lent p =
    let b = p.before.before in
    front_long (replicate 126 0) b.requires.0 (part-bytes-end b)

own-requires : tie.Need-own-requires
own-requires c κs =
    let p = c.before in
    let s = p in
    (part_long s.args.set.valid 3 s.args.tape.now s.requires.1 p.tape_part.ensures ∙ sym (lent p), s.requires.0 ∙ sym (lent p))

load-requires : tie.Need-load-requires
load-requires c κs =
    let o = c in
    let p = o.before.before.before.before.before in
    let s = p in
    load_fits s.args.set.valid 21 refl
    (omega (arith, by_points s.args.set.valid s.args.set.shape.wide, o.own.auto.out, lent p))

dot-requires : tie.Need-dot-c-requires
dot-requires c κs =
    let l = c.before.before.before in
    let p = tape-part-before-load l in
    let s = p in
    ((wide_field s.args.set.valid).fits, omega (arith, l.load.auto.out, s.requires.2))

-- P's shares
values : (l : tie.After-load)
    → let a = (start-before-load l).args in
    l.load.new.out ≡ own_products a.set.shape a.product.now a.i a.tape.now
values l =
    let o = l in
    let p = o in
    let s = p in
    let a = s.args in
    products_are s.args.set.valid a.product.now a.tape.now a.i p.tape_part.ensures o.own.ensures refl l.load.ensures

returns : tie.Need-returns-then-i-eq0
returns c =
    let d = c in
    let l = d.before.before.before.before.before in
    let s = start-before-load l in
    let a = s.args in
    c_first s.args.set.valid a.product.now a.far.now a.given a.i a.tape.now (values l) d.dot-c.ensures c.if-i-eq0.true

returns-2 : tie.Need-returns
returns-2 c =
    let d = c in
    let l = d.before.before.before.before.before in
    let s = start-before-load l in
    let a = s.args in
    c_other s.args.set.valid a.product.now a.far.now a.given a.i a.tape.now (values l) d.dot-c.ensures c.if-i-eq0.false

pub opened_c_spec : {M : Type 1} → statement M
opened_c_spec =
    tie.close
    (tie.spec (λ c. search rules) (λ c. search rules) (λ c. search rules) (λ c. search rules) part-bytes-end (λ c κs. search rules)
    own-requires (λ c. search rules) load-requires (λ c. search rules) dot-requires returns returns-2)
