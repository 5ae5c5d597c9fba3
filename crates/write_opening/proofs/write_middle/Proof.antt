-- `write_opening::write_middle` meets its contract: each call writes the next field, and what stands before it is carried along. Assumes nothing.
use mathlib.Core.Path.{◌≡◌, refl}
use mathlib.Core.List.{List, ◌++◌, append_assoc}
use Prim.Native.Nat.{ℕ, ◌+◌, ◌^◌, ◌<◌, ◌≤◌}
use native.Mathlib.Omega.{arith}
use lib.ListN.{length, take}
use Rattle.slices.specs.Numbers.{bytes_of, length_bytes_of}
use Rattle.slices.proofs.Put.{Wrote, wrote_more}
use Rattle.write_opening.specs.Written.{middle}
use Rattle.write_opening.proofs.Laws.{wrote_here, wrote_to, placed, middle_long}
use Rattle.write_opening.proofs.write_middle.Statement.{statement}
use Rattle.write_opening.proofs.write_middle.Tie as tie

-- the fields and where they begin
module _ (s : tie.Start) where
  abbrev wide : ℕ
  wide = s.args.wide

  abbrev at : ℕ
  at = s.args.at

  abbrev out : List ℕ
  out = s.args.out.now

  abbrev key : List ℕ
  key = s.args.key.now

  abbrev inverse : List ℕ
  inverse = s.args.inverse.now

  abbrev first : List ℕ
  first = s.args.first.now

  abbrev product : List ℕ
  product = s.args.product.now

  abbrev second : List ℕ
  second = bytes_of wide s.args.second

  abbrev p : ℕ
  p = at + length key + length inverse + length first

  abbrev q : ℕ
  q = p + length product

  room : q + wide ≤ length out
  room = omega (arith, middle_long wide key inverse first product s.args.second, s.requires.1)

  begun : at ≤ length out
  begun = omega (arith, room)

-- the entry, seen from after each call, and what is written there
module _ (c : tie.After-copy_at) where
  abbrev s1 : tie.Start
  s1 = c.before.before.before.before.before.before.before

  w1 : Wrote (out s1) (take (at s1) (out s1) ++ key s1) (at s1 + length (key s1)) c.copy_at.new.dst
  w1 = wrote_more (key s1) (wrote_here (at s1) (out s1) (begun s1)) refl c.copy_at.ensures c.copy_at.auto.dst

module _ (c : tie.After-copy_at-2) where
  abbrev s2 : tie.Start
  s2 = s1 c.before.before.before.before

  w2 : Wrote (out s2) ((take (at s2) (out s2) ++ key s2) ++ inverse s2) (at s2 + length (key s2) + length (inverse s2)) c.copy_at-2.new.dst
  w2 = wrote_more (inverse s2) (w1 c.before.before.before.before) refl c.copy_at-2.ensures c.copy_at-2.auto.dst

module _ (c : tie.After-copy_at-3) where
  abbrev s3 : tie.Start
  s3 = s2 c.before.before.before.before

  w3 : Wrote (out s3) (((take (at s3) (out s3) ++ key s3) ++ inverse s3) ++ first s3) (p s3) c.copy_at-3.new.dst
  w3 = wrote_more (first s3) (w2 c.before.before.before.before) refl c.copy_at-3.ensures c.copy_at-3.auto.dst

module _ (c : tie.After-copy_at-4) where
  abbrev s4 : tie.Start
  s4 = s3 c.before.before.before.before

  w4 : Wrote (out s4) ((((take (at s4) (out s4) ++ key s4) ++ inverse s4) ++ first s4) ++ product s4) (q s4) c.copy_at-4.new.dst
  w4 = wrote_more (product s4) (w3 c.before.before.before.before) refl c.copy_at-4.ensures c.copy_at-4.auto.dst

module _ (c : tie.After-store) where
  abbrev s5 : tie.Start
  s5 = s4 c.before.before.before.before

  w5 : Wrote (out s5) (((((take (at s5) (out s5) ++ key s5) ++ inverse s5) ++ first s5) ++ product s5) ++ second s5) (q s5 + wide s5)
      c.store.new.s
  w5 =
      wrote_more (second s5) (w4 c.before.before.before.before) (length_bytes_of (wide s5) s5.args.second) c.store.ensures
      c.store.auto.s

-- what has to fit into a number
module _ (c : tie.After-slice_known-1) where
  abbrev s0 : tie.Start
  s0 = c.before.before.before.before.before

  fits : q s0 + wide s0 < 2 ^ 64
  fits = omega (arith, room s0)

returns : tie.Need-returns
returns c =
    let k = c.before.before in
    let s = s5 k in
    let e : ((((take (at s) (out s) ++ key s) ++ inverse s) ++ first s) ++ product s) ++ second s
    ≡ take (at s) (out s) ++ middle (wide s) (key s) (inverse s) (first s) (product s) s.args.second = simp append_assoc in
    placed (begun s) (middle (wide s) (key s) (inverse s) (first s) (product s) s.args.second) (wrote_to refl e (w5 k))

pub write_middle_spec : {M : Type 1} → statement M
write_middle_spec =
    tie.close
    (tie.spec (λ c. omega (arith, fits c)) (λ c. omega (arith, fits c)) (λ c. omega (arith, fits c)) (λ c. omega (arith, fits c))
    (λ c κs. let s = s0 c.before in omega (arith, room s))
    (λ c κs. let k = c.before.before.before in omega (arith, room (s1 k), (w1 k).long))
    (λ c κs. let k = c.before.before.before in omega (arith, room (s2 k), (w2 k).long))
    (λ c κs. let k = c.before.before.before in omega (arith, room (s3 k), (w3 k).long))
    (λ c κs. let k = c.before.before.before in ((s4 k).requires.0, omega (arith, room (s4 k), (w4 k).long)))
    (λ c. (w5 c.before.before).long) returns)
