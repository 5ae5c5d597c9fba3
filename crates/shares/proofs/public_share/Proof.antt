-- `shares::public_share` is the product with 0 or 1. Assumes nothing.
use mathlib.Core.Path.{◌≡◌, sym, ap, ◌∙◌}
use mathlib.Core.List.{List}
use Prim.Native.Nat.{ℕ}
use native.Mathlib.Omega.{arith}
use lib.ListN.{length, get_or, replicate}
use borrow.Author.Rules.{rules}
use Rattle.slices.specs.Tab.{tab_cong, tab_same, tab_sized}
use Rattle.slices.specs.Bytes.{bytes_of}
use Rattle.field.specs.Field.{zero_l}
use Rattle.field.specs.Byte.{mul8, field8}
use Rattle.circuit.specs.Circuit.{public}
use Rattle.circuit.proofs.Agree.{public_one}
use Rattle.shares.proofs.public_share.Statement.{statement}
use Rattle.shares.proofs.public_share.Tie as tie

public_zero : (n : ℕ) (v : List ℕ) → replicate n 0 ≡ public 0 n v
public_zero n v = sym (tab_cong n (λ i l. zero_l 8 mul8 field8.ring (get_or v i 0)) ∙ tab_same 0 n)

returns : tie.Need-returns-then-one-eq0
returns c =
    let args = c.args in
    let zero : 0 ≡ args.one = omega arith in
    public_zero 16 args.v.now ∙ ap (λ (x : ℕ). public x 16 args.v.now) zero

returns-2 : tie.Need-returns
returns-2 c =
    let known = c in
    let args = known.args in
    let v = args.v.now in
    let one : args.one ≡ 1 = omega arith in
    let size : length v ≡ 16 = omega arith in
    c.block_at.ensures ∙ tab_sized v size
    ∙ sym (ap (λ (x : ℕ). public x 16 v) one ∙ public_one {v = v} (bytes_of known.shared_slice_known-1.given) size)

pub public_share_spec : {M : Type 1} → statement M
public_share_spec = tie.close (tie.spec returns (λ c κs. search rules) returns-2)
