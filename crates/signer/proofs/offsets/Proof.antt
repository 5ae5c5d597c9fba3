-- `signer::offsets` meets its contract. Assumes nothing.
use mathlib.Core.Path.{◌≡◌, ap, ◌∙◌}
use Prim.Native.Nat.{ℕ, ◌-◌, zero-le}
use lib.ListN.{length, take, replicate}
use Rattle.slices.specs.Lists.{zip_xor}
use Rattle.slices.specs.Layout.{total}
use Rattle.banquet.specs.Shape.{tape_sizes}
use Rattle.banquet.specs.Sets.{scheme_of}
use Rattle.banquet.specs.Execution.{tape_part}
use Rattle.forms.specs.Offsets.{worked_offsets}
use Rattle.party_shares.proofs.Laws.{front_long}
use Rattle.signer.proofs.Laws.{tapes_summed, few_parties, hash_room}
use Rattle.signer.proofs.offsets.Statement.{statement}
use Rattle.signer.proofs.offsets.Tie as tie

-- ---- earlier moments

abbrev hash-sum-before-product-offsets-arg : tie.After-product_offsets-arg-1 → tie.After-hash_sum
hash-sum-before-product-offsets-arg c = c.before.before.before.before.before.before.before.before.before.before

abbrev start-before-slice-known3 : tie.After-slice_known-3-1 → tie.Start
start-before-slice-known3 c = c.before.before.before.before.before.before.before.before.before.before.before

abbrev byte-offsets-before-slice-known7 : tie.After-slice_known-7-1 → tie.After-byte_offsets
byte-offsets-before-slice-known7 c = c.before.before.before.before.before.before.before.before.before

abbrev start : tie.After-tape_length-size → tie.Start
start c = c.before.before.before.before.before.before.before.before.before.before.before.before

-- the room that is lent for the sum: as long as a tape
module _ (c : tie.After-tape_length-size) where
  long : length {A = ℕ} (take (c.tape_length-size.result - 0) (replicate 462 0)) ≡ total (tape_sizes (start c).args.set.shape)
  long = front_long (replicate 462 0) c.tape_length-size.ensures.0 c.tape_length-size.ensures.1

-- and so it stays
abbrev sized : tie.After-hash_sum → tie.After-tape_length-size
sized c = c.before.before.before

kept : (c : tie.After-hash_sum) → length c.hash_sum.new.out ≡ total (tape_sizes (start (sized c)).args.set.shape)
kept c = c.hash_sum.auto.out ∙ long (sized c)

hash-sum-requires : tie.Need-hash_sum-requires
hash-sum-requires c κs =
    let k = c.before.before in
    let p = (start k).requires in
    let v = p.0.valid in (p.1, v.some, few_parties v, p.2, hash_room v (long k))

byte-offsets-requires : tie.Need-byte_offsets-requires
byte-offsets-requires c κs =
    let h = c.before.before.before.before in
    let p = (start (sized h)).requires in (p.3, p.4, kept h, p.6, p.7)

product-offsets-requires : tie.Need-product_offsets-requires
product-offsets-requires c κs =
    let h = hash-sum-before-product-offsets-arg c in
    let p = (start (sized h)).requires in (p.0, kept h, p.5, p.8)

returns : tie.Need-returns
returns c =
    let at_product_offsets = c in
    let at_byte_offsets = at_product_offsets in
    let at_hash_sum = at_byte_offsets.before.before.before.before.before.before.before.before.before.before.before.before.before.before in
    let k = sized at_hash_sum in
    let s = start k in
    let a = s.args in
    let sum = tapes_summed s.requires.0.valid a.salt.now a.seeds.now a.e (long k) at_hash_sum.hash_sum.ensures in (
      at_byte_offsets.byte_offsets.ensures.0 ∙ ap (λ t. zip_xor a.key.now (tape_part (scheme_of a.set.shape) 0 t)) sum,
      (
        at_byte_offsets.byte_offsets.ensures.1 ∙ ap (λ t. zip_xor a.inverses.now (tape_part (scheme_of a.set.shape) 1 t)) sum,
        at_product_offsets.product_offsets.ensures
            ∙ ap (λ t. worked_offsets a.set.shape a.us.now a.vs.now a.lasts.now t a.first.now) sum,
      ),
    )

pub offsets_spec : {M : Type 1} → statement M
offsets_spec =
    tie.close
    (tie.spec (λ c κs. tt)
    (λ c. zero-le) (λ c. zero-le) (λ c. c.tape_length-size.ensures.1) hash-sum-requires byte-offsets-requires product-offsets-requires
    (λ c. (byte-offsets-before-slice-known7 c).byte_offsets.auto.offset)
    (λ c. (byte-offsets-before-slice-known7 c).byte_offsets.auto.inverse)
    (λ c. c.product_offsets.auto.out) returns)
