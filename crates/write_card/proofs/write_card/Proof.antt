-- `write_card::write_card` meets its contract: the parts are put together, and written in lines. Assumes nothing.
use mathlib.Core.List.{List}
use Prim.Native.Nat.{ℕ}
use borrow.Author.Rules.{rules}
use Rattle.write_card.proofs.Laws.{Together, text_within, card_lent, card_written}
use Rattle.write_card.proofs.write_card.Statement.{statement}
use Rattle.write_card.proofs.write_card.Tie as tie

module _ (z : tie.After-card_sizes-sizes) where
  abbrev joined : tie.After-join-end
  joined = z.before.before.before

  abbrev start : tie.Start
  start = joined.before.before.before.before.before.before

  abbrev out : List ℕ
  out = start.args.out.now

  together : Together start.args.set.shape start.args.public.now start.args.message.now start.args.signature.now
      z.before.lines-lines.result z.card_sizes-sizes.result joined.join-end.result joined.join-end.new.bytes
  together = record {
    key = start.requires.0;
    exact = start.requires.1;
    many = z.lines-lines.ensures.0;
    are = z.card_sizes-sizes.ensures;
    ends = joined.join-end.ensures.0;
    whole = joined.join-end.ensures.1;
  }

part-encode-lines-end-3 : tie.Need-slice_bounds-encode_lines-end-3
part-encode-lines-end-3 c = let z = c.before.before in text_within (together z) (out z) (start z).requires.3

encode-lines-requires : tie.Need-encode_lines-requires
encode-lines-requires c κs = let z = c.before.before.before in card_lent (together z) (out z) (start z).requires.3

returns : tie.Need-returns
returns c =
    let k = c in
    let z = k.before.before.before.before.before.before in
    card_written (together z) (out z) (start z).requires.3 k.encode_lines.ensures

pub write_card_spec : {M : Type 1} → statement M
write_card_spec =
    tie.close
    (tie.spec (λ c. search rules) (λ c κs. search rules) (λ c κs. search rules) (λ c κs. search rules) (λ c. search rules) (λ c. search rules)
    (λ c. search rules) (λ c. search rules) (λ c. search rules) (λ c. search rules) (λ c. search rules) (λ c. search rules) (λ c. search rules)
    (λ c. search rules) part-encode-lines-end-3 encode-lines-requires (λ c. search rules) returns)
