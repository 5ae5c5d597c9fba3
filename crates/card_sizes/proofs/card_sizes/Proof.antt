-- `card_sizes::card_sizes` meets its contract. Assumes nothing.
use borrow.Author.Rules.{rules}
use Rattle.card_sizes.proofs.Laws.{sizes_are}
use Rattle.card_sizes.proofs.card_sizes.Statement.{statement}
use Rattle.card_sizes.proofs.card_sizes.Tie as tie

returns : tie.Need-returns
returns c =
    let f = c in
    let s = f in
    sizes_are s.args.set.shape s.args.m s.args.set.valid.brief c.public_key_length.ensures.0 f.frame_length-sizes.ensures.0

pub card_sizes_spec : {M : Type 1} → statement M
card_sizes_spec =
    tie.close
    (tie.spec (λ c κs. search rules) (λ c κs. search rules) (λ c. search rules) (λ c. search rules) (λ c. search rules) returns)
