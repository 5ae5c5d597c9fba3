-- `hash_inputs::first_input` meets its contract: the pieces of the input are absorbed one after the other. Assumes nothing.
use mathlib.Core.Path.{◌≡◌, ap, ◌∙◌}
use mathlib.Core.List.{List, ◌∷◌, ◌++◌}
use Prim.Native.Nat.{ℕ}
use borrow.Author.Rules.{rules}
use lib.ListN.{length}
use Rattle.slices.specs.Lists.{put}
use Rattle.slices.specs.Numbers.{bytes_of}
use Rattle.stream.specs.Stream.{absorbed}
use Rattle.stream.proofs.Stream.{joined}
use Rattle.hash_inputs.proofs.first_input.Statement.{statement}
use Rattle.hash_inputs.proofs.first_input.Tie as tie

-- the array holds the message's length
number : (c : tie.After-store) → c.store.new.s ≡ bytes_of 4 (length c.before.before.before.before.before.before.args.message.now)
unfolding put bytes_of
number c = c.store.ensures

returns : tie.Need-returns
returns c =
    let third = c in
    let second = third in
    let store = second.before.before.before.before.before in
    let first = store in
    let a = first.args in
    let m = a.message.now in
    let head : List ℕ = 1 ∷ a.public.now in
    let size = bytes_of 4 (length m) in
    joined (head ++ size ++ m) a.salt.now
    (joined (head ++ size) m
    (joined head size first.tagged-a.ensures (second.absorb-b.ensures ∙ ap (absorbed first.tagged-a.result) (number store)))
    third.absorb-c.ensures) c.absorb.ensures

pub first_input_spec : {M : Type 1} → statement M
first_input_spec =
    tie.close
    (tie.spec (λ c κs. search rules) (λ c. search rules) (λ c κs. search rules) (λ c. search rules) (λ c κs. search rules)
    (λ c κs. search rules) (λ c κs. search rules) returns)
