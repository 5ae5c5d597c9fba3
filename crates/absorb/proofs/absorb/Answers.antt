-- A turn absorbs some of what is left, by the sponge made ready.
use Rattle.std.proofs.Common.{◌≡◌, ◌∙◌, refl, sym, ap, List, [], ◌∷◌, ℕ, ◌-◌, length, drop, take_all, length-drop, arith}
use borrow.Author.Tests.{eqb-true}
use Rattle.stream.specs.declared.Sponge.{Sponge}
use Rattle.stream.specs.Stream.{sponge, ready, absorbed}
use Rattle.stream.proofs.Stream.{ready_full, ready_more}
use Rattle.stream.proofs.Input.{absorb_turn}
use Rattle.absorb.proofs.absorb.Goals as goal
use Rattle.absorb.proofs.absorb.Goals.{then-at-ge168, else-at-ge168}

none_left : (s : Sponge) (l : List ℕ) → length l ≡ 0 → s ≡ absorbed s l
unfolding absorbed
none_left s [] e = refl
none_left s (b ∷ l) e = absurd (omega arith)

pub loop-rest-preserved : goal.loop-rest-preserved
loop-rest-preserved c =
    let l = c.loop-rest in
    let rest = l.rest.now in
    let w = c.absorb_some-w.result in
    let e = c.absorb_some-w.ensures in
    let is_ready : sponge c.if-at-ge168.lanes c.if-at-ge168.at ≡ ready (sponge l.lanes l.at) =
    elim c.if-at-ge168.branch [
      | then-at-ge168 b ↦ ready_full _ b.if-at-ge168.true (b.lanes-is ∙ b.permute.ensures) b.at-is
      | else-at-ge168 b ↦ ready_more _ b.if-at-ge168.false b.lanes-is b.at-is
    ] in
    ap (absorbed _) (take_all (length rest - w) (drop w rest) (omega (arith, length-drop w rest)))
    ∙ absorb_turn (sponge l.lanes l.at) rest w is_ready e.0 e.2 e.3 ∙ l.invariant

pub returns : goal.returns
returns c =
    none_left _ c.loop-rest.rest.now (eqb-true _ _ (sym c.is_empty.ensures ∙ c.loop-rest-test.false)) ∙ c.loop-rest.invariant
