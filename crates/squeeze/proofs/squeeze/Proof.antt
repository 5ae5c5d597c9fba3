-- `squeeze::squeeze` meets its contract: at the loop's head the first j bytes of output are written. Assumes nothing.
use mathlib.Core.Path.{◌≡◌, refl, ap, ◌∙◌}
use mathlib.Core.Logic.{⊎_elim}
use Prim.Native.Nat.{◌≤◌, ◌<◌, ◌-◌}
use native.Mathlib.Omega.{arith}
use borrow.Author.Rules.{rules}
use lib.ListN.{length}
use Rattle.slices.proofs.Put.{Wrote, wrote_none}
use Rattle.shake.specs.Padding.{rate}
use Rattle.stream.specs.Stream.{sponge, ready, squeezed, rest}
use Rattle.stream.proofs.Stream.{ready_full, ready_more, ready_room}
use Rattle.stream.proofs.Output.{rest_turn, squeeze_turn, squeeze_end}
use Rattle.squeeze.proofs.squeeze.Statement.{statement}
use Rattle.squeeze.proofs.squeeze.Tie as tie

abbrev invariant-loop : tie.invariant-loop-j
invariant-loop out₀ lanes₀ at₀ j₀ out lanes at j =
    (j ≤ length out₀) × (sponge lanes at ≡ rest (sponge lanes₀ at₀) j) × Wrote out₀ (squeezed (sponge lanes₀ at₀) j) j out

abbrev decreases-loop : tie.decreases-loop-j
decreases-loop out₀ lanes₀ at₀ j₀ out lanes at j = length out₀ - j

-- past the branch the sponge is ready for a byte
is_ready : (c : tie.Joined-at-ge168 invariant-loop decreases-loop)
    → let h = c.before.before.loop-j in sponge c.if-at-ge168.lanes c.if-at-ge168.at ≡ ready (sponge h.lanes h.at)
is_ready c =
    ⊎_elim (λ w. ready_full _ w.if-at-ge168.true (w.lanes-is ∙ w.permute.ensures) w.at-is) (λ w. ready_more _ w.if-at-ge168.false w.lanes-is w.at-is) c.if-at-ge168.branch-raw

has_room : (c : tie.Joined-at-ge168 invariant-loop decreases-loop) → c.if-at-ge168.at < rate
has_room c = ready_room _ (is_ready c)

loop-holds : tie.Need-loop-j-init invariant-loop decreases-loop
unfolding squeezed rest
loop-holds c = (omega arith, refl, wrote_none _)

loop-again : tie.Need-loop-j-preserved invariant-loop decreases-loop
loop-again c =
    let call = c.squeeze_some-w in
    let r = c.before.before.before.before.before.before in
    let h = r in
    let a = h.args in
    let j = h.loop-j.j in
    let w = call.result in
    let e = call.ensures in
    let size = h.loop-j.invariant.2.long in (
      omega (arith, e.2),
      rest_turn a.s r.if-at-ge168.lanes r.if-at-ge168.at j w h.loop-j.invariant.1 (is_ready r) e.0 e.1,
      squeeze_turn a.s r.if-at-ge168.lanes r.if-at-ge168.at j w h.loop-j.invariant.1 (is_ready r) e.0 e.1 h.loop-j.invariant.2 e.3 call.auto.out,
    )

same_length : tie.Need-shape_of-out invariant-loop decreases-loop
same_length c = c.loop-j.invariant.2.long

returns : tie.Need-returns invariant-loop decreases-loop
returns c =
    let h = c.loop-j in
    let a = c.args in
    let end : h.j ≡ length a.out.now = omega (arith, h.invariant.2.long) in
    (squeeze_end a.s h.invariant.2 end, h.invariant.1 ∙ ap (rest a.s) end)

pub squeeze_spec : {M : Type 1} → statement M
squeeze_spec =
    tie.close
    (tie.spec invariant-loop decreases-loop loop-holds (λ c κs. tt) (λ c κs. (has_room c.before.before, search rules))
    (λ c. search rules) (λ c. search rules) (λ c. search rules) loop-again same_length returns)
