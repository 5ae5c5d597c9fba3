-- `squeeze::squeeze_some` meets its contract, by what `write_lanes` ensures of whole lanes, or by the law of a piece. Assumes nothing.
use mathlib.Core.Path.{◌≡◌, refl, sym, ap, ◌∙◌}
use mathlib.Core.Logic.{⊎_elim}
use mathlib.Core.List.{List}
use Prim.Native.Nat.{ℕ, ◌*◌, ◌/◌}
use borrow.Author.Rules.{rules}
use lib.ListN.{length}
use Rattle.slices.specs.Lists.{put}
use Rattle.stream.specs.Stream.{sponge, squeezed}
use Rattle.stream.proofs.Stream.{whole_takes, piece_takes}
use Rattle.stream.proofs.Output.{squeezed_piece}
use Rattle.squeeze.proofs.squeeze_some.Statement.{statement}
use Rattle.squeeze.proofs.squeeze_some.Tie as tie

-- n lanes from lane k on are 8 n bytes from byte 8 k on
by_bytes : (a d : List ℕ) (at k n m j : ℕ) {l l' : List ℕ} → at ≡ 8 * k → n ≡ m → l ≡ l'
    → l' ≡ put d j (squeezed (sponge a (8 * k)) (8 * n)) → l ≡ put d j (squeezed (sponge a at) (8 * m))
by_bytes a d at k n m j e f g h = rw (g, e, ← f) h

same_length : tie.Need-shape_of-out-after-n-eq21
same_length c = ⊎_elim (λ w. ap length w.out-is ∙ w.write_lanes.auto.out) (λ w. ap length w.out-is ∙ w.write_lanes-else-n-eq21.auto.out) c.if-n-eq21.branch-raw

returns : tie.Need-returns-after-n-eq21
returns c =
    let whole = c in
    let piece = whole in
    let start = piece in
    let a = start.args in
    let n = whole.whole-n.result in
    let t =
    whole_takes a.at (length a.out.now) a.j n start.requires.0 start.requires.1 piece.piece-w.ensures whole.if-w-eq8.true
    whole.whole-n.ensures in (
      t.0,
      t.1,
      t.2,
      ⊎_elim
          (λ w. by_bytes a.lanes.now a.out.now a.at (a.at / 8) 21 n a.j t.3 (sym w.if-n-eq21.true) w.out-is w.write_lanes.ensures)
          (λ w. by_bytes a.lanes.now a.out.now a.at (a.at / 8) n n a.j t.3 refl w.out-is w.write_lanes-else-n-eq21.ensures)
          c.if-n-eq21.branch-raw,
    )

returns-2 : tie.Need-returns-else-w-eq8
returns-2 c =
    let st = c.store in
    let piece = c in
    let start = piece in
    let a = start.args in
    let w = piece.piece-w.result in
    let t = piece_takes a.at (length a.out.now) a.j w start.requires.0 start.requires.1 piece.piece-w.ensures in (
      t.0,
      t.1,
      t.2,
      st.ensures ∙ ap (put a.out.now a.j) (sym (squeezed_piece a.lanes.now a.at w t.1 t.3)),
    )

pub squeeze_some_spec : {M : Type 1} → statement M
squeeze_some_spec =
    tie.close
    (tie.spec
    (λ c. search rules) (λ c κs. tt) (λ c κs. search rules) (λ c κs. search rules) (λ c κs. search rules) (λ c. search rules)
    (λ c. search rules) (λ c. search rules) (λ c. search rules) (λ c. search rules) (λ c κs. search rules)
    same_length returns (λ c. search rules) returns-2)
