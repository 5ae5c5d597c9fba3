-- Pieces absorbed one after the other: of one more row, of one more execution; and the hash of them all. Assumes nothing.
use mathlib.Core.Path.{◌≡◌, refl, sym, ap, ap₂, ◌∙◌}
use mathlib.Core.List.{List, ◌++◌}
use Prim.Native.Nat.{ℕ, ◌+◌, ◌-◌, ◌*◌, ◌≤◌}
use native.Mathlib.Numerals.{add-one}
use lib.ListN.{take, drop}
use Rattle.slices.specs.Lists.{rows, row, part}
use Rattle.slices.specs.Bytes.{Bytes, append_bytes}
use Rattle.shake.specs.Shake128.{shake128}
use Rattle.columns.specs.Column.{column_of}
use Rattle.columns.proofs.Laws.{cell_cut}
use Rattle.stream.specs.declared.Sponge.{Sponge}
use Rattle.stream.specs.Stream.{empty, absorbed, finished, squeezed}
use Rattle.stream.proofs.Stream.{absorbed_append, joined}
use Rattle.stream.proofs.Shake.{output}

-- t has absorbed the parts of i rows, and u what the code writes `&rows[i * stride + at..i * stride + at + len]` besides
pub one_more : (stride at len i : ℕ) (rows : List ℕ) (s : Sponge) {t u : Sponge} → at + len ≤ stride → t ≡ absorbed s (column_of i stride at len rows)
    → u ≡ absorbed t (take (i * stride + at + len - (i * stride + at)) (drop (i * stride + at) rows))
    → u ≡ absorbed s (column_of (i + 1) stride at len rows)
one_more stride at len i rows s h p q =
    q ∙ ap₂ absorbed p (cell_cut stride at len i rows h)
    ∙ sym (absorbed_append s (column_of i stride at len rows) (part at len (row stride i rows)))
    ∙ ap (λ (k : ℕ). absorbed s (column_of k stride at len rows)) (sym (add-one i))

-- ---- pieces absorbed one after the other

-- one piece more
pub more : (s : Sponge) {t u : Sponge} (a b : List ℕ) → t ≡ absorbed s a → u ≡ absorbed t b → u ≡ absorbed s (a ++ b)
more s a b e f = f ∙ ap (λ x. absorbed x b) e ∙ sym (absorbed_append s a b)

-- one execution more
pub part_more : (part : ℕ → List ℕ) (e : ℕ) (start : Sponge) {t u : Sponge} → t ≡ absorbed start (rows part e) → u ≡ absorbed t (part e)
    → u ≡ absorbed start (rows part (e + 1))
part_more part e start p q =
    more start (rows part e) (part e) p q ∙ ap (λ (k : ℕ). absorbed start (rows part k)) (sym (add-one e))

-- what was absorbed first, and then the parts of all executions
pub hashed : (head parts : List ℕ) {s t : Sponge} → Bytes head → Bytes parts → s ≡ absorbed empty head → t ≡ absorbed s parts
    → squeezed (finished t) 32 ≡ shake128 (head ++ parts) 32
hashed head parts p q e f = output (head ++ parts) 32 (append_bytes p q) (joined head parts e f) refl
