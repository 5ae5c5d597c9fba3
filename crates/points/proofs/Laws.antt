-- The powers of y in the field of 32 bits and in that of 48; the tables of Lagrange's values. Assumes nothing.
use Rattle.std.proofs.Common.{◌≡◌, ◌≢◌, sym, ap, ap₂, ◌∙◌, List, ℕ, ◌*◌, length, get_or, take, get_or-take, arith, eq-eqb, ne_eqb}
use Rattle.slices.specs.Lists.{tab, rows}
use Rattle.slices.specs.Tab.{get_d_tab, rows_cong}
use Rattle.field.specs.Wide32.{powers32}
use Rattle.wide48.specs.Wide48.{powers48}
use Rattle.tables.specs.Tables.{table_of}
use Rattle.banquet.specs.declared.Shape.{Shape}
use Rattle.sets.specs.Valid.{Valid}
use Rattle.sets.specs.Laws.{powers_of}
use Rattle.forms.specs.Point.{near, tables_at}

pub powers_32 : (S : Shape) → S.wide ≡ 4 → powers32 ≡ powers_of S
unfolding powers_of
powers_32 S e = rw (eq-eqb S.wide 4 e)

pub powers_48 : (S : Shape) → S.wide ≢ 4 → powers48 ≡ powers_of S
unfolding powers_of
powers_48 S e = rw (ne_eqb S.wide 4 e)

module _ {S : Shape} (v : Valid S) where
  open S use {wide, low}

  -- the tables of the first twenty of 21 values
  pub tables_right : (x : ℕ) {w l : ℕ} {values powers out : List ℕ} → w ≡ 8 * wide → l ≡ low → values ≡ tab (near S x) 21 → powers ≡ powers_of S
      → out ≡ rows (λ k. table_of w l powers (get_or (take 20 values) k 0)) (length (take 20 values)) → out ≡ tables_at S x
  tables_right x {w} {l} {values} {powers} a b e p h =
      h ∙ ap (rows _) (ap (λ s. length (take 20 s)) e)
      ∙ rows_cong 20
      (λ k t. ap₂ (λ w l. table_of w l powers (get_or (take 20 values) k 0)) a b
      ∙ ap₂ (table_of (8 * wide) low) p (get_or-take 20 values k 0 t ∙ ap (λ s. get_or s k 0) e ∙ get_d_tab (near S x) 21 k 0 (omega arith)))
      ∙ ap (rows (λ k. table_of (8 * wide) low (powers_of S) (near S x k))) (sym v.twenty)
