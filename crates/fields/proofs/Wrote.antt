-- A layout written field by field. Assumes nothing.
use Rattle.std.proofs.Common.{◌≡◌, sym, ap, subst, ◌∙◌, List, ◌++◌, ℕ, suc, length, get_or, take}
use Rattle.slices.specs.Lists.{put}
use Rattle.slices.specs.Layout.{total}
use Rattle.slices.proofs.Put.{Wrote, wrote_more}
use Rattle.fields.specs.Offsets.{total_take_suc}

-- field k, where the fields before it end; the sizes were worked out
pub wrote_field : {sizes layout : List ℕ} → sizes ≡ layout → (k : ℕ) (s : List ℕ) {d p l r : List ℕ} → Wrote d p (total (take k layout)) l
    → length s ≡ get_or layout k 0 → r ≡ put l (total (take k sizes)) s → length r ≡ length l → Wrote d (p ++ s) (total (take (suc k) layout)) r
wrote_field {sizes} {layout} is k s {d} {p} {l} {r} w h e long =
    subst (λ n. Wrote d (p ++ s) n r) (sym (total_take_suc layout k))
    (wrote_more s w h (e ∙ ap (λ z. put l (total (take k z)) s) is) long)
