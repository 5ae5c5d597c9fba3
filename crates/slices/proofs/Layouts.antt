-- Laws of specs/Layout, which stand here so that an edit of what they rest on is refused by a fact. Assumes nothing.
use Rattle.std.specs.Prelude.{◌≡◌, List, [], ℕ, get_or}
use Rattle.std.proofs.Common.{sym, ap, ◌∙◌, append-nil}
use Rattle.slices.specs.Bytes.{Sized}
use Rattle.slices.specs.Layout.{field, total, layout, length_field, field_bytes, HasSizes, field_layout_append}

pub sized_field : (sizes : List ℕ) (k : ℕ) {s : List ℕ} → Sized (total sizes) s → Sized (get_or sizes k 0) (field sizes k s)
sized_field sizes k {s} h = record { size = length_field sizes k s h.size; bytes = field_bytes sizes k s h.bytes }

pub field_layout : (sizes : List ℕ) (fields : List (List ℕ)) → HasSizes sizes fields → (k : ℕ) → field sizes k (layout fields) ≡ get_or fields k []
field_layout sizes fields h k = ap (field sizes k) (sym (append-nil (layout fields))) ∙ field_layout_append sizes fields [] h k
