-- Layouts: fields that stand one after the other, told apart by their sizes. Assumes nothing.
use Rattle.std.specs.Prelude.{◌≡◌, refl, List, [], ◌∷◌, ◌++◌, ℕ, zero, suc, ◌+◌, ◌≤◌, length, get_or, take, drop}
use Rattle.std.proofs.Common.{ap, ap₂, ◌∙◌, append_assoc, arith, length-append, length-take, length-drop, take_at, drop_at}
use Rattle.slices.specs.Bytes.{Bytes, nil_bytes, append_bytes, take_bytes, drop_bytes}

-- field k of a list, where the fields have these sizes
unfoldable pub field : List ℕ → ℕ → List ℕ → List ℕ
field [] k s = []
field (n ∷ sizes) zero s = take n s
field (n ∷ sizes) (suc k) s = field sizes k (drop n s)

-- all fields' size
abbrev pub total : List ℕ → ℕ
total [] = 0
total (n ∷ sizes) = n + total sizes

-- the fields, one after the other
unfoldable pub layout : List (List ℕ) → List ℕ
layout [] = []
layout (s ∷ fields) = s ++ layout fields

-- ---- laws

pub field_nil : (sizes : List ℕ) (k : ℕ) → field sizes k [] ≡ []
unfolding field
field_nil [] k = refl
field_nil (zero ∷ sizes) zero = refl
field_nil (suc n ∷ sizes) zero = refl
field_nil (zero ∷ sizes) (suc k) = field_nil sizes k
field_nil (suc n ∷ sizes) (suc k) = field_nil sizes k

pub length_field_le : (sizes : List ℕ) (k : ℕ) (s : List ℕ) → length (field sizes k s) ≤ get_or sizes k 0
unfolding field
length_field_le [] k s = omega arith
length_field_le (n ∷ sizes) zero s = rw length-take (omega arith)
length_field_le (n ∷ sizes) (suc k) s = length_field_le sizes k (drop n s)

pub length_field : (sizes : List ℕ) (k : ℕ) (s : List ℕ) → length s ≡ total sizes → length (field sizes k s) ≡ get_or sizes k 0
unfolding field
length_field [] k s h = refl
length_field (n ∷ sizes) zero s h = rw length-take (omega arith)
length_field (n ∷ sizes) (suc k) s h = length_field sizes k (drop n s) (rw length-drop (omega arith))

pub field_bytes : (sizes : List ℕ) (k : ℕ) (s : List ℕ) → Bytes s → Bytes (field sizes k s)
unfolding field
field_bytes [] k s p = nil_bytes
field_bytes (n ∷ sizes) zero s p = take_bytes n s p
field_bytes (n ∷ sizes) (suc k) s p = field_bytes sizes k (drop n s) (drop_bytes n s p)

-- ---- what is laid out is read back

-- the fields have the sizes
abbrev pub HasSizes : List ℕ → List (List ℕ) → Type 0
HasSizes [] [] = Unit {0}
HasSizes [] (s ∷ fields) = ⊥
HasSizes (n ∷ sizes) [] = ⊥
HasSizes (n ∷ sizes) (s ∷ fields) = (length s ≡ n) × HasSizes sizes fields

pub length_layout : (sizes : List ℕ) (fields : List (List ℕ)) → HasSizes sizes fields → length (layout fields) ≡ total sizes
unfolding layout
length_layout [] [] h = refl
length_layout [] (s ∷ fields) h = absurd h
length_layout (n ∷ sizes) [] h = absurd h
length_layout (n ∷ sizes) (s ∷ fields) h = length-append s (layout fields) ∙ ap₂ ◌+◌ h.0 (length_layout sizes fields h.1)

-- field k, whatever stands behind the last
pub field_layout_append : (sizes : List ℕ) (fields : List (List ℕ)) (t : List ℕ) → HasSizes sizes fields → (k : ℕ)
    → field sizes k (layout fields ++ t) ≡ get_or fields k []
unfolding layout field
field_layout_append [] [] t h k = refl
field_layout_append [] (s ∷ fields) t h k = absurd h
field_layout_append (n ∷ sizes) [] t h k = absurd h
field_layout_append (n ∷ sizes) (s ∷ fields) t h zero = rw append_assoc (take_at s (layout fields ++ t) n h.0)
field_layout_append (n ∷ sizes) (s ∷ fields) t h (suc k) =
    ap (λ l. field sizes k (drop n l)) (append_assoc s (layout fields) t) ∙ ap (field sizes k) (drop_at s (layout fields ++ t) n h.0)
    ∙ field_layout_append sizes fields t h.1 k

-- bytes laid out are bytes
abbrev pub AllBytes : List (List ℕ) → Type 0
AllBytes [] = Unit {0}
AllBytes (s ∷ fields) = Bytes s × AllBytes fields

pub layout_bytes : (fields : List (List ℕ)) → AllBytes fields → Bytes (layout fields)
unfolding layout
layout_bytes [] h = nil_bytes
layout_bytes (s ∷ fields) h = append_bytes h.0 (layout_bytes fields h.1)
