-- A slice written part by part, and how long the parts of an opening are. Assumes nothing.
use mathlib.Core.Path.{◌≡◌, refl, sym, ap, subst, ◌∙◌}
use mathlib.Core.List.{List, ◌++◌, append-nil, append_assoc}
use Prim.Native.Nat.{ℕ, suc, ◌+◌, ◌*◌, ◌^◌, ◌<◌, ◌≤◌}
use native.Mathlib.Omega.{arith}
use lib.Dec.{lit<}
use lib.ListN.{length, get_or, take, drop, length-append, length-drop, take-append-drop, drop_of_length-le}
use lib.Seq.{length-take-le}
use Rattle.slices.specs.Lists.{row, put}
use Rattle.slices.specs.Tab.{row_fits, length_rows}
use Rattle.slices.specs.Layout.{total, length_field}
use Rattle.slices.specs.Numbers.{length_bytes_of}
use Rattle.slices.proofs.Put.{Wrote, front, wrote_all, wrote_more}
use Rattle.shake.proofs.Laws.{length_shake}
use Rattle.banquet.specs.declared.Shape.{Shape}
use Rattle.banquet.specs.Shape.{transcript_sizes}
use Rattle.banquet.specs.Sets.{scheme_of}
use Rattle.banquet.specs.Hash.{commitment}
use Rattle.fields.specs.Offsets.{sizes_fit}
use Rattle.fields.proofs.Wrote.{wrote_field}
use Rattle.sets.specs.Valid.{Valid}
use Rattle.sets.specs.Bounds.{row_sizes}
use Rattle.sets.proofs.Bounds.{row_most, transcript_most}
use Rattle.write_opening.specs.Written.{head, middle, field_column, written_transcript}

-- ---- parts written one after the other

-- nothing is written from index at on
pub wrote_here : (at : ℕ) (d : List ℕ) → at ≤ length d → Wrote d (take at d) at d
unfolding front
wrote_here at d h = record {
  is = sym (ap (λ (n : ℕ). take at d ++ drop n d) (length-take-le at d h) ∙ take-append-drop at d);
  size = length-take-le at d h;
  long = refl;
}

-- p is written from index at on
pub placed : {d l : List ℕ} {at n : ℕ} → at ≤ length d → (p : List ℕ) → Wrote d (take at d ++ p) n l → l ≡ put d at p
unfolding put
placed {d} {l} {at} {n} h p w =
    let e : n ≡ at + length p = sym w.size ∙ length-append (take at d) p ∙ ap (λ (k : ℕ). k + length p) (length-take-le at d h) in
    wrote_all w ∙ append_assoc (take at d) p (drop n d) ∙ ap (λ (k : ℕ). take at d ++ (p ++ drop k d)) e

-- the part up to where it ends is written in another way
pub wrote_to : {d p q l : List ℕ} {n m : ℕ} → n ≡ m → p ≡ q → Wrote d p n l → Wrote d q m l
wrote_to {d} {p} {q} {l} {n} {m} e f w = subst (λ q. Wrote d q m l) f (subst (λ m. Wrote d p m l) e w)

-- a callee has written s from n on, where s ends at m
pub wrote_put : (s : List ℕ) {d p l r : List ℕ} {n m at : ℕ} → Wrote d p n l → at ≡ n → r ≡ put l at s → m ≡ n + length s → length r ≡ length l
    → Wrote d (p ++ s) m r
wrote_put s {d} {p} {l} {r} {n} {m} {at} w a e k h =
    wrote_to (sym k) refl (wrote_more s w refl (e ∙ ap (λ (i : ℕ). put l i s) a) h)

-- all elements are written
pub wrote_whole : {d p l : List ℕ} {n : ℕ} → Wrote d p n l → length d ≤ n → l ≡ p
wrote_whole {d} {p} {l} {n} w h = wrote_all w ∙ ap (p ++◌) (drop_of_length-le d h) ∙ append-nil p

-- ---- how long they are

pub head_long : (S : Shape) (salt : List ℕ) (e : ℕ) (seeds : List ℕ) → length salt ≡ 32
    → length (head S salt e seeds) ≡ total (take 3 (transcript_sizes S))
unfolding commitment
head_long S salt e seeds h =
    let commits = length_rows 32 (λ i. commitment (scheme_of S) salt e i (row 16 i seeds)) S.parties (λ j l. length_shake _ 32) in
    rw (length-append, commits) (omega (arith, h))

pub middle_long : (wide : ℕ) (key inverse first product : List ℕ) (second : ℕ)
    → length (middle wide key inverse first product second) ≡ length key + (length inverse + (length first + (length product + wide)))
middle_long wide key inverse first product second = simp (length-append, length_bytes_of)

pub column_long : (parts : List ℕ) (k n : ℕ) (s : List ℕ) → length s ≡ n * total parts → length (field_column parts k n s) ≡ n * get_or parts k 0
column_long parts k n s h =
    length_rows (get_or parts k 0) _ n
    (λ i l.
    length_field parts k (row (total parts) i s)
    (length-take-le (total parts) (drop (i * total parts) s) (omega (arith, row_fits (total parts) l, length-drop (i * total parts) s, h))))

-- ---- column k of the parties' rows s, written as field f of a transcript

-- the sizes that were worked out, and the rows
pub record Known (S : Shape) (sizes parts s : List ℕ) : Type 0 where
  pub valid : Valid S
  pub sizes_are : sizes ≡ transcript_sizes S
  pub parts_are : parts ≡ row_sizes S
  pub rows_long : length s ≡ S.parties * total (row_sizes S)

module _ {S : Shape} {sizes parts s : List ℕ} (z : Known S sizes parts s) (f k : ℕ)
    (g : get_or (transcript_sizes S) f 0 ≡ S.parties * get_or (row_sizes S) k 0) where
  long : length s ≡ S.parties * total parts
  long = rw z.parts_are z.rows_long

  size_is : get_or sizes f 0 ≡ S.parties * get_or parts k 0
  size_is = rw (z.sizes_are, z.parts_are) g

  pub column_asked : (l : List ℕ) → f < 12 → k < 4 → total (transcript_sizes S) ≤ length l
      → (f < length sizes) × (total sizes ≤ length l) × (total sizes < 2 ^ 63) × (k < length parts) × (total parts < 2 ^ 63)
      × (length s ≡ S.parties * total parts) × (get_or sizes f 0 ≡ S.parties * get_or parts k 0)
  column_asked l n m e = (
    rw z.sizes_are (omega arith),
    rw z.sizes_are e,
    sizes_fit z.sizes_are (transcript_most z.valid) (lit< tt),
    rw z.parts_are (omega arith),
    sizes_fit z.parts_are (row_most z.valid) (lit< tt),
    long,
    size_is,
  )

  pub wrote_column : {d q l r : List ℕ} → Wrote d q (total (take f (transcript_sizes S))) l
      → r ≡ put l (total (take f sizes)) (field_column parts k S.parties s) → length r ≡ length l
      → Wrote d (q ++ field_column parts k S.parties s) (total (take (suc f) (transcript_sizes S))) r
  wrote_column w e kept =
      wrote_field z.sizes_are f (field_column parts k S.parties s) w
      (column_long parts k S.parties s long ∙ sym size_is ∙ ap (λ n. get_or n f 0) z.sizes_are) e kept

-- the parts of a transcript, written so
six : (a b c d e f : List ℕ) → ((((a ++ b) ++ c) ++ d) ++ e) ++ f ≡ a ++ (b ++ (c ++ (d ++ (e ++ f))))
six a b c d e f = simp append_assoc

pub laid : (S : Shape) (salt : List ℕ) (e : ℕ) (seeds key inverse first product : List ℕ) (second : ℕ) (s : List ℕ) {parts : List ℕ}
    → parts ≡ row_sizes S
    → ((((head S salt e seeds ++ field_column parts 0 S.parties s) ++ middle S.wide key inverse first product second)
    ++ field_column parts 1 S.parties s) ++ field_column parts 2 S.parties s) ++ field_column parts 3 S.parties s
    ≡ written_transcript S salt e seeds key inverse first product second s
unfolding written_transcript
laid S salt e seeds key inverse first product second s cut = rw cut (six (head S salt e seeds) _ _ _ _ _)
