-- One frame through the steps, as lists: what stands in it from where its offsets begin, and its fields there. Assumes nothing.
use Rattle.std.specs.Prelude.{◌≡◌, List, [], ◌∷◌, ◌++◌, ℕ, suc, ◌+◌, ◌*◌, ◌≤◌, length}
use Rattle.std.proofs.Math.Path.{sym, ap}
use Rattle.std.proofs.Common.{ap₂, ◌∙◌, append_assoc, append-nil, arith, length-append, length-drop, take-append-drop, drop_of_length-le, drop_at, take-add, drop-drop, length-take-le}
use Rattle.std.proofs.Math.ListN.{take, drop}
use Rattle.std.proofs.Math.Seq.{take_at, drop-append-add}
use Rattle.slices.specs.Lists.{part, put}
use Rattle.slices.specs.Layout.{total, field, layout}
use Rattle.slices.proofs.Put.{length_put}
use Rattle.banquet.specs.declared.Shape.{Shape}
use Rattle.banquet.specs.Shape.{tape_sizes, frame_sizes}
use Rattle.banquet.specs.Sets.{scheme_of}
use Rattle.banquet.specs.Signature.{frame_part}
use Rattle.sets.specs.Valid.{Valid}
use Rattle.sets.specs.Bounds.{all_sboxes, by_points, tape_total}
use Rattle.frames.specs.Frames.{frame_total}
use Rattle.signing.specs.Steps.{offsets_at, witness_length, opened_length}

-- ---- what is put into a list

-- where a list p ends
put_at : (p q s : List ℕ) (a : ℕ) → length p ≡ a → put (p ++ q) a s ≡ p ++ (s ++ drop (length s) q)
unfolding put
put_at p q s a h =
    ap₂ (λ x y. x ++ (s ++ y)) (take_at p q a h) (ap (λ n. drop (n + length s) (p ++ q)) (sym h) ∙ drop-append-add p q (length s))

-- behind index o
put_behind : (o a : ℕ) (d s : List ℕ) → o ≤ length d → drop o (put d (o + a) s) ≡ put (drop o d) a s
unfolding put
put_behind o a d s h =
    let n : o + a + length s ≡ o + (a + length s) = omega arith in
    ap (λ l. drop o (l ++ (s ++ drop (o + a + length s) d))) (take-add o a d)
    ∙ ap (drop o) (append_assoc (take o d) (take a (drop o d)) (s ++ drop (o + a + length s) d))
    ∙ drop_at (take o d) (take a (drop o d) ++ (s ++ drop (o + a + length s) d)) o (length-take-le o d h)
    ∙ ap (λ l. take a (drop o d) ++ (s ++ l)) (ap (λ k. drop k d) n ∙ sym (drop-drop (a + length s) o d))

-- at index o
put_there : (o : ℕ) (d s : List ℕ) → o ≤ length d → drop o (put d o s) ≡ s ++ drop (o + length s) d
unfolding put
put_there o d s h = drop_at (take o d) (s ++ drop (o + length s) d) o (length-take-le o d h)

-- ---- a frame's parts, one after the other

pub assembled : (a b k y p c f g : List ℕ)
    → a ++ (b ++ ((k ++ y) ++ (p ++ ((c ++ f) ++ g)))) ≡ layout (a ∷ b ∷ k ∷ y ∷ p ∷ c ∷ f ∷ g ∷ [])
unfolding layout
assembled a b k y p c f g = simp (append_assoc, append-nil)

-- ---- the frame: a row is put into it, then product offsets p behind the row's first elements of key and inverses, and s behind these

module _ {S : Shape} (v : Valid S) (d own p : List ℕ) (long : length d ≡ total (frame_sizes S)) (own_size : length own ≡ total (tape_sizes S))
    (p_size : length p ≡ 21 * S.wide) where
  open S use {depth, wide, m1, m2}

  abbrev n : ℕ
  n = witness_length S

  abbrev o : ℕ
  o = offsets_at S

  fits : o ≤ length d
  fits = omega (arith, frame_total v)

  abbrev begun : List ℕ
  begun = put d o own

  begun_long : length begun ≡ length d
  begun_long = length_put d o own (omega (arith, frame_total v, tape_total v))

  pub begun_row : part o (total (tape_sizes S)) begun ≡ own
  begun_row =
      ap (take (total (tape_sizes S))) (put_there o d own fits) ∙ take_at own (drop (o + length own) d) (total (tape_sizes S)) own_size

  abbrev held : List ℕ
  held = put begun (o + n) p

  held_long : length held ≡ length begun
  held_long = length_put begun (o + n) p (omega (arith, frame_total v, all_sboxes v, begun_long))

  abbrev k : List ℕ
  k = take 16 own

  abbrev y : List ℕ
  y = part 16 (m1 * m2) own

  k_size : length k ≡ 16
  k_size = length-take-le 16 own (omega (arith, tape_total v))

  y_size : length y ≡ m1 * m2
  y_size = length-take-le (m1 * m2) (drop 16 own) (omega (arith, tape_total v, all_sboxes v, length-drop 16 own))

  both_size : length (k ++ y) ≡ n
  both_size = length-append k y ∙ ap₂ ◌+◌ k_size y_size

  abbrev rest : List ℕ
  rest = drop n own ++ drop (o + length own) d

  held_tail : drop o held ≡ (k ++ y) ++ (p ++ drop (length p) rest)
  held_tail =
      put_behind o n begun p (omega (arith, begun_long, fits))
      ∙ ap (λ t. put t n p)
      (put_there o d own fits ∙ ap (◌++ drop (o + length own) d) (sym (take-append-drop n own))
      ∙ append_assoc (take n own) (drop n own) (drop (o + length own) d) ∙ ap (◌++ rest) (take-add 16 (m1 * m2) own))
      ∙ put_at (k ++ y) rest p n both_size

  pub held_products : part (o + n) (21 * wide) held ≡ p
  held_products =
      ap (take (21 * wide)) (sym (drop-drop n o held) ∙ ap (drop n) held_tail ∙ drop_at (k ++ y) (p ++ drop (length p) rest) n both_size)
      ∙ take_at p (drop (length p) rest) (21 * wide) p_size

  -- ---- its fields then

  after_commitment : drop 32 (drop (depth * 16) held) ≡ k ++ (y ++ (p ++ drop (length p) rest))
  after_commitment = drop-drop 32 (depth * 16) held ∙ held_tail ∙ append_assoc k y (p ++ drop (length p) rest)

  after_key : drop 16 (drop 32 (drop (depth * 16) held)) ≡ y ++ (p ++ drop (length p) rest)
  after_key = ap (drop 16) after_commitment ∙ drop_at k (y ++ (p ++ drop (length p) rest)) 16 k_size

  pub field_key : frame_part (scheme_of S) held 2 ≡ k
  unfolding field
  field_key = ap (take 16) after_commitment ∙ take_at k (y ++ (p ++ drop (length p) rest)) 16 k_size

  pub field_inverses : frame_part (scheme_of S) held 3 ≡ y
  unfolding field
  field_inverses = ap (take (m1 * m2)) after_key ∙ take_at y (p ++ drop (length p) rest) (m1 * m2) y_size

  pub field_products : frame_part (scheme_of S) held 4 ≡ p
  unfolding field
  field_products =
      ap (λ s. take (suc m2 * wide) (drop (m1 * m2) s)) after_key
      ∙ ap (take (suc m2 * wide)) (drop_at y (p ++ drop (length p) rest) (m1 * m2) y_size)
      ∙ take_at p (drop (length p) rest) (suc m2 * wide) (p_size ∙ sym (by_points v wide))

  -- ---- at last

  pub opened_tail : (s : List ℕ) → length s ≡ opened_length S → drop o (put held (o + n + 21 * wide) s) ≡ (k ++ y) ++ (p ++ s)
  opened_tail s h =
      let place : o + n + 21 * wide ≡ o + (n + 21 * wide) = omega arith in
      let front : length ((k ++ y) ++ p) ≡ n + 21 * wide = length-append (k ++ y) p ∙ ap₂ ◌+◌ both_size p_size in
      let left : length (drop (length p) rest) ≤ length s =
      omega (
        arith,
        length-drop (length p) rest,
        length-append (drop n own) (drop (o + length own) d),
        length-drop n own,
        length-drop (o + length own) d,
        frame_total v,
        tape_total v,
        all_sboxes v,
      ) in
      ap (λ b. drop o (put held b s)) place ∙ put_behind o (n + 21 * wide) held s (omega (arith, held_long, begun_long, fits))
      ∙ ap (λ l. put l (n + 21 * wide) s) (held_tail ∙ sym (append_assoc (k ++ y) p (drop (length p) rest)))
      ∙ put_at ((k ++ y) ++ p) (drop (length p) rest) s (n + 21 * wide) front
      ∙ ap (λ l. ((k ++ y) ++ p) ++ (s ++ l)) (drop_of_length-le (drop (length p) rest) {i = length s} left)
      ∙ ap (((k ++ y) ++ p) ++◌) (append-nil s) ∙ append_assoc (k ++ y) p s
