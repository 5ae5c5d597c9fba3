-- The text of a card of any set: its parts put together, how long it is, and what is written of it. Assumes nothing.
use mathlib.Core.Path.{◌≡◌, refl, sym, ap, subst, ◌∙◌}
use mathlib.Core.List.{List, [], ◌∷◌, ◌++◌, append_assoc}
use Prim.Native.Nat.{ℕ, ◌+◌, ◌-◌, ◌*◌, ◌≤◌}
use native.Mathlib.Nat.{zero-add, sub-zero}
use native.Mathlib.Omega.{arith}
use lib.ListN.{length, take, drop, length-append, length-drop}
use lib.Seq.{take_at, length-take-le}
use Rattle.slices.specs.Lists.{put}
use Rattle.slices.specs.Layout.{total}
use Rattle.slices.proofs.Put.{Wrote, wrote_none, wrote_more, wrote_all, front_long}
use Rattle.banquet.specs.declared.Shape.{Shape}
use Rattle.banquet.specs.Shape.{public_key_length, signature_length}
use Rattle.banquet.specs.Card.{encoded, encoded_lines, card_sizes, card_text}
use Rattle.banquet.specs.Sets.{scheme_of}
use Rattle.hex_digits.specs.Hex.{length_encoded}
use Rattle.card_theorems.specs.Cards.{card_length}
use Rattle.card_sizes.specs.Lines.{lines_of, sizes_many, sizes_total, length_is, sizes_lent}

-- two digits a byte, and an end for each line
pub length_encoded_lines : (sizes s : List ℕ) → length s ≡ total sizes → length (encoded_lines sizes s) ≡ 2 * total sizes + length sizes
unfolding encoded_lines
length_encoded_lines [] s h = refl
length_encoded_lines (size ∷ sizes) s h =
    let k = length_encoded_lines sizes (drop size s) (omega (arith, length-drop size s)) in
    omega (
      arith,
      k,
      length-append (encoded (take size s)) (0x0a ∷ encoded_lines sizes (drop size s)),
      length_encoded (take size s),
      length-take-le size s (omega arith),
    )

module _ (public message signature : List ℕ) where
  -- how many bytes the parts have
  abbrev pub size : ℕ
  size = length public + length message + length signature

  whole_long : length (public ++ (message ++ signature)) ≡ size
  whole_long = omega (arith, length-append public (message ++ signature), length-append message signature)

  -- each part is written where the one before ends
  pub joined : (d : List ℕ) {a b c : List ℕ} → a ≡ put d 0 public → length a ≡ length d → b ≡ put a (length public) message → length b ≡ length a
      → c ≡ put b (length public + length message) signature → length c ≡ length b → take size c ≡ public ++ (message ++ signature)
  joined d {a} {b} {c} ea ka eb kb ec kc =
      let w1 : Wrote d public (length public) a =
      subst (λ (n : ℕ). Wrote d public n a) (zero-add (length public)) (wrote_more public (wrote_none d) refl ea ka) in
      let w2 : Wrote d (public ++ message) (length public + length message) b = wrote_more message w1 refl eb kb in
      let w3 : Wrote d ((public ++ message) ++ signature) size c = wrote_more signature w2 refl ec kc in
      ap (take size) (wrote_all w3) ∙ take_at ((public ++ message) ++ signature) (drop size d) size w3.size ∙ append_assoc public message signature

-- what is known when a card's parts, of a set, have been put together at the front of bytes: they end there, and these are the sizes of its lines
pub record Together (S : Shape) (public message signature : List ℕ) (lines : ℕ) (sizes : List ℕ) (end : ℕ) (bytes : List ℕ) : Type 0 where
  pub key : length public ≡ public_key_length S
  pub exact : length signature ≡ signature_length S
  pub many : lines ≡ lines_of S
  pub are : take (lines_of S) sizes ≡ card_sizes S (length message)
  pub ends : end ≡ size public message signature
  pub whole : take end bytes ≡ public ++ (message ++ signature)

module _ {S : Shape} {public message signature : List ℕ} {lines : ℕ} {sizes : List ℕ} {end : ℕ} {bytes : List ℕ}
    (t : Together S public message signature lines sizes end bytes) (d : List ℕ) (room : card_length S (length message) ≤ length d) where
  -- what is lent: the bytes, the sizes, and the front of the output
  abbrev lent : List ℕ
  lent = take (end - 0) bytes

  abbrev own : List ℕ
  own = take (lines - 0) sizes

  abbrev n : ℕ
  n = 2 * end + lines

  lent_is : lent ≡ public ++ (message ++ signature)
  lent_is = ap (λ (k : ℕ). take k bytes) (sub-zero end) ∙ t.whole

  own_is : own ≡ card_sizes S (length message)
  own_is = sizes_lent S (length message) sizes t.many t.are

  own_total : total own ≡ end
  own_total = ap total own_is ∙ sizes_total S (length message) ∙ omega (arith, t.key, t.exact, t.ends)

  own_many : length own ≡ lines
  own_many = ap length own_is ∙ sizes_many S (length message) ∙ sym t.many

  lent_long : length lent ≡ total own
  lent_long = ap length lent_is ∙ whole_long public message signature ∙ sym t.ends ∙ sym own_total

  pub text_within : n ≤ length d
  text_within = omega (arith, room, length_is S (length message), t.many, t.ends, t.key, t.exact)

  pub card_lent : (length lent ≡ total own) × (length (take (n - 0) d) ≡ 2 * total own + length own)
  card_lent = (lent_long, front_long n d text_within ∙ omega (arith, own_total, own_many))

  pub card_written : {y : List ℕ} → y ≡ encoded_lines own lent
      → (n ≡ length (card_text (scheme_of S) public message signature))
      × (y ++ drop (n - 0) d ≡ card_text (scheme_of S) public message signature ++ drop n d)
  unfolding card_text
  card_written w =
      let same : encoded_lines own lent ≡ card_text (scheme_of S) public message signature = rw (own_is, lent_is) in
      let long = length_encoded_lines own lent lent_long in
      (omega (arith, long, own_total, own_many, ap length same), rw (w ∙ same, sub-zero))
