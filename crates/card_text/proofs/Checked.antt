-- A card's text by what `read_lines` told of it and what `check` answered to its parts. Assumes nothing.
use Rattle.std.specs.Prelude.{Err, IsErrAnd}
use mathlib.Core.Path.{◌≡◌, sym, ap, ◌∙◌}
use mathlib.Core.List.{List}
use Prim.Native.Nat.{ℕ, ◌+◌, ◌-◌, ◌/◌, ◌≤◌, ◌<◌}
use native.Mathlib.Nat.{sub-zero}
use native.Mathlib.Omega.{arith}
use lib.ListN.{length, take, drop, replicate, length-replicate}
use Rattle.slices.specs.Layout.{total}
use Rattle.banquet.specs.declared.Shape.{Shape}
use Rattle.banquet.specs.Shape.{message_limit, public_key_length, signature_length}
use Rattle.banquet.specs.declared.Refusal.{Refusal}
use Rattle.banquet.specs.Answer.{Answer, accepted, output_after}
use Rattle.banquet.specs.Calls.{checked, checked_after, verify}
use Rattle.banquet.specs.Card.{decoded, line_of, after_line, decoded_lines, check_lines, card_sizes, verify_card}
use Rattle.banquet.specs.Sets.{base, scheme_of}
use Rattle.card_sizes.specs.Lines.{lines_of, card_bytes, sizes_many, sizes_total, sizes_lent}
use Rattle.card_text.specs.Reading.{form, card_broken, text_long, message_long, form_answer, key_part, message_part, signature_part}

-- the sizes of a card's lines, of which the first are lent
module _ (S : Shape) {lines : ℕ} (sizes : List ℕ) (l : lines ≡ lines_of S) (z : take (lines_of S) sizes ≡ card_sizes S message_limit) where
  own_is : take (lines - 0) sizes ≡ card_sizes S message_limit
  own_is = sizes_lent S message_limit sizes l z

  own_many : length (take (lines - 0) sizes) ≡ lines_of S
  own_many = ap length own_is ∙ sizes_many S message_limit

  pub sizes_room : (bytes : List ℕ) → lines ≤ 44 → card_bytes S message_limit ≤ length bytes
      → (length (take (lines - 0) sizes) < 255) × (total (take (lines - 0) sizes) ≤ length bytes)
  sizes_room bytes few room = (omega (arith, own_many, l, few), omega (arith, ap total own_is, sizes_total S message_limit, room))

-- a text that was read: how many lines it has to have, their sizes, and the answer of `read_lines`
pub record Told (S : Shape) (text : List ℕ) (lines : ℕ) (sizes : List ℕ) (a : Answer) : Type 0 where
  pub many : lines ≡ lines_of S
  pub are : take (lines_of S) sizes ≡ card_sizes S message_limit
  pub answer : a ≡ check_lines 2 (take (lines - 0) sizes) 1 text accepted

module _ {S : Shape} {text : List ℕ} {lines : ℕ} {sizes : List ℕ} {a : Answer} (t : Told S text lines sizes a) where
  answer_is : a ≡ form (scheme_of S) text
  answer_is = t.answer ∙ ap (λ (s : List ℕ). check_lines 2 s 1 text accepted) (own_is S sizes t.many t.are)

  pub card_refused : (work : List ℕ) {refusal : Refusal} → a ≡ Err refusal → {r : Answer} → IsErrAnd r (λ e. e ≡ refusal)
      → checked r work ≡ verify_card (scheme_of S) text work
  card_refused work h up = card_broken (scheme_of S) text work answer_is h up

  module _ (h : a ≡ accepted) where
    held : form (scheme_of S) text ≡ accepted
    held = sym answer_is ∙ h

    abbrev message : List ℕ
    message = decoded (line_of (after_line text))

    -- where its signature ends
    abbrev end : ℕ
    end = (length text - lines) / 2

    pub lines_within : lines ≤ length text
    lines_within = omega (arith, text_long (scheme_of S) text held, t.many)

    end_is : end ≡ card_bytes S (length message)
    end_is = omega (arith, text_long (scheme_of S) text held, t.many)

    -- for a public key and a signature of these lengths
    module _ {key size : ℕ} (k : key ≡ public_key_length S) (s : size ≡ signature_length S) where
      -- where its message ends
      abbrev start : ℕ
      start = end - size

      start_is : start ≡ key + length message
      start_is = omega (arith, end_is, k, s)

      pub parts_within : (bytes : List ℕ) → card_bytes S message_limit ≤ length bytes
          → (size ≤ end) × (key ≤ start) × (start ≤ end) × (end ≤ length bytes)
      parts_within bytes room =
          (omega (arith, end_is, s), omega (arith, start_is), omega arith, omega (arith, end_is, message_long (scheme_of S) text held, room))

      pub card_checked : (work bytes d : List ℕ) {r : Answer} {left : List ℕ}
          → bytes ≡ output_after a (decoded_lines (length (take (lines - 0) sizes)) text) d
          → checked r left
          ≡ verify (scheme_of S) (take (key - 0) bytes) (take (start - key) (drop key bytes)) (take (end - start) (drop start bytes)) work
          → checked r left ≡ verify_card (scheme_of S) text work
      card_checked work bytes d b answered =
          let to : end ≡ start + signature_length S = omega (arith, end_is, s) in
          let read : bytes ≡ output_after accepted (decoded_lines (lines_of S) text) d =
          b ∙ ap (λ (x : Answer). output_after x (decoded_lines (length (take (lines - 0) sizes)) text) d) h
          ∙ ap (λ (n : ℕ). output_after accepted (decoded_lines n text) d) (own_many S sizes t.many t.are) in
          let first = ap (λ (n : ℕ). take n bytes) (sub-zero key) ∙ key_part (scheme_of S) text held bytes d read k start_is to in
          let second = message_part (scheme_of S) text held bytes d read k start_is to in
          let third = signature_part (scheme_of S) text held bytes d read k start_is to in
          (rw (first, second, third) at answered) ∙ ap (λ (x : Answer). checked_after x work) (sym (form_answer (scheme_of S) text held work))

-- there is room for what the longest card stands for
abbrev pub room : List ℕ
room = replicate (card_bytes base message_limit) 0

pub card_room : (S : Shape) (bytes : List ℕ) → card_bytes S message_limit ≤ card_bytes base message_limit → length bytes ≡ length room
    → card_bytes S message_limit ≤ length bytes
card_room S bytes most long = omega (arith, most, long, length-replicate {A = ℕ} (card_bytes base message_limit) 0)

-- where the parts lie in the bytes that were read
pub parts_lie : (S : Shape) (text sizes bytes : List ℕ) {lines key size : ℕ} {a : Answer}
    → lines ≡ lines_of S → take (lines_of S) sizes ≡ card_sizes S message_limit → a ≡ check_lines 2 (take (lines - 0) sizes) 1 text accepted
    → a ≡ accepted → key ≡ public_key_length S → size ≡ signature_length S
    → card_bytes S message_limit ≤ card_bytes base message_limit → length bytes ≡ length room
    → let end = (length text - lines) / 2 in
    (lines ≤ length text) × (size ≤ end) × (key ≤ end - size) × (end - size ≤ end) × (end ≤ length bytes)
parts_lie S text sizes bytes {lines} {key} {size} {a} many are answer h k s most long =
    let t : Told S text lines sizes a = record { many = many; are = are; answer = answer } in
    let w = parts_within t h k s bytes (card_room S bytes most long) in
    (lines_within t h, w.0, w.1, w.2, w.3)
