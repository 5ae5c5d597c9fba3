-- Parameter sets and the sizes that follow from them. The numbers of a set: parties; the depth of their tree of seeds; executions; bytes of a wide
-- element (the paper's lift factor); `low`, the modulus of the wide field without its highest power; `y`, the element that X lifts to; m1 and m2; and
-- `front`, how many bytes of a public key stand before the ciphertext.
use Rattle.std.specs.Prelude.{◌≡◌, List, [], ◌∷◌, ℕ, suc, ◌+◌, ◌*◌, ◌/◌, ◌%◌}
use Rattle.std.proofs.Math.Nat.{mod-add-div}
use Rattle.slices.specs.Layout.{total}
use Rattle.banquet.specs.declared.Shape.{Shape}

-- "The message is over 32,768 bytes."
abbrev pub message_limit : ℕ
message_limit = 32768

-- "The work slice .. is under 65,536 bytes."
abbrev pub work_length : ℕ
work_length = 65536

-- "A seal is 19,776 bytes: salt, h1, h3 (32 each), then 41 frames": its head
abbrev pub head_sizes : List ℕ
head_sizes = 32 ∷ 32 ∷ 32 ∷ []

abbrev pub head_length : ℕ
head_length = total head_sizes

module _ (S : Shape) where
  open S use {parties, depth, executions, wide, m1, m2, front}

  -- ---- S-boxes

  -- "200 inverse offsets", one for each S-box
  abbrev pub sboxes : ℕ
  sboxes = m1 * m2

  -- "S-box l has j = l modulo 10 and k = l divided by 10."
  abbrev pub j_of : ℕ → ℕ
  j_of l = l % m1

  abbrev pub k_of : ℕ → ℕ
  k_of l = l / m1

  -- "S-box j+10k"
  abbrev pub sbox_at : ℕ → ℕ → ℕ
  sbox_at j k = j + m1 * k

  pub sbox_at_jk : (l : ℕ) → sbox_at (j_of l) (k_of l) ≡ l
  sbox_at_jk l = mod-add-div l m1

  -- how many points have product offsets: 20 to 40
  abbrev pub product_points : ℕ
  product_points = suc m2

  -- ---- sizes in bytes

  -- "public key (plaintext 16 bytes, ciphertext 16 bytes)"
  abbrev pub public_key_length : ℕ
  public_key_length = front + 16

  -- "the ten given first draws .. 40"
  abbrev pub first_challenge_length : ℕ
  first_challenge_length = m1 * wide

  -- "The root seeds aren't 656 bytes (sealing) or 16 (opening)."
  abbrev pub root_seeds_length : ℕ
  root_seeds_length = executions * 16

  -- "a 380-byte tape: key share 16, inverse shares 200, per j the extra points s and t (4 each), 21 product shares (4 each)"
  abbrev pub tape_sizes : List ℕ
  tape_sizes = 16 ∷ sboxes ∷ 2 * m1 * wide ∷ product_points * wide ∷ []

  -- "frames of 480: four sibling seeds from the top down (64), hidden commitment (32), key offset (16), inverse offsets (200), product offsets (84),
  -- c (4), a (40), b (40)"
  abbrev pub frame_sizes : List ℕ
  frame_sizes = depth * 16 ∷ 32 ∷ 16 ∷ sboxes ∷ product_points * wide ∷ wide ∷ m1 * wide ∷ m1 * wide ∷ []

  abbrev pub signature_length : ℕ
  signature_length = head_length + executions * total frame_sizes

  -- "An opening is 2,554 bytes: salt 32, e 1, commitments 512, output shares 256, key offset 16, inverse offsets 200, r 40, product offsets 84, R 4,
  -- shares of c 64, of a 640, of b 640 (by party)": this far the transcript, which is "all bytes before the hidden party"
  abbrev pub transcript_sizes : List ℕ
  transcript_sizes =
      32 ∷ 1 ∷ parties * 32 ∷ parties * 16 ∷ 16 ∷ sboxes ∷ m1 * wide ∷ product_points * wide ∷ wide ∷ parties * wide ∷ parties * (m1 * wide)
      ∷ parties * (m1 * wide) ∷ []

  -- "hidden party 1, sibling seeds 64"
  abbrev pub opening_length : ℕ
  opening_length = total transcript_sizes + (1 + depth * 16)
