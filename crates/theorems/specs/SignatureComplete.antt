-- Every signature made with a good key is accepted. Assumes nothing.
use Rattle.std.specs.Prelude.{◌≡◌, length, get_or}
use Rattle.std.proofs.Common.{sym, ◌∙◌, subst, drop_at}
use Rattle.std.proofs.Math.Path.{ap, ap₂, subst₃}
use mathlib.Core.List.{List, [], ◌∷◌}
use Prim.Native.Nat.{ℕ, ◌+◌, ◌≤◌, ◌<◌}
use borrow.Author.Tests.{eq-eqb, lt-ltb}
use Rattle.std.proofs.Math.ListN.{length-append}
use Rattle.slices.specs.Lists.{rows, row}
use Rattle.slices.specs.Bytes.{Bytes, append_bytes, rows_bytes}
use Rattle.slices.specs.Tab.{length_rows, row_of_rows}
use Rattle.slices.specs.Layout.{total, field, layout, HasSizes, length_layout, layout_bytes, field_layout_append}
use Rattle.poly.specs.Sum.{sum}
use Rattle.banquet.specs.Answer.{accepted}
use Rattle.banquet.specs.Shape.{work_length, head_sizes, frame_sizes, signature_length}
use Rattle.banquet.specs.Scheme.{Scheme, wide_ops, wide_mul}
use Rattle.banquet.specs.Hash.{first_hash, third_hash}
use Rattle.banquet.specs.Signature.{
  signer_h1,
  signer_h2,
  signer_h3_part,
  signer_h3,
  signer_frame,
  signature,
  frame_of,
  frame_part,
  frame_c,
  frame_a,
  frame_b,
  frame_h1_part,
  frame_h3_part,
  own_h2,
  recomputed_h1,
  recomputed_h3,
}
use Rattle.banquet.specs.Calls.{verify_answer}
use Rattle.theorems.specs.Laws.{Laws}
use Rattle.theorems.specs.SignatureFrame as one
use Rattle.theorems.specs.FrameRecomputed as recomputed
use Rattle.theorems.specs.Inputs.{SignInput}
use Rattle.banquet.specs.Figures.{figures_of}
use Rattle.banquet.specs.SignatureChecks.{FramesHold}
use Rattle.banquet.proofs.SignatureChecks.{holds_signature}
use Rattle.theorems.specs.Recomputed.{first_hash_cong, second_hash_cong, third_hash_cong}

module _ (𝓢 : Scheme) (L : Laws 𝓢) (key public_key message salt seeds : List ℕ) (input : SignInput 𝓢 key public_key message salt seeds) where
  open 𝓢.shape use {executions, m1}

  abbrev h1 : List ℕ
  h1 = signer_h1 𝓢 key public_key message salt seeds

  abbrev h3 : List ℕ
  h3 = signer_h3 𝓢 key public_key message salt seeds

  abbrev frame : ℕ → List ℕ
  frame = signer_frame 𝓢 key public_key message salt seeds

  module _ (frames : ℕ → List ℕ) (are : (e : ℕ) → e < executions → frames e ≡ frame e) where
    abbrev h2' : List ℕ
    h2' = own_h2 𝓢 h1 frames

    h2_is : h2' ≡ signer_h2 𝓢 key public_key message salt seeds
    unfolding signer_h2
    h2_is = second_hash_cong 𝓢 L h1 (λ e l. ap (λ (r : List ℕ). frame_part 𝓢 r 4) (are e l) ∙ one.is 𝓢 L key public_key message salt seeds input e 4)

    h1_is : recomputed_h1 𝓢 public_key message salt h3 frames ≡ h1
    unfolding signer_h1
    h1_is =
        first_hash_cong 𝓢 L public_key message salt
        (λ e l. ap (frame_h1_part 𝓢 public_key salt h3 e) (are e l) ∙ recomputed.first_is 𝓢 L key public_key message salt seeds input e)

    h3_is : recomputed_h3 𝓢 public_key salt h1 h3 frames ≡ h3
    unfolding signer_h3
    h3_is =
        third_hash_cong 𝓢 L h2'
        (λ e l.
        ap₂ (λ (h r : List ℕ). frame_h3_part 𝓢 public_key salt h1 h h3 e r) h2_is (are e l)
        ∙ recomputed.third_is 𝓢 L key public_key message salt seeds input e)
        ∙ ap (λ (h : List ℕ). third_hash 𝓢 h (signer_h3_part 𝓢 key public_key message salt seeds)) h2_is

    checks : FramesHold 𝓢 (figures_of 𝓢.shape) public_key message salt h1 h3 frames
    checks = record {
      product = λ e l.
          subst (λ (r : List ℕ). frame_c 𝓢 r ≡ sum (wide_ops 𝓢) m1 (λ j. wide_mul 𝓢 (frame_a 𝓢 r j) (frame_b 𝓢 r j))) (sym (are e l))
          (one.holds 𝓢 L key public_key message salt seeds input e);
      first = h1_is;
      third = h3_is;
    }

  h1_size : length h1 ≡ 32
  unfolding signer_h1 first_hash
  h1_size = (L.hash_sized _ 32).size

  h3_size : length h3 ≡ 32
  unfolding signer_h3 third_hash
  h3_size = (L.hash_sized _ 32).size

  abbrev head : List (List ℕ)
  head = salt ∷ h1 ∷ h3 ∷ []

  abbrev s : List ℕ
  s = signature 𝓢 key public_key message salt seeds

  head_sizes_lem : HasSizes head_sizes head
  head_sizes_lem = (input.salt_size, (h1_size, (h3_size, tt)))

  head_is : (k : ℕ) → field head_sizes k s ≡ get_or head k []
  unfolding signature
  head_is k = field_layout_append head_sizes head (rows frame executions) head_sizes_lem k

  pub signature_size : length s ≡ signature_length 𝓢.shape
  unfolding signature
  signature_size =
      length-append (layout head) (rows frame executions)
      ∙ ap₂ ◌+◌ (length_layout head_sizes head head_sizes_lem)
      (length_rows (total (frame_sizes 𝓢.shape)) frame executions (λ e l. one.frame_size 𝓢 L key public_key message salt seeds input e))

  h1_bytes : Bytes h1
  unfolding signer_h1 first_hash
  h1_bytes = (L.hash_sized _ 32).bytes

  h3_bytes : Bytes h3
  unfolding signer_h3 third_hash
  h3_bytes = (L.hash_sized _ 32).bytes

  pub signature_bytes : Bytes salt → Bytes s
  unfolding signature
  signature_bytes sb =
      append_bytes (layout_bytes head (sb, (h1_bytes, (h3_bytes, tt))))
      (rows_bytes frame executions (λ e l. one.frame_bytes 𝓢 L key public_key message salt seeds input e))

  frames_are : (e : ℕ) → e < executions → frame_of 𝓢 s e ≡ frame e
  unfolding frame_of signature
  frames_are e l =
      rw (eq-eqb (length s) (signature_length 𝓢.shape) signature_size, lt-ltb e executions l)
      (ap (row (total (frame_sizes 𝓢.shape)) e)
      (drop_at (layout head) (rows frame executions) _ (length_layout head_sizes head head_sizes_lem))
      ∙ row_of_rows (total (frame_sizes 𝓢.shape)) frame executions (λ e l. one.frame_size 𝓢 L key public_key message salt seeds input e) e l)

  -- "every seal made with a good key is accepted"
  pub signature_accepted : (work : List ℕ) → work_length ≤ length work
      → verify_answer 𝓢 public_key message (signature 𝓢 key public_key message salt seeds) work ≡ accepted
  signature_accepted work w =
      holds_signature 𝓢 public_key message s work
      (record {
        key_size = input.public_sized.size;
        message_size = input.message_size;
        size = signature_size;
        work_size = w;
        frames_hold = subst₃ (λ (a b c : List ℕ). FramesHold 𝓢 (figures_of 𝓢.shape) public_key message a b c (frame_of 𝓢 s)) (sym (head_is 0)) (sym (head_is 1))
            (sym (head_is 2))
            (checks (frame_of 𝓢 s) frames_are);
      })
