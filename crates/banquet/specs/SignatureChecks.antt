-- A signature is accepted exactly where every check holds; which message is too long to be signed or checked. Assumes nothing.
use Rattle.std.specs.Prelude.{◌≡◌, ◌≢◌, Err, ℕ, ◌≤◌, ◌<◌, length}
use mathlib.Core.List.{List}
use Rattle.poly.specs.Sum.{sum}
use Rattle.banquet.specs.declared.Refusal.TheVariants.{MessageLength, FileLength}
use Rattle.banquet.specs.Answer.{accepted}
use Rattle.banquet.specs.Shape.{message_limit, work_length}
use Rattle.banquet.specs.Scheme.{Scheme, wide_ops, wide_mul}
use Rattle.banquet.specs.Signature.{signature_salt, signature_h1, signature_h3, frame_of, frame_c, frame_a, frame_b, recomputed_h1, recomputed_h3}
use Rattle.banquet.specs.Calls.{checked, made, sign, verify}
use Rattle.banquet.specs.Figures.{Figures}
use Rattle.banquet.specs.Logic.{◌⇔◌}

-- The product of every frame (15), and the two recomputed hashes (16, 17).
module _ (𝓢 : Scheme) (F : Figures) (public_key message salt h1 h3 : List ℕ) (frames : ℕ → List ℕ) where
  pub record FramesHold : Type 0 where
    pub product : (e : ℕ) → e < F.executions
        → frame_c 𝓢 (frames e) ≡ sum (wide_ops 𝓢) F.columns (λ j. wide_mul 𝓢 (frame_a 𝓢 (frames e) j) (frame_b 𝓢 (frames e) j))
    pub first : recomputed_h1 𝓢 public_key message salt h3 frames ≡ h1
    pub third : recomputed_h3 𝓢 public_key salt h1 h3 frames ≡ h3

-- Of a whole signature s, in the order of the refusals 2, 3, 6, 7, and then 15 to 17.
module _ (𝓢 : Scheme) (F : Figures) (public_key message s work : List ℕ) where
  pub record SignatureHolds : Type 0 where
    pub key_size : length public_key ≡ F.public_key
    pub message_size : length message ≤ message_limit
    pub size : length s ≡ F.signature
    pub work_size : work_length ≤ length work
    pub frames_hold : FramesHold 𝓢 F public_key message (signature_salt s) (signature_h1 s) (signature_h3 s) (frame_of 𝓢 s)

module _ (𝓢 : Scheme) (F : Figures) where
  -- "a seal is accepted only if every check holds", and if they all hold
  abbrev pub SignatureChecked : Type 0
  SignatureChecked =
      (public_key message s work : List ℕ) → ((verify 𝓢 public_key message s work).answer ≡ accepted) ⇔ SignatureHolds 𝓢 F public_key message s work

  -- "The message is over 32,768 bytes.": refused as 3, whatever its bytes are, and the work slice stays as it was.
  abbrev pub MessageRefused : Type 0
  MessageRefused =
      (public_key message s work : List ℕ) → length public_key ≡ F.public_key → message_limit < length message
      → verify 𝓢 public_key message s work ≡ checked (Err MessageLength) work

  -- The same of signing: with a key and a public key of their lengths it refuses such a message as 3, whatever the message's bytes, the salt, the seeds
  -- and the slices are, and leaves both slices as they were.
  abbrev pub MessageNotSigned : Type 0
  MessageNotSigned =
      (key public_key message salt seeds output work : List ℕ) → length key ≡ 16 → length public_key ≡ F.public_key → message_limit < length message
      → sign 𝓢 key public_key message salt seeds output work ≡ made (Err MessageLength) output work

  -- "a seal .. to be checked hasn't exactly its length": one that was cut short or lengthened is refused as 6.
  abbrev pub LengthRefused : Type 0
  LengthRefused =
      (public_key message s work : List ℕ) → length public_key ≡ F.public_key → length message ≤ message_limit → length s ≢ F.signature
      → verify 𝓢 public_key message s work ≡ checked (Err FileLength) work
