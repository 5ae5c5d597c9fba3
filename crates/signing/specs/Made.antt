-- The passes, taken one after the other, make the hashes and the frames of the definitions. Assumes nothing.
use Rattle.std.specs.Prelude.{◌≡◌, List, ◌∷◌, ℕ, ◌+◌, ◌*◌, ◌<◌, length}
use Rattle.std.proofs.Math.Path.{ap}
use Rattle.std.proofs.Common.{ap₂, ◌∙◌}
use Rattle.slices.specs.Lists.{rows, row, part, put}
use Rattle.slices.specs.Tab.{rows_cong, row_of_rows}
use Rattle.slices.specs.Layout.{total}
use Rattle.shake.specs.Shake128.{shake128}
use Rattle.banquet.specs.declared.Shape.{Shape}
use Rattle.banquet.specs.Shape.{first_challenge_length, frame_sizes}
use Rattle.banquet.specs.Sets.{scheme_of}
use Rattle.banquet.specs.Key.{front_of}
use Rattle.banquet.specs.Hash.{second_hash, third_hash, first_challenge, second_challenge, hidden_party}
use Rattle.banquet.specs.Signature.{signer_h1, signer_offsets, signer_h2, signer_h3_part, signer_h3, signer_frame}
use Rattle.theorems.specs.Recomputed.{first_hash_cong, second_hash_cong, third_hash_cong}
use Rattle.sets.specs.Valid.{Valid}
use Rattle.sets.specs.Laws.{laws}
use Rattle.forms.specs.Point.{point_rows, point_lasts}
use Rattle.signing.specs.Steps.{offsets_at, witness_length, own_row, offset_frame, opened_frame, opened_part, finished_frame}
use Rattle.signing.specs.Passes.{Passes}
use Rattle.signing.specs.Kept.{frame_row_long, own_kept, offset_kept, opened_kept}
use Rattle.signing.specs.Witness.{Witness, witness_long, first_part}
use Rattle.signing.specs.Execution.{second_part, third_part_lem, frame_made}

module _ {S : Shape} (v : Valid S)
    {key public_key message salt roots inputs inverses witness frames h1 begun h3 finished : List ℕ}
    (w : Witness S key public_key inputs inverses witness)
    (p : Passes S public_key message salt roots inputs inverses witness frames h1 begun h3 finished) where
  open S use {executions, wide}
  open p.answered use {firsts, held, h2, opened, firsts_is, held_is, h2_is, h3_is, opened_is, finished_is}

  abbrev n : ℕ
  n = total (frame_sizes S)

  abbrev H1 : List ℕ
  H1 = signer_h1 (scheme_of S) key public_key message salt roots

  abbrev H2 : List ℕ
  H2 = signer_h2 (scheme_of S) key public_key message salt roots

  -- ---- before the first challenge

  pub first_made : h1 ≡ signer_h1 (scheme_of S) key public_key message salt roots
  unfolding signer_h1
  first_made =
      p.h1_is ∙ first_hash_cong (scheme_of S) (laws v) public_key message salt (λ e l. first_part v w message salt roots e)

  long : (e : ℕ) → e < executions → length (row n e frames) ≡ n
  long = frame_row_long v frames p.frames_size

  abbrev begun_of : ℕ → List ℕ
  begun_of e = put (row n e frames) (offsets_at S) (own_row S witness salt (row 16 e roots) e)

  begun_size : (e : ℕ) → e < executions → length (begun_of e) ≡ n
  begun_size e l = own_kept v (row n e frames) (long e l) witness salt (row 16 e roots) e (witness_long v w)

  begun_row : (e : ℕ) → e < executions → row n e begun ≡ begun_of e
  begun_row e l = ap (row n e) p.begun_is ∙ row_of_rows n begun_of executions begun_size e l

  -- ---- under the first challenge

  first_row : (e : ℕ) → row (first_challenge_length S) e firsts ≡ first_challenge (scheme_of S) H1 e
  unfolding first_challenge
  first_row e =
      ap (row (first_challenge_length S) e)
      (firsts_is ∙ ap (λ h. shake128 (6 ∷ h) (executions * first_challenge_length S)) first_made)

  abbrev held_of : ℕ → List ℕ
  held_of e = offset_frame S (point_rows S inputs) (point_rows S inverses) (point_lasts S) (first_challenge (scheme_of S) H1 e) (begun_of e)

  held_size : (e : ℕ) → e < executions → length (held_of e) ≡ n
  held_size e l =
      offset_kept v (begun_of e) (begun_size e l) (point_rows S inputs) (point_rows S inverses) (point_lasts S) (first_challenge (scheme_of S) H1 e)

  held_row : (e : ℕ) → e < executions → row n e held ≡ held_of e
  held_row e l =
      ap (row n e)
      (held_is
      ∙ rows_cong executions
      (λ e l. ap₂ (λ h d. offset_frame S (point_rows S inputs) (point_rows S inverses) (point_lasts S) (first_challenge (scheme_of S) h e) d)
      first_made (begun_row e l)))
      ∙ row_of_rows n held_of executions held_size e l

  pub second_made : h2 ≡ signer_h2 (scheme_of S) key public_key message salt roots
  unfolding signer_h2
  second_made =
      h2_is
      ∙ second_hash_cong (scheme_of S) (laws v) h1
      (λ e l. ap (part (offsets_at S + witness_length S) (21 * wide)) (held_row e l)
      ∙ second_part w v message salt roots e (row n e frames) (long e l))
      ∙ ap (λ h. second_hash (scheme_of S) h (signer_offsets (scheme_of S) key public_key message salt roots)) first_made

  -- ---- under the second challenge

  pub third_made : h3 ≡ signer_h3 (scheme_of S) key public_key message salt roots
  unfolding signer_h3
  third_made =
      h3_is
      ∙ third_hash_cong (scheme_of S) (laws v) h2
      (λ e l. (λ j. opened_part S (front_of (scheme_of S) public_key) salt (row 16 e roots) e (first_row e j) (second_challenge (scheme_of S) (second_made j) e)
      (held_row e l j))
      ∙ third_part_lem w v message salt roots e (row n e frames) (long e l))
      ∙ ap (λ h. third_hash (scheme_of S) h (signer_h3_part (scheme_of S) key public_key message salt roots)) second_made

  abbrev open_of : ℕ → List ℕ
  open_of e =
      opened_frame S (front_of (scheme_of S) public_key) salt (row 16 e roots) e (first_challenge (scheme_of S) H1 e) (second_challenge (scheme_of S) H2 e) (held_of e)

  open_row : (e : ℕ) → e < executions → row n e opened ≡ open_of e
  open_row e l =
      ap (row n e)
      (opened_is
      ∙ rows_cong executions
      (λ e l j. opened_frame S (front_of (scheme_of S) public_key) salt (row 16 e roots) e (first_row e j) (second_challenge (scheme_of S) (second_made j) e)
      (held_row e l j)))
      ∙ row_of_rows n open_of executions
      (λ e l. opened_kept v (front_of (scheme_of S) public_key) salt (row 16 e roots) e (first_challenge (scheme_of S) H1 e) (second_challenge (scheme_of S) H2 e)
      (held_of e) (held_size e l)) e l

  -- ---- when the hidden parties are known

  pub frames_made : finished ≡ rows (signer_frame (scheme_of S) key public_key message salt roots) executions
  frames_made =
      finished_is
      ∙ rows_cong executions
      (λ e l. ap₂ (λ h d. finished_frame S salt (row 16 e roots) e (hidden_party (scheme_of S) h e) d) third_made (open_row e l)
      ∙ frame_made w v message salt roots e (row n e frames) (long e l))
