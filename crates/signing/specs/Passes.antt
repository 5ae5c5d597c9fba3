-- The steps over all executions, pass by pass.
use Rattle.std.specs.Prelude.{◌≡◌, List, ◌∷◌, ℕ, ◌+◌, ◌*◌, length}
use Rattle.slices.specs.Lists.{rows, row, part, put}
use Rattle.slices.specs.Layout.{total}
use Rattle.shake.specs.Shake128.{shake128}
use Rattle.banquet.specs.declared.Shape.{Shape}
use Rattle.banquet.specs.Shape.{first_challenge_length, frame_sizes}
use Rattle.banquet.specs.Sets.{scheme_of}
use Rattle.banquet.specs.Key.{front_of}
use Rattle.banquet.specs.Hash.{first_hash, second_hash, third_hash, first_challenge, second_challenge, hidden_party}
use Rattle.forms.specs.Point.{point_rows, point_lasts}
use Rattle.signing.specs.Steps.{
  witness_length,
  offsets_at,
  own_row,
  own_part,
  offset_frame,
  opened_frame,
  opened_part,
  finished_frame,
}

-- The passes after the first: h3 and the whole frames, from h1 and the frames that have the offsets of key and inverses. There are first
-- challenges, frames with the product offsets, an h2 and frames with the sums that lead there.
pub record Answered (S : Shape) (public_key salt roots inputs inverses h1 begun h3 finished : List ℕ) : Type 0 where
  pub firsts : List ℕ
  pub held : List ℕ
  pub h2 : List ℕ
  pub opened : List ℕ
  pub firsts_is : firsts ≡ shake128 (6 ∷ h1) (S.executions * first_challenge_length S)
  pub held_is : held
      ≡ rows (λ e. offset_frame S (point_rows S inputs) (point_rows S inverses) (point_lasts S) (first_challenge (scheme_of S) h1 e)
      (row (total (frame_sizes S)) e begun)) S.executions
  pub h2_is : h2 ≡ second_hash (scheme_of S) h1 (λ e. part (offsets_at S + witness_length S) (21 * S.wide) (row (total (frame_sizes S)) e held))
  pub h3_is : h3
      ≡ third_hash (scheme_of S) h2 (λ e. opened_part S (front_of (scheme_of S) public_key) salt (row 16 e roots) e (row (first_challenge_length S) e firsts)
      (second_challenge (scheme_of S) h2 e) (row (total (frame_sizes S)) e held))
  pub opened_is : opened
      ≡ rows (λ e. opened_frame S (front_of (scheme_of S) public_key) salt (row 16 e roots) e (row (first_challenge_length S) e firsts)
      (second_challenge (scheme_of S) h2 e) (row (total (frame_sizes S)) e held)) S.executions
  pub finished_is : finished
      ≡ rows (λ e. finished_frame S salt (row 16 e roots) e (hidden_party (scheme_of S) h3 e) (row (total (frame_sizes S)) e opened)) S.executions

-- All passes: the first leaves h1 and the frames with the offsets of key and inverses.
pub record Passes (S : Shape) (public_key message salt roots inputs inverses witness frames h1 begun h3 finished : List ℕ) : Type 0 where
  pub frames_size : length frames ≡ S.executions * total (frame_sizes S)
  pub h1_is : h1 ≡ first_hash (scheme_of S) public_key message salt (λ e. own_part S (front_of (scheme_of S) public_key) witness salt (row 16 e roots) e)
  pub begun_is : begun
      ≡ rows (λ e. put (row (total (frame_sizes S)) e frames) (offsets_at S) (own_row S witness salt (row 16 e roots) e)) S.executions
  pub answered : Answered S public_key salt roots inputs inverses h1 begun h3 finished
