-- What the passes absorb is what h1, h2 and h3 bind, and what they draw are the challenges. Assumes nothing.
use mathlib.Core.Path.{◌≡◌, refl, ap, ap₂, fun_ext, ◌∙◌}
use mathlib.Core.List.{List, ◌∷◌}
use Prim.Native.Nat.{ℕ, ◌+◌, ◌*◌}
use lib.Dec.{lit<}
use lib.ListN.{length}
use Rattle.slices.specs.Lists.{rows, row, part, put}
use Rattle.slices.specs.Bytes.{Bytes, cons_bytes, append_bytes, rows_bytes}
use Rattle.slices.specs.Numbers.{number_at, bytes_of_bytes}
use Rattle.slices.specs.Layout.{total}
use Rattle.absorb_rows.proofs.Laws.{hashed}
use Rattle.shake.specs.Shake128.{shake128}
use Rattle.stream.specs.declared.Sponge.{Sponge}
use Rattle.stream.specs.Stream.{empty, absorbed, finished, squeezed}
use Rattle.banquet.specs.declared.Shape.{Shape}
use Rattle.banquet.specs.Shape.{frame_sizes, first_challenge_length}
use Rattle.banquet.specs.Sets.{scheme_of}
use Rattle.banquet.specs.Hash.{first_input, first_hash, second_hash, third_hash, first_challenge, second_challenge, hidden_party, evaluation_point, party_of}
use Rattle.sets.specs.Valid.{Valid}
use Rattle.forms.specs.Point.{point_rows, point_lasts}
use Rattle.signing.specs.Steps.{offsets_at, witness_length, own_row, own_part, offset_frame, opened_frame, opened_part, finished_frame}
use Rattle.signing.specs.Own.{own_part_bytes}
use Rattle.signing.specs.Kept.{offset_part_bytes, opened_part_bytes}

module _ {S : Shape} (v : Valid S) where
  open S use {executions, wide}

  -- ---- the witness, as the code holds it

  module _ {witness held : List ℕ} (w : held ≡ witness) where
    pub first_hashed : {public_key message salt : List ℕ} (front roots : List ℕ) {f : List ℕ} {s t : Sponge} → f ≡ front
        → Bytes public_key → Bytes message → Bytes salt → Bytes witness → s ≡ absorbed empty (first_input public_key message salt)
        → t ≡ absorbed s (rows (λ e. own_part S f held salt (row 16 e roots) e) executions)
        → squeezed (finished t) 32 ≡ first_hash (scheme_of S) public_key message salt (λ e. own_part S front witness salt (row 16 e roots) e)
    unfolding first_hash
    first_hashed {public_key} {message} {salt} front roots {s = s} is p m b k e h =
        hashed (first_input public_key message salt)
        (rows (λ e. own_part S front witness salt (row 16 e roots) e) executions)
        (cons_bytes (lit< tt) (append_bytes (append_bytes (append_bytes p (bytes_of_bytes 4 (length message))) m) b))
        (rows_bytes _ executions (λ e l. own_part_bytes v witness salt (row 16 e roots) e front k)) e
        (h ∙ ap₂ (λ f x. absorbed s (rows (λ e. own_part S f x salt (row 16 e roots) e) executions)) is w)

    pub begun_right : (salt roots frames : List ℕ) {out : List ℕ}
        → out ≡ rows (λ e. put (row (total (frame_sizes S)) e frames) (offsets_at S) (own_row S held salt (row 16 e roots) e)) executions
        → out ≡ rows (λ e. put (row (total (frame_sizes S)) e frames) (offsets_at S) (own_row S witness salt (row 16 e roots) e)) executions
    begun_right salt roots frames h =
        h ∙ ap (λ x. rows (λ e. put (row (total (frame_sizes S)) e frames) (offsets_at S) (own_row S x salt (row 16 e roots) e)) executions) w

  -- ---- the product offsets, where the code finds them

  pub second_hashed : {h1 frames : List ℕ} {len p : ℕ} {s t : Sponge} → Bytes h1 → Bytes frames → s ≡ absorbed empty (2 ∷ h1)
      → t ≡ absorbed s (rows (λ e. part p (21 * wide) (row len e frames)) executions) → p ≡ offsets_at S + witness_length S
      → len ≡ total (frame_sizes S)
      → squeezed (finished t) 32
      ≡ second_hash (scheme_of S) h1 (λ e. part (offsets_at S + witness_length S) (21 * wide) (row (total (frame_sizes S)) e frames))
  unfolding second_hash
  second_hashed {h1} {frames} {len} {p} {s} b q e f at z =
      hashed (2 ∷ h1) (rows (λ e. part (offsets_at S + witness_length S) (21 * wide) (row (total (frame_sizes S)) e frames)) executions)
      (cons_bytes (lit< tt) b) (rows_bytes _ executions (λ e l. offset_part_bytes v e q)) e
      (f ∙ ap₂ (λ k n. absorbed s (rows (λ e. part k (21 * wide) (row n e frames)) executions)) at z)

  -- ---- the passes that draw challenges

  -- the second challenge's bytes for all executions
  module _ (h2 : List ℕ) {seconds : List ℕ} (drawn : seconds ≡ shake128 (7 ∷ h2) (executions * wide)) where
    second_at : (e : ℕ) → evaluation_point S.m2 (number_at wide e seconds) ≡ second_challenge (scheme_of S) h2 e
    unfolding second_challenge
    second_at e = ap (λ t. evaluation_point S.m2 (number_at wide e t)) drawn

    module _ (front salt roots firsts frames : List ℕ) {f : List ℕ} (is : f ≡ front) where
      pub opened_right : {out : List ℕ}
          → out ≡ rows (λ e. opened_frame S f salt (row 16 e roots) e (row (first_challenge_length S) e firsts)
          (evaluation_point S.m2 (number_at wide e seconds)) (row (total (frame_sizes S)) e frames)) executions
          → out ≡ rows (λ e. opened_frame S front salt (row 16 e roots) e (row (first_challenge_length S) e firsts)
          (second_challenge (scheme_of S) h2 e) (row (total (frame_sizes S)) e frames)) executions
      opened_right h =
          h ∙ ap₂ (λ f R. rows (λ e. opened_frame S f salt (row 16 e roots) e (row (first_challenge_length S) e firsts) (R e)
          (row (total (frame_sizes S)) e frames)) executions) is (fun_ext second_at)

      pub third_hashed : {s t : Sponge} → Bytes h2 → s ≡ absorbed empty (3 ∷ h2)
          → t ≡ absorbed s (rows (λ e. opened_part S f salt (row 16 e roots) e (row (first_challenge_length S) e firsts)
          (evaluation_point S.m2 (number_at wide e seconds)) (row (total (frame_sizes S)) e frames)) executions)
          → squeezed (finished t) 32
          ≡ third_hash (scheme_of S) h2 (λ e. opened_part S front salt (row 16 e roots) e (row (first_challenge_length S) e firsts)
          (second_challenge (scheme_of S) h2 e) (row (total (frame_sizes S)) e frames))
      unfolding third_hash
      third_hashed {s} p e h =
          hashed (3 ∷ h2) (rows (λ e. opened_part S front salt (row 16 e roots) e (row (first_challenge_length S) e firsts)
          (second_challenge (scheme_of S) h2 e) (row (total (frame_sizes S)) e frames)) executions)
          (cons_bytes (lit< tt) p) (rows_bytes _ executions (λ e l. opened_part_bytes v _ _ _ e _ _ _)) e
          (h ∙ ap₂ (λ f R. absorbed s (rows (λ e. opened_part S f salt (row 16 e roots) e (row (first_challenge_length S) e firsts) (R e)
          (row (total (frame_sizes S)) e frames)) executions)) is (fun_ext second_at))

  pub finished_right : (h3 salt roots frames : List ℕ) {thirds out : List ℕ} → thirds ≡ shake128 (8 ∷ h3) (executions * 4)
      → out ≡ rows (λ e. finished_frame S salt (row 16 e roots) e (party_of S.parties (number_at 4 e thirds)) (row (total (frame_sizes S)) e frames))
      executions
      → out ≡ rows (λ e. finished_frame S salt (row 16 e roots) e (hidden_party (scheme_of S) h3 e) (row (total (frame_sizes S)) e frames)) executions
  unfolding hidden_party
  finished_right h3 salt roots frames d h = h ∙ rw d refl

  pub offset_right : (h1 inputs inverses frames : List ℕ) {us vs lasts firsts out : List ℕ} → us ≡ point_rows S inputs → vs ≡ point_rows S inverses
      → lasts ≡ point_lasts S → firsts ≡ shake128 (6 ∷ h1) (executions * first_challenge_length S)
      → out ≡ rows (λ e. offset_frame S us vs lasts (row (first_challenge_length S) e firsts) (row (total (frame_sizes S)) e frames)) executions
      → out ≡ rows (λ e. offset_frame S (point_rows S inputs) (point_rows S inverses) (point_lasts S) (first_challenge (scheme_of S) h1 e)
      (row (total (frame_sizes S)) e frames)) executions
  unfolding first_challenge
  offset_right h1 inputs inverses frames p q r d h = h ∙ rw (p, q, r, d) refl
