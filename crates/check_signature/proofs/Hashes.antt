-- A test that two lists are the same, as the code makes it; and the hashes recomputed, from what is absorbed. Assumes nothing.
use Rattle.std.specs.Prelude.{Err}
use mathlib.Core.Path.{◌≡◌, sym, ap, ap₂, ◌∙◌}
use mathlib.Core.Bool.{Bool, true, false}
use mathlib.Core.List.{List, [], ◌∷◌}
use Prim.Native.Nat.{ℕ}
use lib.Dec.{lit<}
use lib.ListN.{length}
use Rattle.slices.specs.Lists.{rows, same}
use Rattle.slices.specs.Bytes.{Bytes, cons_bytes, append_bytes, rows_bytes}
use Rattle.slices.specs.Numbers.{bytes_of_bytes}
use Rattle.slices.specs.Layout.{field_bytes}
use Rattle.absorb_rows.proofs.Laws.{hashed}
use Rattle.stream.specs.declared.Sponge.{Sponge}
use Rattle.stream.specs.Stream.{empty, absorbed, finished, squeezed}
use Rattle.banquet.specs.declared.Shape.{Shape}
use Rattle.banquet.specs.declared.Refusal.{Refusal}
use Rattle.banquet.specs.declared.Refusal.TheVariants.{FirstHashDiffers, ThirdHashDiffers}
use Rattle.banquet.specs.Sets.{scheme_of}
use Rattle.banquet.specs.Shape.{head_sizes}
use Rattle.banquet.specs.Answer.{Answer, accepted, require, in_order}
use Rattle.banquet.specs.Hash.{first_input, first_hash, third_hash}
use Rattle.banquet.specs.Signature.{signature_salt, signature_h1, signature_h3, frame_of, recomputed_h1, recomputed_h3}
use Rattle.second_hash.proofs.Laws.{sized_second}
use Rattle.check_signature.specs.Steps.{Files, h2_of, first_part, third_part, hashes_answer}
use Rattle.check_signature.proofs.Parts.{first_bytes_lem, third_bytes}

-- ---- the test

module _ {h g' : List ℕ} {x : Bool} (u g : List ℕ) (refusal : Refusal) (rest : Answer) (e : h ≡ u) (k : g' ≡ g) (f : x ≡ same h g') where
  tested : same u g ≡ x
  tested = ap₂ same (sym e) (sym k) ∙ sym f

  pub refused : x ≡ false → Err refusal ≡ require (same u g) refusal rest
  unfolding require
  refused n = sym (simp (tested, n))

  pub passed : x ≡ true → rest ≡ require (same u g) refusal rest
  unfolding require
  passed n = sym (simp (tested, n))

-- ---- the hashes

module _ {S : Shape} {public_key message s : List ℕ} (f : Files S public_key s) (m : Bytes message) where
  abbrev salt : List ℕ
  salt = signature_salt s

  abbrev first : List ℕ
  first = recomputed_h1 (scheme_of S) public_key message salt (signature_h3 s) (frame_of (scheme_of S) s)

  abbrev third : List ℕ
  third = recomputed_h3 (scheme_of S) public_key salt (signature_h1 s) (signature_h3 s) (frame_of (scheme_of S) s)

  pub first_right : {x : List ℕ} {start t : Sponge} → x ≡ salt
      → start ≡ absorbed empty (first_input public_key message x)
      → t ≡ absorbed start (rows (first_part S s public_key) S.executions)
      → squeezed (finished t) 32 ≡ first
  unfolding first_hash
  first_right k e g =
      hashed (first_input public_key message salt) (rows (first_part S s public_key) S.executions)
      (cons_bytes (lit< tt)
      (append_bytes (append_bytes (append_bytes f.public_sized.bytes (bytes_of_bytes 4 (length message))) m)
      (field_bytes head_sizes 0 s f.file_sized.bytes)))
      (rows_bytes (first_part S s public_key) S.executions (λ e l. first_bytes_lem f l))
      (e ∙ ap (λ x. absorbed empty (first_input public_key message x)) k) g

  pub third_right : {h2 : List ℕ} {start t : Sponge} → h2 ≡ h2_of S s → start ≡ absorbed empty (3 ∷ h2)
      → t ≡ absorbed start (rows (third_part S s public_key) S.executions)
      → squeezed (finished t) 32 ≡ third
  unfolding third_hash
  third_right k e g =
      hashed (3 ∷ h2_of S s) (rows (third_part S s public_key) S.executions) (cons_bytes (lit< tt) (sized_second S _ _).bytes)
      (rows_bytes (third_part S s public_key) S.executions (λ e l. third_bytes f l)) (e ∙ ap (λ x. absorbed empty (3 ∷ x)) k) g

  -- both tests
  pub hashes_tested : {u v : List ℕ} → u ≡ first → v ≡ third
      → in_order ((same u (signature_h1 s), FirstHashDiffers) ∷ (same v (signature_h3 s), ThirdHashDiffers) ∷ []) accepted
      ≡ hashes_answer S public_key message s
  hashes_tested p q =
      ap₂ (λ u v. in_order ((same u (signature_h1 s), FirstHashDiffers) ∷ (same v (signature_h3 s), ThirdHashDiffers) ∷ []) accepted) p q
