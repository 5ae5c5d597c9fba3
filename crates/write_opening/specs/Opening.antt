-- What is written is the opening of the definitions, where the seeds, the offsets and the rows of shares are right. Assumes nothing.
use Rattle.std.specs.Prelude.{◌≡◌, List, [], ◌∷◌, ◌++◌, ℕ, ◌<◌, length, get_or}
use Rattle.std.proofs.Math.Path.{ap}
use Rattle.std.proofs.Common.{ap₂, subst, ◌∙◌, append_assoc, append-nil, arith}
use Rattle.slices.specs.Lists.{rows, row}
use Rattle.slices.specs.Tab.{rows_cong}
use Rattle.slices.specs.Numbers.{bytes_of}
use Rattle.slices.specs.Layout.{layout}
use Rattle.shake.specs.Shake128.{shake128}
use Rattle.banquet.specs.declared.Shape.{Shape}
use Rattle.banquet.specs.Sets.{scheme_of}
use Rattle.banquet.specs.Hash.{commitment, tape}
use Rattle.banquet.specs.Tree.{node_seeds, leaves, sibling_seeds}
use Rattle.banquet.specs.Key.{front_of}
use Rattle.banquet.specs.Execution.{Committed, Challenge, challenge}
use Rattle.banquet.specs.Signer.{seed_of, tape_of, own_committed, product_offsets}
use Rattle.banquet.specs.Opening.{transcript, opening}
use Rattle.tree.specs.Rows.{row_leaf}
use Rattle.sets.specs.Valid.{Valid}
use Rattle.forms.specs.Party.{share_row, committed}
use Rattle.write_opening.specs.Written.{share_column, written_transcript, written}
use Rattle.write_opening.specs.Tapes.{key_cong, inverses_cong, offsets_cong}
use Rattle.write_opening.specs.Columns.{shares, kinds, column_is}

-- the seeds as the tree gives them
pub leaf_seeds : {S : Shape} → Valid S → (salt root : List ℕ) (e : ℕ) {seeds : List ℕ} → length root ≡ 16
    → seeds ≡ node_seeds (leaves shake128 salt e S.depth 0 root) → (i : ℕ) → i < S.parties → row 16 i seeds ≡ seed_of (scheme_of S) salt root e i
leaf_seeds {S} v salt root e h w i l = ap (row 16 i) w ∙ row_leaf salt e S.depth 0 root h i (omega (arith, v.leaves))

-- the parts, one after the other
assembled : (salt first bytes : List ℕ) (e : ℕ) {c c' u u' k k' y y' o o' wc wc' wa wa' wb wb' : List ℕ}
    → c ≡ c' → u ≡ u' → k ≡ k' → y ≡ y' → o ≡ o' → wc ≡ wc' → wa ≡ wa' → wb ≡ wb'
    → (salt ++ e ∷ c) ++ (u ++ ((k ++ (y ++ (first ++ (o ++ bytes)))) ++ (wc ++ (wa ++ wb))))
    ≡ layout (salt ∷ (e ∷ []) ∷ c' ∷ u' ∷ k' ∷ y' ∷ first ∷ o' ∷ bytes ∷ wc' ∷ wa' ∷ wb' ∷ [])
unfolding layout
assembled salt first bytes e p q r s t v v' v'' = rw (p, q, r, s, t, v, v', v'') (simp (append_assoc, append-nil))

module _ (S : Shape) (key public_key salt root first_bytes : List ℕ) (e R : ℕ) (seeds : List ℕ) where
  open S use {parties, depth, wide}

  -- the parties' tapes, from the seeds in rows
  abbrev tapes : ℕ → List ℕ
  tapes i = tape (scheme_of S) salt e i (row 16 i seeds)

  -- the challenges, with the product offsets between them
  abbrev challenges : List ℕ → Challenge
  challenges offsets = challenge (scheme_of S) first_bytes offsets R

  -- what stands in the rows of seeds, in the offsets and in the rows of shares
  pub record Made (front key_offset inverse_offsets offsets s : List ℕ) : Type 0 where
    pub seeds_are : (i : ℕ) → i < parties → row 16 i seeds ≡ seed_of (scheme_of S) salt root e i
    pub key_is : key_offset ≡ (own_committed (scheme_of S) tapes front key).key_offset
    pub inverses_are : inverse_offsets ≡ (own_committed (scheme_of S) tapes front key).inverse_offsets
    pub offsets_are : offsets ≡ product_offsets (scheme_of S) tapes front key first_bytes
    pub rows_are : s ≡ rows (λ i. share_row (scheme_of S) (committed front key_offset inverse_offsets) (challenges offsets) i (tapes i)) parties

  module _ {k y o s : List ℕ} (m : Made (front_of (scheme_of S) public_key) k y o s) (hidden : ℕ) where
    abbrev t : ℕ → List ℕ
    t = tape_of (scheme_of S) salt root e

    abbrev f : List ℕ
    f = front_of (scheme_of S) public_key

    abbrev x : Committed
    x = own_committed (scheme_of S) t f key

    abbrev off : List ℕ
    off = product_offsets (scheme_of S) t f key first_bytes

    abbrev d : Challenge
    d = challenges off

    same : (i : ℕ) → i < parties → tapes i ≡ t i
    same i l = ap (tape (scheme_of S) salt e i) (m.seeds_are i l)

    k_is : k ≡ x.key_offset
    k_is = m.key_is ∙ key_cong (scheme_of S) same f key

    y_is : y ≡ x.inverse_offsets
    y_is = m.inverses_are ∙ inverses_cong (scheme_of S) same f key

    o_is : o ≡ off
    o_is = m.offsets_are ∙ offsets_cong (scheme_of S) same f key first_bytes

    s_is : s ≡ rows (shares S x d t) parties
    s_is =
        m.rows_are
        ∙ rows_cong parties
        (λ i l.
        ap₂ (λ k y. share_row (scheme_of S) (committed f k y) (challenges o) i (tapes i)) k_is y_is
        ∙ ap₂ (λ o t. share_row (scheme_of S) x (challenges o) i t) o_is (same i l))

    commitments_are : rows (λ i. commitment (scheme_of S) salt e i (row 16 i seeds)) parties
        ≡ rows (λ i. commitment (scheme_of S) salt e i (seed_of (scheme_of S) salt root e i)) parties
    commitments_are = rows_cong parties (λ i l. ap (commitment (scheme_of S) salt e i) (m.seeds_are i l))

    -- the shares of kind n, in a column
    shares_are : (n : ℕ) → share_column S n s ≡ rows (λ i. get_or (kinds S x d t i) n []) parties
    shares_are n = ap (share_column S n) s_is ∙ column_is S x d t n

    is_opening : written S salt e root hidden seeds k y first_bytes o R s ≡ opening (scheme_of S) key public_key salt root first_bytes e R hidden
    unfolding written_transcript opening transcript
    is_opening =
        ap (◌++ (hidden ∷ sibling_seeds shake128 salt e depth 0 root hidden))
        (assembled salt first_bytes (bytes_of wide R) e commitments_are (shares_are 0) k_is y_is o_is (shares_are 1) (shares_are 2) (shares_are 3))

  pub written_opening : {front k y o s : List ℕ} → front ≡ front_of (scheme_of S) public_key → Made front k y o s → (hidden : ℕ)
      → written S salt e root hidden seeds k y first_bytes o R s ≡ opening (scheme_of S) key public_key salt root first_bytes e R hidden
  written_opening {front} {k} {y} {o} {s} h m hidden = is_opening (subst (λ f. Made f k y o s) h m) hidden
