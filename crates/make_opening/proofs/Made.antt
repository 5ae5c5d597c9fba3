-- What the offsets and the rows of shares are worked out to is what the opening is made of. Assumes nothing.
use mathlib.Core.Path.{◌≡◌, refl, ap, ◌∙◌}
use mathlib.Core.List.{List}
use Prim.Native.Nat.{ℕ, ◌<◌}
use lib.ListN.{length}
use Rattle.slices.specs.Lists.{rows, row, zip_xor, sum_xor}
use Rattle.shake.specs.Shake128.{shake128}
use Rattle.banquet.specs.declared.Shape.{Shape}
use Rattle.banquet.specs.Sets.{scheme_of}
use Rattle.banquet.specs.Hash.{tape}
use Rattle.banquet.specs.Tree.{node_seeds, leaves}
use Rattle.banquet.specs.Key.{front_of}
use Rattle.banquet.specs.Execution.{challenge, tape_part}
use Rattle.banquet.specs.Opening.{opening}
use Rattle.theorems.specs.Shares.{IsTape, hashed_tape}
use Rattle.sets.specs.Valid.{Valid}
use Rattle.sets.specs.Laws.{laws}
use Rattle.forms.specs.Party.{committed, share_row}
use Rattle.forms.specs.Offsets.{worked_offsets, key_offset_lem, inverse_offsets_lem, product_offsets_lem}
use Rattle.write_opening.specs.Written.{written}
use Rattle.write_opening.specs.Opening.{Made, written_opening, leaf_seeds}
use Rattle.make_opening.specs.Steps.{AtPoints}

module _ {S : Shape} (v : Valid S) (key public salt root first seeds : List ℕ) (e second hidden : ℕ) where
  open S use {parties, depth}

  abbrev tapes : ℕ → List ℕ
  tapes i = tape (scheme_of S) salt e i (row 16 i seeds)

  abbrev front : List ℕ
  front = front_of (scheme_of S) public

  drawn : (i : ℕ) → i < parties → IsTape (scheme_of S) (laws v) (tapes i)
  drawn i l = hashed_tape (scheme_of S) (laws v) salt e i (row 16 i seeds)

  -- the offsets as `signer` leaves them, the rows as `execution` does
  module _ {inverses us vs lasts k y o f s : List ℕ} (root_size : length root ≡ 16)
      (seeds_is : seeds ≡ node_seeds (leaves shake128 salt e depth 0 root)) (p : AtPoints S key public inverses us vs lasts)
      (k_is : k ≡ zip_xor key (tape_part (scheme_of S) 0 (sum_xor parties tapes)))
      (y_is : y ≡ zip_xor inverses (tape_part (scheme_of S) 1 (sum_xor parties tapes)))
      (o_is : o ≡ worked_offsets S us vs lasts (sum_xor parties tapes) first) (f_is : f ≡ front)
      (s_is : s ≡ rows (λ i. share_row (scheme_of S) (committed f k y) (challenge (scheme_of S) first o second) i (tapes i)) parties)
    where
      made : Made S key public salt root first e second seeds front k y o s
      made = record {
        seeds_are = leaf_seeds v salt root e root_size seeds_is;
        key_is = k_is ∙ key_offset_lem v drawn front key;
        inverses_are = y_is ∙ inverse_offsets_lem v drawn front key p.inverses_is;
        offsets_are = o_is ∙ product_offsets_lem v drawn front key refl p.inverses_is p.us_is p.vs_is p.lasts_is first;
        rows_are = s_is
            ∙ ap (λ f. rows (λ i. share_row (scheme_of S) (committed f k y) (challenge (scheme_of S) first o second) i (tapes i)) parties) f_is;
      }

      pub opening_made : {out : List ℕ} → out ≡ written S salt e root hidden seeds k y first o second s
          → out ≡ opening (scheme_of S) key public salt root first e second hidden
      opening_made h = h ∙ written_opening S key public salt root first e second seeds refl made hidden
