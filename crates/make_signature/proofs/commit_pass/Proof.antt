-- `make_signature::commit_pass` meets its contract: what is absorbed is what h1 binds. Assumes nothing.
use mathlib.Core.Path.{◌≡◌, refl, ap, ◌∙◌}
use mathlib.Core.List.{List, ◌++◌}
use Prim.Native.Nat.{ℕ, ◌*◌, ◌+◌, ◌-◌, ◌≤◌}
use native.Mathlib.Omega.{arith}
use lib.ListN.{length, take, replicate}
use borrow.Rule.Slice.PartMut.{same_len_mid}
use Rattle.slices.specs.Bytes.{bytes_of, append_bytes}
use Rattle.slices.proofs.Put.{front_long as part_long}
use Rattle.scratch.proofs.Laws.{scratch_front}
use Rattle.banquet.specs.Sets.{scheme_of}
use Rattle.banquet.specs.Key.{front_of}
use Rattle.sets.specs.Valid.{Valid}
use Rattle.sets.specs.Bounds.{all_sboxes, tapes_most}
use Rattle.sets.specs.PublicKey.{front_long}
use Rattle.signing.specs.Steps.{witness_length}
use Rattle.make_signature.proofs.Laws.{joined_lists, parties_lent}
use Rattle.make_signature.proofs.Hashes.{first_hashed, begun_right}
use Rattle.make_signature.proofs.commit_pass.Statement.{statement}
use Rattle.make_signature.proofs.commit_pass.Tie as tie

-- ---- earlier moments

abbrev salt-known-before-copy-at2 : tie.After-copy_at-2 → tie.After-shared_slice_known-5-1
salt-known-before-copy-at2 c = c.before.before.before.before.before.before.before.before.before.before.before.before

abbrev copy-at2-before-commit-frames-arg2 : tie.After-commit_frames-arg-2-1 → tie.After-copy_at-2
copy-at2-before-commit-frames-arg2 c = c.before.before.before.before.before.before.before

abbrev commit-frames-before-h2 : tie.After-h-2-1 → tie.After-commit_frames-t
commit-frames-before-h2 c = c.before.before.before.before.before.before.before.before

abbrev start-before-slice-known2 : tie.After-slice_known-2-1 → tie.Start
start-before-slice-known2 c = c.before.before.before.before.before.before.before.before

abbrev tape-length-before-copy-at-arg2 : tie.After-copy_at-arg-2-1 → tie.After-tape_length
tape-length-before-copy-at-arg2 c = c.before.before.before.before.before.before.before

abbrev start-before-slice-known4 : tie.After-slice_known-4-1 → tie.Start
start-before-slice-known4 c = start-before-slice-known2 (tape-length-before-copy-at-arg2 c.before.before.before).before

abbrev tape-length-before-commit-frames-arg : tie.After-commit_frames-arg-1 → tie.After-tape_length
tape-length-before-commit-frames-arg c = c.before.before.before.before.before.before.before.before.before.before.before.before.before.before

valid : (s : tie.Start) → Valid s.args.set.shape
valid s = s.requires.0.valid

-- ---- the key, and the inverses behind it

module _ (m : tie.After-tape_length) where
  abbrev start : tie.Start
  start = m.before.before.before.before.before.before.before.before.before

  -- the part of the array that is lent
  abbrev zeros : List ℕ
  zeros = take (16 + length start.args.inverses.now - 0) (replicate 216 0)

  all_in : 16 + length start.args.inverses.now ≡ witness_length start.args.set.shape
  all_in = ap (16 +◌) start.requires.2

  room : 16 + length start.args.inverses.now ≤ 216
  room = omega (arith, all_in, all_sboxes (valid start), (valid start).columns)

  zeros_long : length zeros ≡ 16 + length start.args.inverses.now
  zeros_long = let array : List ℕ = replicate 216 0 in part_long (16 + length start.args.inverses.now) array room

module _ (w : tie.After-copy_at-2) where
  abbrev measured : tie.After-tape_length
  measured = w.before.before.before.before.before.before.before.before

  abbrev begun : tie.Start
  begun = start measured

  abbrev witness : List ℕ
  witness = w.copy_at-2.new.dst

  witness_long : length witness ≡ witness_length begun.args.set.shape
  witness_long = w.copy_at-2.auto.dst ∙ w.copy_at.auto.dst ∙ zeros_long measured ∙ all_in measured

  witness_is : witness ≡ begun.args.key.now ++ begun.args.inverses.now
  witness_is =
      joined_lists (zeros measured) begun.args.key.now begun.args.inverses.now begun.requires.1 (zeros_long measured)
      w.copy_at.ensures w.copy_at-2.ensures

commit-frames-requires : tie.Need-commit_frames-t-requires
commit-frames-requires c κs =
    let w = copy-at2-before-commit-frames-arg2 c in
    let m = measured w in
    let s = start m in
    let p = s.requires in (
      p.4,
      p.5,
      front_long s.args.set.shape s.args.public.now p.3 c.front.ensures,
      witness_long w,
      p.0.frames_size,
      parties_lent (valid s) m.tape_length.ensures.0 m.tape_length.ensures.1 s.args.work.now p.6,
    )

-- ---- the offsets, and h1

module _ (x : tie.After-commit_frames-t) where
  abbrev joined : tie.After-copy_at-2
  joined = x.before.before.before.before.before.before.before.before

  abbrev entry : tie.Start
  entry = begun joined

  -- the front of the work slice
  abbrev lent : ℕ
  lent = entry.args.set.shape.parties * (measured joined).tape_length.result

returns : tie.Need-returns
returns c =
    let x = commit-frames-before-h2 c in
    let w = joined x in
    let s = entry x in
    let k = s.requires in
    let a = s.args in
    let known = salt-known-before-copy-at2 w in
    let front_is = x.front.ensures in (
      c.output.ensures
          ∙ first_hashed (valid s) (witness_is w) (front_of (scheme_of a.set.shape) a.public.now) a.roots.now front_is
          (bytes_of known.shared_slice_known-3-1.given)
          (bytes_of known.shared_slice_known-4-1.given) (bytes_of known.shared_slice_known-5-1.given)
          (append_bytes {xs = a.key.now} {ys = a.inverses.now} (bytes_of known.shared_slice_known-1.given)
          (bytes_of known.shared_slice_known-2-1.given))
          x.first_input-s.ensures x.commit_frames-t.ensures.1,
      (
        begun_right (valid s) (witness_is w) a.salt.now a.roots.now a.frames.now x.commit_frames-t.ensures.0,
        scratch_front (lent x) a.work.now x.commit_frames-t.new.tapes
            (omega (arith, tapes_most (valid s) (measured w).tape_length.ensures.1)) k.6 x.commit_frames-t.auto.tapes,
      ),
    )

pub commit_pass_spec : {M : Type 1} → statement M
commit_pass_spec =
    tie.close
    (tie.spec
    (λ c κs. tt)
    (λ c. let m = c.before in omega (arith, tapes_most (valid (start m)) m.tape_length.ensures.1))
    (λ c. omega (arith, room c.before))
    (λ c. omega arith)
    (λ c. omega arith)
    (λ c. room c.before)
    (λ c κs. let m = c.before.before.before in omega (arith, zeros_long m, (start m).requires.1))
    (λ c κs. omega (arith, c.copy_at.auto.dst, zeros_long (tape-length-before-copy-at-arg2 c)))
    (λ c κs. tt)
    (λ c κs. (start-before-slice-known4 c.before.before).requires.3)
    (λ c. omega arith)
    (λ c. omega arith)
    (λ c. let m = tape-length-before-commit-frames-arg c in omega (arith, tapes_most (valid (start m)) m.tape_length.ensures.1, (start m).requires.6))
    commit-frames-requires
    (λ c. refl)
    (λ c κs. tt)
    (λ c. (commit-frames-before-h2 c).commit_frames-t.auto.frames)
    (λ c. let x = commit-frames-before-h2 c in same_len_mid 0 (lent x - 0) (entry x).args.work.now x.commit_frames-t.new.tapes
    x.commit_frames-t.auto.tapes)
    returns)
