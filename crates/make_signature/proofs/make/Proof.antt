-- `make_signature::make` meets its contract: the frames are made, and the head is written in front of them. Assumes nothing.
use mathlib.Core.Path.{◌≡◌, refl, sym, ap, ◌∙◌}
use mathlib.Core.List.{List, [], ◌∷◌, ◌++◌}
use Prim.Native.Nat.{ℕ, ◌-◌, ◌*◌}
use native.Mathlib.Omega.{arith}
use lib.ListN.{length, take, drop, length-drop}
use lib.Seq.{length-take-le}
use borrow.Rule.Slice.PartMut.{put_mid, same_len_mid}
use borrow.Author.Rules.{rules}
use Rattle.slices.specs.Layout.{total, layout}
use Rattle.banquet.specs.Shape.{head_length, frame_sizes}
use Rattle.scratch.specs.Scratch.{scratch_then}
use Rattle.signing.specs.Witness.{Witness, inputs_size, inverses_size}
use Rattle.signing.specs.Passes.{Passes}
use Rattle.signing.specs.Made.{first_made, third_made, frames_made}
use Rattle.make_signature.proofs.Laws.{frames_behind, signature_is}
use Rattle.make_signature.proofs.make.Statement.{statement}
use Rattle.make_signature.proofs.make.Tie as tie

-- ---- earlier moments

abbrev start-before-slice-known2 : tie.After-slice_known-2-1 → tie.Start
start-before-slice-known2 c = c.before.before.before.before.before.before.before.before.before

abbrev answer-passes-before-h12 : tie.After-h1-2-1 → tie.After-answer_passes-h3
answer-passes-before-h12 c = c.before.before.before.before.before.before

abbrev commit-pass-before-h12 : tie.After-h1-2-1 → tie.After-commit_pass-h1
commit-pass-before-h12 c = (answer-passes-before-h12 c).before.before.before.before.before.before.before

abbrev answer-passes-before-write : tie.After-write → tie.After-answer_passes-h3
answer-passes-before-write w = answer-passes-before-h12 w.before.before

-- ---- the frames, lent as `&mut out[heads::LENGTH..end]`

module _ (s : tie.Start) where
  abbrev lent : List ℕ
  lent = take (length s.args.out.now - head_length) (drop head_length s.args.out.now)

  lent_size : length lent ≡ s.args.set.shape.executions * total (frame_sizes s.args.set.shape)
  lent_size =
      length-take-le (length s.args.out.now - head_length) (drop head_length s.args.out.now) (omega (arith, length-drop head_length s.args.out.now))
      ∙ omega (arith, s.requires.1)

  witness : Witness s.args.set.shape s.args.key.now s.args.public.now s.args.inputs.now s.args.inverses.now
      (s.args.key.now ++ s.args.inverses.now)
  witness =
      let g = s.requires.0 in
      record { key_size = g.key_size; inputs_is = g.inputs_is; inverses_is = g.inverses_is; witness_is = refl }

commit-pass-requires : tie.Need-commit_pass-h1-requires
commit-pass-requires c κs =
    let s = start-before-slice-known2 c.before.before.before in
    let g = s.requires.0 in (
      record { valid = g.valid; frames_size = lent_size s },
      g.key_size,
      inverses_size g.valid (witness s),
      g.public_size,
      g.salt_size,
      g.roots_size,
      s.requires.2,
    )

module _ (b : tie.After-commit_pass-h1) where
  abbrev start : tie.Start
  start = b.before.before.before.before.before.before.before.before.before.before.before.before.before

  h1_size : length b.commit_pass-h1.result ≡ 32
  h1_size = search rules

answer-passes-requires : tie.Need-answer_passes-h3-requires
answer-passes-requires c κs =
    let b = c.before.before.before.before.before.before in
    let s = start b in
    let g = s.requires.0 in (
      record { valid = g.valid; frames_size = b.commit_pass-h1.auto.frames ∙ lent_size s },
      g.public_size,
      g.salt_size,
      g.roots_size,
      inputs_size g.valid (witness s),
      inverses_size g.valid (witness s),
      h1_size b,
      omega (arith, b.commit_pass-h1.auto.work, s.requires.2),
    )

-- ---- what the passes leave

module _ (x : tie.After-answer_passes-h3) where
  abbrev begun : tie.After-commit_pass-h1
  begun = x.before.before.before.before.before.before.before

  abbrev entry : tie.Start
  entry = start begun

  abbrev out : List ℕ
  out = entry.args.out.now

  abbrev frames : List ℕ
  frames = x.answer_passes-h3.new.frames

  frames_kept : length frames ≡ length (lent entry)
  frames_kept = x.answer_passes-h3.auto.frames ∙ begun.commit_pass-h1.auto.frames

  out_long : length (put_mid head_length (length out - head_length) out frames) ≡ length out
  out_long = same_len_mid head_length (length out - head_length) out frames frames_kept

  h3_size : length x.answer_passes-h3.result ≡ 32
  h3_size = search rules

  passes : Passes entry.args.set.shape entry.args.public.now entry.args.message.now entry.args.salt.now entry.args.roots.now
      entry.args.inputs.now entry.args.inverses.now (entry.args.key.now ++ entry.args.inverses.now) (lent entry)
      begun.commit_pass-h1.result begun.commit_pass-h1.new.frames x.answer_passes-h3.result frames
  passes = record {
    frames_size = lent_size entry;
    h1_is = begun.commit_pass-h1.ensures.0;
    begun_is = begun.commit_pass-h1.ensures.1.0;
    answered = x.answer_passes-h3.ensures.0;
  }

-- ---- the head

write-requires : tie.Need-write-requires
write-requires c κs =
    let x = answer-passes-before-h12 c.before in
    (omega (arith, out_long x, (entry x).requires.1), (entry x).requires.0.salt_size, h1_size (begun x), h3_size x)

returns : tie.Need-returns
returns c =
    let w = c.before.before in
    let x = answer-passes-before-write w in
    let a = (entry x).args in
    let g = (entry x).requires.0 in (
      w.write.ensures
          ∙ ap (layout (a.salt.now ∷ (begun x).commit_pass-h1.result ∷ x.answer_passes-h3.result ∷ []) ++◌)
          (frames_behind (out x) (frames x) (entry x).requires.1 (frames_kept x ∙ lent_size (entry x)))
          ∙ signature_is a.set.shape a.key.now a.public.now a.message.now a.salt.now a.roots.now
          (first_made g.valid (witness (entry x)) (passes x)) (third_made g.valid (witness (entry x)) (passes x))
          (frames_made g.valid (witness (entry x)) (passes x)),
      scratch_then (begun x).commit_pass-h1.ensures.1.1 x.answer_passes-h3.ensures.1,
    )

pub make_spec : {M : Type 1} → statement M
make_spec =
    tie.close
    (tie.spec
    (λ c. omega (arith, (start-before-slice-known2 c).requires.1))
    (λ c. omega (arith, (start-before-slice-known2 c).requires.1))
    (λ c. omega arith)
    commit-pass-requires
    (λ c. sym (h1_size c.before.before.before.before.before))
    answer-passes-requires
    (λ c. sym (h1_size (commit-pass-before-h12 c)))
    (λ c. sym (h3_size (answer-passes-before-h12 c.before)))
    write-requires
    (λ c. let w = c.before.before in w.write.auto.out ∙ out_long (answer-passes-before-write w))
    (λ c. let x = answer-passes-before-write c.before.before in x.answer_passes-h3.auto.work
    ∙ (begun x).commit_pass-h1.auto.work)
    returns)
