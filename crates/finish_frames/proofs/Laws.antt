-- A frame whose front is written in two parts, and the hidden party's commitment among them. Assumes nothing.
use mathlib.Core.Path.{◌≡◌, ap, ap₂, ◌∙◌}
use mathlib.Core.List.{List, ◌++◌}
use Prim.Native.Nat.{ℕ, ◌+◌, ◌-◌, ◌*◌, ◌^◌, ◌<◌, ◌≤◌}
use native.Mathlib.Omega.{arith}
use lib.ListN.{length, take, drop, replicate, length-drop}
use lib.Seq.{take_at, drop_at, drop-drop, length-take-le}
use borrow.Rule.Slice.PartMut.{put_mid, same_len_mid}
use Rattle.slices.specs.Lists.{row}
use Rattle.slices.specs.Numbers.{number_at}
use Rattle.slices.specs.Layout.{total}
use Rattle.slices.proofs.Rows.{row_cut}
use Rattle.slices.proofs.Put.{front_long}
use Rattle.shake.specs.Shake128.{shake128}
use Rattle.party.specs.Party.{party_hash}
use Rattle.party.proofs.Laws.{row_hashed}
use Rattle.banquet.specs.declared.Shape.{Shape}
use Rattle.banquet.specs.Shape.{frame_sizes}
use Rattle.banquet.specs.Sets.{scheme_of}
use Rattle.banquet.specs.Hash.{commitment, party_of}
use Rattle.banquet.specs.Signer.{seed_of}
use Rattle.banquet.specs.Tree.{node_seeds, leaves, sibling_seeds}
use Rattle.sets.specs.Valid.{Valid}
use Rattle.frames.specs.Frames.{frame_total}
use Rattle.leaf_seeds.specs.Seeds.{seeds_row}
use Rattle.signing.specs.Steps.{finished_frame}
use Rattle.signing.specs.Loop.{Reworking, reworking_row}

-- ---- a front that is lent as `&mut d[0..a]`, and the k elements behind it

next_long : (a k : ℕ) (d : List ℕ) {b : ℕ} → b ≡ a + k → b ≤ length d → length (take (b - a) (drop a d)) ≡ k
next_long a k d {b} f h =
    let e : b - a ≡ k = omega arith in
    rw e (length-take-le k (drop a d) (omega (arith, length-drop a d)))

-- they come back as y and z
two_lent : (a k : ℕ) (d y z : List ℕ) {b : ℕ} → b ≡ a + k → length y ≡ a → put_mid a (b - a) (put_mid 0 (a - 0) d y) z ≡ y ++ (z ++ drop b d)
two_lent a k d y z {b} g h =
    let e : b - a ≡ k = omega arith in
    let f : a - 0 ≡ a = omega arith in
    rw (e, f, take_at y (drop a d) a h, drop_at y (drop a d) a h, drop-drop k a d, g)

-- ---- where the sibling seeds of a frame end, which are lent as `&mut frame[0..d]`, and the commitment behind them, `&mut frame[d..k]`

pub record Ends (S : Shape) (d k : ℕ) : Type 0 where
  pub siblings : d ≡ total (take 1 (frame_sizes S))
  pub commitment : k ≡ total (take 2 (frame_sizes S))

module _ {S : Shape} {d k : ℕ} (ends : Ends S d k) where
  behind : k ≡ d + 32
  behind = omega (arith, ends.siblings, ends.commitment)

  pub siblings_first : d ≤ k
  siblings_first = omega (arith, behind)

  pub within_frame : Valid S → {n : ℕ} → n ≡ total (frame_sizes S) → k ≤ n
  within_frame v e = omega (arith, ends.commitment, e, frame_total v)

  pub siblings_long : (frame : List ℕ) → k ≤ length frame → length (take (d - 0) frame) ≡ S.depth * 16
  siblings_long frame h =
      let size : d ≡ S.depth * 16 = omega (arith, ends.siblings) in
      front_long d frame (omega (arith, behind, h)) ∙ size

-- ---- a frame

module _ {S : Shape} (v : Valid S) (salt root : List ℕ) (e hidden : ℕ) (frame : List ℕ) (root_long : length root ≡ 16)
    (within : hidden < S.parties) (long : length frame ≡ total (frame_sizes S)) {d k : ℕ} (ends : Ends S d k) where
  open S use {depth}

  room : k ≤ length frame
  room = within_frame ends v long

  -- the frame with the sibling seeds, which are y
  abbrev seeded : List ℕ → List ℕ
  seeded y = put_mid 0 (d - 0) frame y

  module _ {seeds y z : List ℕ} (seeds_are : seeds ≡ node_seeds (leaves shake128 salt e depth 0 root) ++ replicate (2048 - 16 * 2 ^ depth) 0)
      (y_is : y ≡ sibling_seeds shake128 salt e depth 0 root hidden) (kept : length y ≡ length (take (d - 0) frame))
      (z_is : z ≡ party_hash 0 salt e hidden (take (hidden * 16 + 16 - hidden * 16) (drop (hidden * 16) seeds))
      (length (take (k - d) (drop d (seeded y))))) where
    committed : z ≡ commitment (scheme_of S) salt e hidden (seed_of (scheme_of S) salt root e hidden)
    unfolding commitment party_hash
    committed =
        let same = same_len_mid 0 (d - 0) frame y kept in
        row_hashed 0 salt e hidden seeds (next_long d 32 (seeded y) (behind ends) (omega (arith, room, same))) z_is
        ∙ ap (commitment (scheme_of S) salt e hidden) (seeds_row v salt root e root_long seeds_are hidden within)

    pub finished : put_mid d (k - d) (seeded y) z ≡ finished_frame S salt root e hidden frame
    unfolding finished_frame
    finished =
        two_lent d 32 frame y z (behind ends) (kept ∙ front_long d frame (omega (arith, behind ends, room)))
        ∙ ap₂ (λ x b. x ++ b) y_is (ap₂ (λ w n. w ++ drop n frame) committed ends.commitment)

-- ---- all frames

module _ (S : Shape) (salt roots thirds frames : List ℕ) where
  -- frame e
  abbrev pub finished_row : ℕ → List ℕ
  finished_row e =
      finished_frame S salt (row 16 e roots) e (party_of S.parties (number_at 4 e thirds)) (row (total (frame_sizes S)) e frames)

  -- the next frame is finished; `len` is the bytes of a frame, as the code has them
  pub finished_next : {len e m hidden : ℕ} {l y : List ℕ} → len ≡ total (frame_sizes S) → Reworking finished_row len e m frames l
      → hidden ≡ party_of S.parties (number_at 4 e thirds)
      → y ≡ finished_frame S salt (take (e * 16 + 16 - e * 16) (drop (e * 16) roots)) e hidden (take (e * len + len - e * len) (drop (e * len) l))
      → y ≡ finished_row e
  finished_next {len} {e} h w x f = f ∙ rw (x, row_cut e 16 roots, reworking_row w, h)
