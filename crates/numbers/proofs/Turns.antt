-- Numbers in bytes, low byte first, for the loops: a number read from its highest byte down, and the bytes of a number one by one. Assumes nothing.
use Rattle.std.specs.List.{push}
use Rattle.std.proofs.Common.{◌≡◌, refl, sym, ap, ◌∙◌, List, [], ◌∷◌, ◌++◌, append_assoc, append-nil, ℕ, ◌+◌, ◌*◌, ◌/◌, ◌%◌, ◌^◌, ◌<◌, ◌≤◌, length, get_or, add-zero, length-append, get_or-append-add, arith}
use Rattle.slices.specs.Lists.{tab, part}
use Rattle.slices.specs.Tab.{tab_sized, tab_cong, length_part, part_tab, part_append}
use Rattle.slices.specs.Bytes.{Bytes}
use Rattle.slices.specs.Numbers.{number, bytes_of, get_d_bytes_of, length_bytes_of, number_lt, number_append}

-- ---- load: of the bytes p, at most eight, those of r are still to be read, and the others, which stand behind them, make x

pub record Reading (p r : List ℕ) (x : ℕ) : Type 0 where
  pub bytes : Bytes p
  pub most : length p ≤ 8
  pub read : List ℕ
  pub split : p ≡ r ++ read
  pub is : x ≡ number read

pub reading_none : {p r : List ℕ} → Bytes p → length p ≤ 8 → r ≡ p → Reading p r 0
unfolding number
reading_none {p} {r} h l e = record { bytes = h; most = l; read = []; split = sym (append-nil r ∙ e); is = refl }

-- a turn: the byte below
pub reading_more : (q : List ℕ) (b : ℕ) {p r : List ℕ} {x : ℕ} → Reading p r x → r ≡ push q b → Reading p q (b + x * 256)
unfolding number
reading_more q b w e =
    record {
      bytes = w.bytes;
      most = w.most;
      read = b ∷ w.read;
      split = w.split ∙ ap (◌++ w.read) e ∙ append_assoc q (b ∷ []) w.read;
      is = omega (arith, w.is);
    }

pub reading_all : {p r : List ℕ} {x : ℕ} → Reading p r x → length r ≡ 0 → x ≡ number p
reading_all {r = []} w e = w.is ∙ ap number (sym w.split)
reading_all {r = b ∷ r} w e = absurd (omega arith)

pub reading_fits : {p r : List ℕ} {x : ℕ} → Reading p r x → x < 2 ^ 64
reading_fits {p} {r} w =
    let long : length p ≡ length r + length w.read = ap length w.split ∙ length-append r w.read in
    let bytes : Bytes w.read = record { lt = λ i. rw (← get_or-append-add r w.read i 0, ← w.split) (w.bytes.lt (length r + i)) } in
    rw w.is (number_lt w.read 8 bytes (omega (arith, w.most)))

-- ---- load4 and load8: four bytes, and four above them

pub four_bytes : (s : List ℕ) (at : ℕ) → at + 4 ≤ length s → get_or s at 0 ∷ tab (λ i. get_or s (at + (i + 1)) 0) 3 ≡ part at 4 s
four_bytes s at h = ap (λ n. get_or s n 0 ∷ tab (λ i. get_or s (at + (i + 1)) 0) 3) (sym (add-zero at)) ∙ sym (part_tab 4 at s h)

pub eight_bytes : (s : List ℕ) (at : ℕ) → at + 8 ≤ length s
    → number (part at 4 s) + 2 ^ 32 * number (part (at + 4) 4 s) ≡ number (part at 8 s)
eight_bytes s at h =
    let four : length (part at 4 s) ≡ 4 = length_part at 4 s (omega arith) in
    sym (ap number (part_append at 4 4 s) ∙ number_append (part at 4 s) (part (at + 4) 4 s)
    ∙ ap (λ n. number (part at 4 s) + 2 ^ (8 * n) * number (part (at + 4) 4 s)) four)

-- ---- store

pub bytes_tab : (n x : ℕ) → tab (λ i. x / 2 ^ (8 * i) % 256) n ≡ bytes_of n x
bytes_tab n x = tab_cong n (λ i l. sym (get_d_bytes_of n x i l)) ∙ tab_sized (bytes_of n x) (length_bytes_of n x)
