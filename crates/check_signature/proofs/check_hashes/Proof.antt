-- `check_signature::check_hashes` meets its contract: what is absorbed is what h1 and h3 bind. Assumes nothing.
use mathlib.Core.Path.{◌∙◌}
use native.Mathlib.Omega.{arith}
use borrow.Author.Rules.{rules}
use Rattle.slices.specs.Bytes.{bytes_of}
use Rattle.check_signature.proofs.Hashes.{first_right, third_right, hashes_tested}
use Rattle.check_signature.proofs.check_hashes.Statement.{statement}
use Rattle.check_signature.proofs.check_hashes.Tie as tie

-- ---- earlier moments

abbrev start-before-first-input : tie.After-first_input → tie.Start
start-before-first-input c = c.before.before.before.before.before.before.before.before

abbrev start-before-slice-known4 : tie.After-slice_known-4-1 → tie.Start
start-before-slice-known4 c = start-before-first-input c.before.before.before.before.before.before.before.before

abbrev tagged-before-compare-hashes : tie.After-compare_hashes → tie.After-tagged
tagged-before-compare-hashes c = c.before.before.before.before.before.before.before.before

abbrev first-input-before-compare-hashes : tie.After-compare_hashes → tie.After-first_input
first-input-before-compare-hashes c = (tagged-before-compare-hashes c).before

abbrev start-before-compare-hashes : tie.After-compare_hashes → tie.Start
start-before-compare-hashes c = start-before-first-input (first-input-before-compare-hashes c)

abbrev message-known-before-compare-hashes : tie.After-compare_hashes → tie.After-shared_slice_known-2-1
message-known-before-compare-hashes c = (first-input-before-compare-hashes c).before.before.before.before.before.before

compare-hashes-requires : tie.Need-compare_hashes-requires
compare-hashes-requires c κs = omega (arith, (start-before-slice-known4 c).requires.0.file_sized.size)

returns : tie.Need-returns
returns c =
    let s = start-before-compare-hashes c in
    let f = s.requires.0 in
    let m = bytes_of (message-known-before-compare-hashes c).shared_slice_known-2-1.given in
    let t = c.recomputed-t.ensures in
    c.compare_hashes.ensures
    ∙ hashes_tested f m
    (first_right f m (first-input-before-compare-hashes c).salt.ensures (first-input-before-compare-hashes c).first_input.ensures t.0)
    (third_right f m s.requires.1 (tagged-before-compare-hashes c).tagged.ensures t.1)

pub check_hashes_spec : {M : Type 1} → statement M
check_hashes_spec =
    tie.close
    (tie.spec (λ c κs. omega (arith, c.requires.0.file_sized.size)) (λ c κs. tt) (λ c κs. tt)
    (λ c κs. search rules)
    compare-hashes-requires (λ c. search rules) (λ c. search rules) returns)
