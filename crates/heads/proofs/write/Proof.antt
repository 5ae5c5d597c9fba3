-- `heads::write` meets its contract: part by part. Assumes nothing.
use mathlib.Core.Path.{◌≡◌, ◌∙◌}
use native.Mathlib.Omega.{arith}
use lib.ListN.{length}
use borrow.Author.Rules.{rules}
use Rattle.heads.proofs.Laws.{head_written}
use Rattle.heads.proofs.write.Statement.{statement}
use Rattle.heads.proofs.write.Tie as tie

-- ---- earlier moments

abbrev start : tie.After-copy_at → tie.Start
start a = a.before.before.before.before.before.before

abbrev salt-put : tie.After-copy_at-2 → tie.After-copy_at
salt-put b = b.before.before.before.before

abbrev h1-put : tie.After-copy_at-3 → tie.After-copy_at-2
h1-put c = c.before.before.before.before

one_long : (a : tie.After-copy_at) → length a.copy_at.new.dst ≡ length (start a).args.out.now
one_long a = a.copy_at.auto.dst

two_long : (b : tie.After-copy_at-2) → length b.copy_at-2.new.dst ≡ length (start (salt-put b)).args.out.now
two_long b = b.copy_at-2.auto.dst ∙ one_long (salt-put b)

copy-at-requires-2 : tie.Need-copy_at-requires-2
copy-at-requires-2 c κs = let a = c.before.before.before in omega (arith, one_long a, (start a).requires.0, (start a).requires.2)

copy-at-requires-3 : tie.Need-copy_at-requires-3
copy-at-requires-3 c κs =
    let b = c.before.before.before in
    let s = start (salt-put b) in
    omega (arith, two_long b, s.requires.0, s.requires.3)

returns : tie.Need-returns
returns z =
    let c = z.before.before in
    let b = h1-put c in
    let a = salt-put b in
    let s = start a in
    head_written s.args.out.now s.args.salt.now s.args.h1.now s.args.h3.now s.requires.0 s.requires.1 s.requires.2 s.requires.3
    a.copy_at.ensures b.copy_at-2.ensures c.copy_at-3.ensures

pub write_spec : {M : Type 1} → statement M
write_spec =
    tie.close
    (tie.spec (λ c κs. search rules) copy-at-requires-2 copy-at-requires-3
    (λ z. let c = z.before.before in c.copy_at-3.auto.dst ∙ two_long (h1-put c)) returns)
