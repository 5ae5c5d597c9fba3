-- `text_lines::check_lines` meets its contract: a line that has the form goes on, and another is refused. Assumes nothing.
use Rattle.std.proofs.Common.{◌≡◌, ◌+◌, ◌-◌, refl, sym, ap, ◌∙◌, ℕ, Err, length, arith}
use Rattle.banquet.specs.declared.Refusal.TheVariants.{TextForm}
use Rattle.text_lines.proofs.Found.{line_found, none_ended}
use Rattle.text_lines.proofs.Checked.{check_end, check_more, unended, other_size, good_line}
use Rattle.text_lines.proofs.check_lines.Goals as goal
use Rattle.text_lines.proofs.check_lines.Goals.{in_default-via-in-Some+else-has_size, in_default-via-in_default}

pub returns-in_default : goal.returns-in_default
returns-in_default c =
    let a = c.args in
    let l = c.loop-i in
    sym (l.invariant.1 ∙ elim c.in_default.branch [
      | in_default-via-in-Some+else-has_size w ↦
          let f = line_found a.text.now l.at w.in-Some.digits w.in-Some.ensures in
          let k : l.at + w.in-Some.digits - l.at ≡ w.in-Some.digits = omega arith in
          other_size a.message a.sizes.now a.text.now l.i l.at c.loop-i-test.true l.invariant.0 f.0 f.1 (rw k (sym w.if-has_size.ensures))
      | in_default-via-in_default w ↦
          unended a.message a.sizes.now a.text.now l.i l.at c.loop-i-test.true l.invariant.0
          (none_ended a.text.now l.at l.invariant.0 w.in_default.ensures) refl
    ])

pub loop-i-preserved : goal.loop-i-preserved
loop-i-preserved c =
    let a = c.args in
    let l = c.loop-i in
    let f = line_found a.text.now l.at c.in-Some.digits c.in-Some.ensures in
    let k : l.at + c.in-Some.digits - l.at ≡ c.in-Some.digits = omega arith in
    let n : l.at + (c.in-Some.digits + 1) ≡ l.at + c.in-Some.digits + 1 = omega arith in
    let is = good_line a.message a.sizes.now a.text.now l.i l.at c.loop-i-test.true l.invariant.0 f.0 f.1 (rw k (sym c.if-has_size.ensures)) in
    rw n (omega (arith, f), l.invariant.1 ∙ is)

-- no line is left
pub returns-then-at-text : goal.returns-then-at-text
returns-then-at-text c =
    let a = c.args in
    let l = c.loop-i in
    let e : l.i ≡ length a.sizes.now = omega arith in
    sym (l.invariant.1
    ∙ check_more a.message a.sizes.now a.text.now l.i l.at e l.invariant.0 c.if-at-text.true
    ∙ ap (λ (n : ℕ). Err (TextForm (n + 1))) e)

pub returns : goal.returns
returns c =
    let a = c.args in
    let l = c.loop-i in
    sym (l.invariant.1 ∙ check_end a.message a.sizes.now a.text.now l.i l.at (omega arith) c.if-at-text.false)
