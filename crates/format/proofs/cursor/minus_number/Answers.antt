use mathlib.Core.Path.{sym, ◌∙◌}
use native.Mathlib.Omega.{arith}
use Rattle.format.proofs.Written.{minus-small, minus-zero, minus-not-blank, minus_by, minus-unlike}
use Rattle.format.proofs.cursor.minus_number.Goals.{else-n-ne0-via-then-n-ne0+then-columns-eq32+else-spells, else-n-ne0-via-then-n-ne0+else-columns-eq32, else-n-ne0-via-else-n-ne0}
use Rattle.format.proofs.cursor.minus_number.Goals as goal

pub overflow_sub-result : goal.overflow_sub-result
overflow_sub-result c =
    let n = c.digits-n.ensures.value in
    let w = rw n at (sym c.spells.ensures ∙ c.if-spells.true) in
    omega (arith, minus-small c.args.columns.now (omega arith) w)

pub returns-then-spells : goal.returns-then-spells
returns-then-spells c =
    let n = c.digits-n.ensures.value in
    rw n (minus_by c.args.columns.now c.spells.result (λ e. omega arith) (omega arith) (rw n at c.spells.ensures) c.if-spells.true)

pub returns-else-n-ne0 : goal.returns-else-n-ne0
returns-else-n-ne0 c =
    elim c.else-n-ne0.branch [
      | else-n-ne0-via-then-n-ne0+then-columns-eq32+else-spells w ↦ minus-unlike c.args.columns.now w.spells.result (rw c.digits-n.ensures.value at w.spells.ensures) w.if-spells.false
      | else-n-ne0-via-then-n-ne0+else-columns-eq32 w ↦ minus-not-blank c.args.columns.now (λ e. omega arith)
      | else-n-ne0-via-else-n-ne0 w ↦ minus-zero c.args.columns.now (omega arith)
    ]
