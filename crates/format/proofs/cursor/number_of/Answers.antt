use mathlib.Core.Path.{sym, ◌∙◌}
use native.Mathlib.Omega.{arith}
use Rattle.format.proofs.Scan.{force-small, force-number, force-else}
use Rattle.format.proofs.cursor.number_of.Goals as goal

pub overflow_add-result : goal.overflow_add-result
overflow_add-result c = omega (arith, force-small c.args.columns.now c.in-Some.n (sym c.in-Some.is ∙ c.plain_number-plain.ensures))

pub returns-in-Some : goal.returns-in-Some
returns-in-Some c = rw c.if-not-force.false (force-number c.args.columns.now c.in-Some.n (sym c.in-Some.is ∙ c.plain_number-plain.ensures))

pub returns-in-None : goal.returns-in-None
returns-in-None c = c.minus_number.ensures ∙ rw c.if-not-force.false (force-else c.args.columns.now (sym c.in-None.is ∙ c.plain_number-plain.ensures))
