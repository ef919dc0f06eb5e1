use native.Mathlib.Omega.{arith}
use mathlib.Core.Path.{sym, ◌∙◌}
use Rattle.std.proofs.lemmas.Grind.{common_steps}
use Rattle.reading.proofs.Lines.{lined-refused, lined-passed}
use Rattle.reading.proofs.Cases.{cases-first, cases-stop, cases_next, cases_last}
use Rattle.reading.proofs.survey.File.check_cases.Goals as goal

pub loop-c-init : goal.loop-c-init
loop-c-init c = cases-first _ _ _ _

pub returns-in_err-at_line : goal.returns-in_err-at_line
returns-in_err-at_line c =
    let r = c.in_err-at_line.field-0.0 in
    let o = lined-refused _ c.check_case.result r (sym c.at_line.ensures ∙ c.in_err-at_line.was) in
    let q = rw (rw c.line_number.ensures at o.1) at (cases-stop _ _ _ _ c.loop-c.c c.loop-c.invariant r.refusal (omega arith) (sym o.0 ∙ c.check_case.ensures)) in
    grind (arith, common_steps)

pub loop-c-preserved : goal.loop-c-preserved
loop-c-preserved c =
    let o = lined-passed _ c.check_case.result c.in_ok-at_line.field-0 (sym c.at_line.ensures ∙ c.in_ok-at_line.was) in
    cases_next _ _ _ _ c.loop-c.c c.loop-c.invariant (rw o at c.check_case.ensures)

pub returns : goal.returns
returns c = cases_last _ _ _ _ c.loop-c.c c.loop-c.invariant (omega arith)
