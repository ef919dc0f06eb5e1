use native.Mathlib.Omega.{arith}
use mathlib.Core.Path.{refl, sym, ap, ◌∙◌}
use Rattle.std.proofs.lemmas.Grind.{common_steps}
use Rattle.records.specs.Forms.{form_number}
use Rattle.records.specs.Refusals.{fault_of}
use Rattle.reading.proofs.Lines.{lined-refused, lined-passed, found-number}
use Rattle.reading.proofs.Storeys.{turn-first, turn-stops, cases-refused, turn-next, turn_last}
use Rattle.reading.proofs.survey.File.check_members.Goals as goal

pub loop-j-init : goal.loop-j-init
loop-j-init c = let a = c.args in let s = a.self.now in turn-first (form_number s.form) s.bytes.now a.rows a.storey.storeys a.storey.members a.count c.requires _ refl

pub returns-in_err-numbers : goal.returns-in_err-numbers
returns-in_err-numbers c =
    let a = c.args in
    let s = a.self.now in
    let l = c.loop-j in
    let r = c.in_err-numbers.field-0.0 in
    let o = lined-refused _ c.read_member-number.result r (sym c.at_line.ensures ∙ c.in_err-numbers.was) in
    let q = rw (sym c.line_number.ensures ∙ o.1) at (turn-stops (form_number s.form) s.bytes.now a.rows a.storey.storeys a.storey.members a.count c.requires l.numbers l.j l.invariant c.loop-j-test.true _ c.read_member-number.ensures.fault r.refusal o.0) in
    grind (arith, common_steps)

pub returns-in_err-check_cases : goal.returns-in_err-check_cases
returns-in_err-check_cases c =
    let a = c.args in
    let s = a.self.now in
    let l = c.loop-j in
    let o = lined-passed _ c.read_member-number.result c.in_ok-numbers.field-0 (sym c.at_line.ensures ∙ c.in_ok-numbers.was) in
    let r = c.in_err-check_cases.field-0.0 in
    let q =
    cases-refused (form_number s.form) s.bytes.now a.rows a.storey.storeys a.storey.members a.count c.requires l.numbers l.j l.invariant c.loop-j-test.true _ c.read_member-number.ensures.fault (ap fault_of o) _
    c.in_err-check_cases.ensures (found-number r) in
    grind (arith, common_steps)

pub loop-j-preserved : goal.loop-j-preserved
loop-j-preserved c =
    let a = c.args in
    let s = a.self.now in
    let l = c.loop-j in
    let o = lined-passed _ c.read_member-number.result c.in_ok-numbers.field-0 (sym c.at_line.ensures ∙ c.in_ok-numbers.was) in
    turn-next (form_number s.form) s.bytes.now a.rows a.storey.storeys a.storey.members a.count c.requires l.numbers l.j l.invariant c.loop-j-test.true _ c.read_member-number.ensures.fault (ap fault_of o) _
    c.in_ok-check_cases.ensures c.in_ok-numbers.field-0 (rw o at c.read_member-number.ensures.number) refl

pub returns : goal.returns
returns c = let a = c.args in let s = a.self.now in turn_last (form_number s.form) s.bytes.now a.rows a.storey.storeys a.storey.members a.count c.requires c.loop-j.numbers c.loop-j.j c.loop-j.invariant (omega arith)
