use native.Mathlib.Omega.{arith}
use mathlib.Core.Path.{refl, sym, ap, ◌∙◌}
use Rattle.std.proofs.lemmas.Grind.{common_steps}
use Rattle.records.specs.Forms.{form_number}
use Rattle.records.specs.Refusals.{fault_of}
use Rattle.reading.proofs.Lines.{lined-refused, lined-passed, found-number}
use Rattle.reading.proofs.Files.{begun_first, storey-stops, is-due, members-stop, begun-next}
use Rattle.reading.proofs.survey.File.check_storeys.Goals as goal

pub loop-i-init : goal.loop-i-init
loop-i-init c = let a = c.args in let s = a.self.now in begun_first (form_number s.form) s.bytes.now a.n a.srows a.mrows c.requires _ refl

pub returns-in_err-storey-clause-fault : goal.returns-in_err-storey-clause-fault
returns-in_err-storey-clause-fault c =
    let a = c.args in
    let s = a.self.now in
    let l = c.loop-i in
    let r = c.in_err-storey.field-0.0 in
    let o = lined-refused _ c.read_storey-storey.result r (sym c.at_line.ensures ∙ c.in_err-storey.was) in
    let q = rw (sym c.line_number.ensures ∙ o.1) at (storey-stops (form_number s.form) s.bytes.now a.n a.srows a.mrows c.requires l.numbers l.i l.m l.invariant c.loop-i-test.true _ c.read_storey-storey.ensures.fault r.refusal o.0) in
    grind (arith, common_steps)

pub check_members-requires : goal.check_members-requires
check_members-requires c =
    let a = c.args in
    let s = a.self.now in
    let l = c.loop-i in
    let o = lined-passed _ c.read_storey-storey.result c.in_ok-storey.storey (sym c.at_line.ensures ∙ c.in_ok-storey.was) in
    is-due (form_number s.form) s.bytes.now a.n a.srows a.mrows c.requires l.numbers l.i l.m l.invariant c.loop-i-test.true _ c.read_storey-storey.ensures.fault (ap fault_of o) c.in_ok-storey.storey
    (rw o at c.read_storey-storey.ensures.storey) _ c.member_count.ensures

pub returns-in_err-check_members-clause-fault : goal.returns-in_err-check_members-clause-fault
returns-in_err-check_members-clause-fault c =
    let a = c.args in
    let s = a.self.now in
    let l = c.loop-i in
    let o = lined-passed _ c.read_storey-storey.result c.in_ok-storey.storey (sym c.at_line.ensures ∙ c.in_ok-storey.was) in
    let r = c.in_err-check_members.field-0.0 in
    let q =
    members-stop (form_number s.form) s.bytes.now a.n a.srows a.mrows c.requires l.numbers l.i l.m l.invariant c.loop-i-test.true _ c.read_storey-storey.ensures.fault (ap fault_of o) c.in_ok-storey.storey
    (rw o at c.read_storey-storey.ensures.storey) _ c.in_err-check_members.ensures (found-number r) in
    grind (arith, common_steps)

pub overflow_add-m : goal.overflow_add-m
overflow_add-m c =
    let a = c.args in
    let s = a.self.now in
    let l = c.loop-i in
    let o = lined-passed _ c.read_storey-storey.result c.in_ok-storey.storey (sym c.at_line.ensures ∙ c.in_ok-storey.was) in
    let d =
    is-due (form_number s.form) s.bytes.now a.n a.srows a.mrows c.requires l.numbers l.i l.m l.invariant c.loop-i-test.true _ c.read_storey-storey.ensures.fault (ap fault_of o) c.in_ok-storey.storey
    (rw o at c.read_storey-storey.ensures.storey) _ c.member_count-m.ensures in
    omega (arith, d.count_most, d.most)

pub loop-i-preserved : goal.loop-i-preserved
loop-i-preserved c =
    let a = c.args in
    let s = a.self.now in
    let l = c.loop-i in
    let o = lined-passed _ c.read_storey-storey.result c.in_ok-storey.storey (sym c.at_line.ensures ∙ c.in_ok-storey.was) in
    begun-next (form_number s.form) s.bytes.now a.n a.srows a.mrows c.requires l.numbers l.i l.m l.invariant c.loop-i-test.true _ c.read_storey-storey.ensures.fault (ap fault_of o) c.in_ok-storey.storey
    (rw o at c.read_storey-storey.ensures.storey) _ _ c.in_ok-check_members.ensures refl c.member_count-m.ensures
