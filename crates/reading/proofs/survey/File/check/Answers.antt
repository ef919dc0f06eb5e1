use native.Mathlib.Omega.{arith}
use mathlib.Core.Path.{refl, sym, ap, ◌∙◌}
use Rattle.std.proofs.lemmas.Grind.{common_steps}
use Rattle.records.specs.Forms.{form_number}
use Rattle.records.specs.Refusals.{fault_of}
use Rattle.records.specs.declared.Header.{Header}
use Rattle.reading.proofs.Lines.{lined-refused, lined-passed, found-number}
use Rattle.reading.proofs.Numbers.{ten-storeys, told-header, told-later, told-accepted}
use Rattle.reading.proofs.survey.File.check.Goals as goal

pub returns-in_err-header : goal.returns-in_err-header
returns-in_err-header c =
    let a = c.args in
    let s = a.self.now in
    let r = c.in_err-header.field-0.0 in
    let o = lined-refused _ c.read_header.result r (sym c.at_line.ensures ∙ c.in_err-header.was) in
    let q = rw o.1 at (told-header s.bytes.now a.srows a.mrows r.refusal (sym o.0 ∙ c.read_header.ensures.fault)) in
    grind (arith, common_steps)

pub check_storeys-requires : goal.check_storeys-requires
check_storeys-requires c =
    let s = c.args.self.now in
    let o = lined-passed _ c.read_header.result c.in_ok-header.header (sym c.at_line.ensures ∙ c.in_ok-header.was) in
    let k = ap (λ (h : Header). h.count) (rw o at c.read_header.ensures.header) in
    omega (arith, ten-storeys s.bytes.now (sym c.read_header.ensures.fault ∙ ap fault_of o), k)

pub returns-in_err-members : goal.returns-in_err-members
returns-in_err-members c =
    let a = c.args in
    let s = a.self.now in
    let o = lined-passed _ c.read_header.result c.in_ok-header.header (sym c.at_line.ensures ∙ c.in_ok-header.was) in
    let k = ap (λ (h : Header). h.count) (rw o at c.read_header.ensures.header) in
    let r = c.in_err-members.field-0.0 in
    let q = told-later s.bytes.now a.srows a.mrows (form_number s.form) c.in_ok-header.header.count (sym (ap fault_of o) ∙ c.read_header.ensures.fault) s.formed k _ c.in_err-members.ensures.fault (found-number r) in
    grind (arith, common_steps)

pub returns : goal.returns
returns c =
    let a = c.args in
    let s = a.self.now in
    let o = lined-passed _ c.read_header.result c.in_ok-header.header (sym c.at_line.ensures ∙ c.in_ok-header.was) in
    let h = rw o at c.read_header.ensures.header in
    let k = ap (λ (h : Header). h.count) h in
    told-accepted s.bytes.now a.srows a.mrows (form_number s.form) c.in_ok-header.header.count (sym (ap fault_of o) ∙ c.read_header.ensures.fault) s.formed k _ c.in_ok-members.ensures.fault c.in_ok-header.header c.in_ok-members.members h c.in_ok-members.ensures.members refl
