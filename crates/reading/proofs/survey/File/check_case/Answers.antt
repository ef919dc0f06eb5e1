use native.Mathlib.Omega.{arith}
use Rattle.std.proofs.lemmas.Grind.{common_steps}
use Rattle.records.specs.Forms.{form_number}
use Rattle.format.specs.Lines.{case_start}
use Rattle.reading.specs.Checks.{start_of}
use Rattle.reading.proofs.Cases.{case-refused, case-passed}
use Rattle.reading.proofs.survey.File.check_case.Goals as goal

pub returns-in_err-vs : goal.returns-in_err-vs
returns-in_err-vs c =
    let l = c.line-line.ensures in
    let s = c.args.self.now in
    let q = case-refused s.bytes.now (case_start (start_of (form_number s.form) c.args.place) c.args.c) c.args.c c.in_err-vs.field-0.0 (rw (l.file, l.at, l.kind, c.case_start.ensures) at c.in_err-vs.ensures.fault) in
    grind (arith, common_steps)

pub returns : goal.returns
returns c =
    let l = c.line-line.ensures in
    let s = c.args.self.now in
    let e = c.in_ok-vs.ensures in
    case-passed s.bytes.now (case_start (start_of (form_number s.form) c.args.place) c.args.c) c.args.c c.in_ok-vs.vs (rw (l.file, l.at, l.kind, c.case_start.ensures) at e.fault) (rw (l.file, l.at, l.kind, c.case_start.ensures) at e.values) _ c.check_case_number.ensures
