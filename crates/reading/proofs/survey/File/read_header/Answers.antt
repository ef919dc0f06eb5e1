use native.Mathlib.Omega.{arith}
use mathlib.Core.Path.{◌∙◌}
use Rattle.std.proofs.lemmas.Grind.{common_steps}
use Rattle.reading.proofs.Lines.{header-refused, header-is, header-checked}
use Rattle.reading.proofs.survey.File.read_header.Goals as goal

pub returns-in_err-vs-clause-fault : goal.returns-in_err-vs-clause-fault
returns-in_err-vs-clause-fault c =
    let l = c.line.ensures in
    let q = header-refused c.args.self.now.bytes.now c.in_err-vs.field-0.0 (rw (l.file, l.at, l.kind) at c.in_err-vs.ensures.fault) in
    grind (arith, common_steps)

pub returns-in_err-check_header-clause-fault : goal.returns-in_err-check_header-clause-fault
returns-in_err-check_header-clause-fault c =
    let l = c.line.ensures in
    let s = c.args.self.now in
    let e = c.in_ok-vs.ensures in
    let q = header-checked s.bytes.now c.in_ok-vs.vs c.of-header.result (rw (l.file, l.at, l.kind) at e.fault) (rw (l.file, l.at, l.kind) at e.values) c.number.result (c.number.ensures ∙ s.formed) c.of-header.ensures _ c.in_err-check_header.ensures.fault in
    grind (arith, common_steps)

pub returns-clause-fault : goal.returns-clause-fault
returns-clause-fault c =
    let l = c.line.ensures in
    let s = c.args.self.now in
    let e = c.in_ok-vs.ensures in
    header-checked s.bytes.now c.in_ok-vs.vs c.of-header.result (rw (l.file, l.at, l.kind) at e.fault) (rw (l.file, l.at, l.kind) at e.values) c.number.result (c.number.ensures ∙ s.formed) c.of-header.ensures _ c.in_ok-check_header.ensures.fault

pub returns-clause-header : goal.returns-clause-header
returns-clause-header c =
    let l = c.line.ensures in
    let s = c.args.self.now in
    let e = c.in_ok-vs.ensures in
    header-is s.bytes.now c.in_ok-vs.vs c.of-header.result (rw (l.file, l.at, l.kind) at e.fault) (rw (l.file, l.at, l.kind) at e.values) c.number.result (c.number.ensures ∙ s.formed) c.of-header.ensures
