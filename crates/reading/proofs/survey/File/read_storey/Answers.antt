use native.Mathlib.Omega.{arith}
use Rattle.std.proofs.lemmas.Grind.{common_steps}
use Rattle.records.specs.Forms.{form_number}
use Rattle.records.specs.Records.{storey_kind}
use Rattle.format.proofs.Held.{storey-held}
use Rattle.reading.specs.Checks.{line_faults, start_of}
use Rattle.reading.proofs.Lines.{then-last}
use Rattle.reading.proofs.survey.File.read_storey.Goals as goal

pub returns-in_err-check_new-clause-fault : goal.returns-in_err-check_new-clause-fault
returns-in_err-check_new-clause-fault c =
    let l = c.line-line.ensures in
    let a = c.args in
    let s = a.self.now in
    let form = form_number s.form in
    let e = c.in_ok-vs.ensures in
    let st = storey-held s.bytes.now (start_of form a.place) c.in_ok-vs.vs form _ (rw (l.file, l.at, l.kind, c.line_start.ensures, c.storey_kind.ensures) at e.values) c.of-storey.ensures in
    let q = then-last (line_faults (storey_kind form) s.bytes.now (start_of form a.place) a.row_free) _ _ (rw (l.file, l.at, l.kind, c.line_start.ensures, c.storey_kind.ensures) at e.fault) (rw st at c.in_err-check_new.ensures) in
    grind (arith, common_steps)

pub returns-clause-fault : goal.returns-clause-fault
returns-clause-fault c =
    let l = c.line-line.ensures in
    let a = c.args in
    let s = a.self.now in
    let form = form_number s.form in
    let e = c.in_ok-vs.ensures in
    let st = storey-held s.bytes.now (start_of form a.place) c.in_ok-vs.vs form _ (rw (l.file, l.at, l.kind, c.line_start.ensures, c.storey_kind.ensures) at e.values) c.of-storey.ensures in
    then-last (line_faults (storey_kind form) s.bytes.now (start_of form a.place) a.row_free) _ _ (rw (l.file, l.at, l.kind, c.line_start.ensures, c.storey_kind.ensures) at e.fault) (rw st at c.in_ok-check_new.ensures)

pub returns-clause-storey : goal.returns-clause-storey
returns-clause-storey c =
    let l = c.line-line.ensures in
    let s = c.args.self.now in
    storey-held s.bytes.now (start_of (form_number s.form) c.args.place) c.in_ok-vs.vs (form_number s.form) _ (rw (l.file, l.at, l.kind, c.line_start.ensures, c.storey_kind.ensures) at c.in_ok-vs.ensures.values) c.of-storey.ensures
