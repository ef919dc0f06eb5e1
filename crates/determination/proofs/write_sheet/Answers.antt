use Rattle.std.proofs.Common.{◌≡◌, refl, sym, ◌∙◌, rules, Err, Some, None, length}
use Rattle.records.specs.Refusals.{refusal_number}
use Rattle.records.proofs.Refusals.{number-positive}
use Rattle.reading.specs.Survey.{survey}
use Rattle.determination.specs.declared.Refused.{Refused}
use Rattle.determination.specs.Determination.{storey_rows, member_rows}
use Rattle.determination.proofs.Outcomes.{too_long, is-refused, rows-filled, sheet-written, sheet-refused}
use Rattle.determination.proofs.write_sheet.Goals as goal

pub returns-then-input-gt-INPUT_MOST : goal.returns-then-input-gt-INPUT_MOST
returns-then-input-gt-INPUT_MOST c = (refl, rw c.into.ensures (sym (too_long c.args.input.now (length c.args.out.now) c.if-input-gt-INPUT_MOST.true)))

pub returns-in_err-filled : goal.returns-in_err-filled
returns-in_err-filled c =
    let a = c.args in
    let r = c.in_err-filled.field-0.0 in
    let refused : Refused = record { refusal = r.refusal; line = Some r.line } in
    let e : c.from_residual.result ≡ Err refused = search rules in
    rw e (refl, is-refused a.input.now (length a.out.now) c.if-input-gt-INPUT_MOST.false (refusal_number r.refusal) r.line c.in_err-filled.ensures.answer_value)

pub returns-in_err-write_report : goal.returns-in_err-write_report
returns-in_err-write_report c =
    let a = c.args in
    let f = c.in_ok-filled.filled in
    let g = c.in_ok-filled.ensures in
    let r = c.in_err-write_report.field-0.0 in
    let refused : Refused = record { refusal = r; line = None } in
    let e : c.from_residual-in_err-write_report.result ≡ Err refused = search rules in
    let o = rows-filled f.header f.storeys f.members _ _ _ _ (survey a.input.now storey_rows member_rows) g.answer_value g.storeys_after g.members_after in
    let s = sheet-refused a.input.now _ a.out.now c.if-input-gt-INPUT_MOST.false o (refusal_number r) (number-positive r) c.in_err-write_report.ensures.answer in
    rw e (c.in_err-write_report.ensures.out_after ∙ s.0, s.1)

pub returns : goal.returns
returns c =
    let a = c.args in
    let f = c.in_ok-filled.filled in
    let e = c.in_ok-filled.ensures in
    let o = rows-filled f.header f.storeys f.members _ _ _ _ (survey a.input.now storey_rows member_rows) e.answer_value e.storeys_after e.members_after in
    let s = sheet-written a.input.now _ a.out.now c.if-input-gt-INPUT_MOST.false o c.in_ok-write_report.field-0 c.in_ok-write_report.ensures.answer in
    (s.0, c.in_ok-write_report.ensures.out_after ∙ s.1)
