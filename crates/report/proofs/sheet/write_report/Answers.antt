use Rattle.std.proofs.Common.{◌≡◌, ◌<◌, ◌≤◌, ap, sym, ◌∙◌, rules, Err, arith, length}
use Rattle.records.specs.Refusals.{numbered}
use Rattle.records.specs.declared.refusal.Refusal.TheVariants.{SheetTooLong}
use Rattle.checks.specs.Rows.{records_fault}
use Rattle.checks.specs.RowChecks.{records_of}
use Rattle.columns.proofs.Stamps.{stamped-front}
use Rattle.report.specs.Sheet.{sheet, returned_report}
use Rattle.report.proofs.Called.{records-refused, answer-refused, buffer-refused, too-long, no-fault, answer-written, buffer-written}
use Rattle.report.proofs.sheet.write_report.Goals as goal
use Rattle.report.proofs.sheet.write_report.Goals.{In_ok-good}

none : (c : In_ok-good) → 0 ≡ records_fault (records_of c.args.survey.now)
none c = sym (ap (λ s. records_fault (records_of s)) (sym c.in_ok-good.ensures) ∙ c.in_ok-good.good.good)

size : (c : In_ok-good) → length (sheet (records_of c.in_ok-good.good.survey)) ≡ length (sheet (records_of c.args.survey.now))
size c = ap (λ s. length (sheet (records_of s))) c.in_ok-good.ensures

pub returns-in_err-good : goal.returns-in_err-good
returns-in_err-good c =
    let a = records_of c.args.survey.now in
    let r = c.in_err-good.field-0.0 in
    let e : c.from_residual.result ≡ Err r = search rules in
    let fault = records-refused a r (length c.args.out.now) c.in_err-good.ensures in
    let q = ap numbered e ∙ answer-refused a r (length c.args.out.now) fault in
    record {
      answer = q;
      returned = ap returned_report q;
      out_after = buffer-refused a r c.args.out.now fault;
    }

pub returns-then-out-sheet_size : goal.returns-then-out-sheet_size
returns-then-out-sheet_size c =
    let at = (goal.at.returns-then-out-sheet_size c).In_ok-good in
    let a = records_of c.args.survey.now in
    let h : length c.args.out.now < length (sheet a) = omega (arith, size at) in
    let fault = too-long a _ (none at) h in
    let q = answer-refused a SheetTooLong (length c.args.out.now) fault in
    record { answer = q; returned = ap returned_report q; out_after = buffer-refused a SheetTooLong c.args.out.now fault }

pub returns : goal.returns
returns c =
    let at = (goal.at.returns c).In_ok-good in
    let a = records_of c.args.survey.now in
    let h : length (sheet a) ≤ length c.args.out.now = omega (arith, size at) in
    let fault = no-fault a _ (none at) h in
    let n : c.place.result ≡ length (sheet a) = omega (arith, size at) in
    let same = c.put_sheet.ensures.same_bytes ∙ c.new-writer.ensures.same_bytes in
    let e : _ ≡ c.put_sheet.new.writer.bytes.now = search rules in
    let put = rw c.in_ok-good.ensures at c.put_sheet.ensures.bytes in
    let q = answer-written a (length c.args.out.now) c.place.result fault n in
    record {
      answer = q;
      returned = ap returned_report q;
      out_after = e ∙ put ∙ rw (c.new-writer.ensures.bytes, c.new-writer.ensures.at) (stamped-front (sheet a) c.args.out.now h ∙ buffer-written a c.args.out.now fault);
    }
