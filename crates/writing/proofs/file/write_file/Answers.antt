use Rattle.std.proofs.Common.{◌≡◌, ◌≤◌, ◌∙◌, sym, ap, arith, rules, length, Err}
use Rattle.checks.specs.RowChecks.{records_of}
use Rattle.records.proofs.Refusals.{number-positive}
use Rattle.checks.proofs.RowLaws.{storeys-most, members-most}
use Rattle.writing.specs.File.{file_text}
use Rattle.writing.specs.Writing.{returned_file}
use Rattle.writing.proofs.Called.{fault_first, fault-long, fault-none, answer-refused, answer-written, buffer-refused, buffer-written}
use Rattle.writing.proofs.Lengths.{counted-size}
use Rattle.writing.proofs.file.write_file.Goals as goal

pub returns-in_err-form-clause-answer : goal.returns-in_err-form-clause-answer
returns-in_err-form-clause-answer c =
    let s = c.args.survey.now in
    let r = c.in_err-form.field-0.0 in
    let q : c.from_residual.result ≡ Err r = search rules in
    rw q (answer-refused (records_of s) _ _ (number-positive r) (fault_first _ _ r c.in_err-form.ensures.fault))

pub returns-in_err-form-clause-returned : goal.returns-in_err-form-clause-returned
returns-in_err-form-clause-returned c = ap returned_file (returns-in_err-form-clause-answer c)

pub returns-in_err-form-clause-out_after : goal.returns-in_err-form-clause-out_after
returns-in_err-form-clause-out_after c =
    let s = c.args.survey.now in
    let r = c.in_err-form.field-0.0 in
    buffer-refused (records_of s) _ _ (number-positive r) (fault_first _ _ r c.in_err-form.ensures.fault)

pub file_size-size-requires : goal.file_size-size-requires
file_size-size-requires c =
    let s = c.args.survey.now in
    let none = sym c.in_ok-form.ensures.fault in
    (storeys-most s.header s.storeys.now s.members.now none, members-most s.header s.storeys.now s.members.now none)

pub returns-then-out-size-clause-answer : goal.returns-then-out-size-clause-answer
returns-then-out-size-clause-answer c =
    let s = c.args.survey.now in
    let a = records_of s in
    let o = c.in_ok-form.ensures in
    let size = counted-size a o.fault _ _ o.form c.file_size-size.ensures in
    answer-refused a _ _ (omega arith) (fault-long a _ (sym o.fault) (omega (arith, size, c.if-out-size.true)))

pub returns-then-out-size-clause-returned : goal.returns-then-out-size-clause-returned
returns-then-out-size-clause-returned c = ap returned_file (returns-then-out-size-clause-answer c)

pub returns-then-out-size-clause-out_after : goal.returns-then-out-size-clause-out_after
returns-then-out-size-clause-out_after c =
    let s = c.args.survey.now in
    let a = records_of s in
    let o = c.in_ok-form.ensures in
    let size = counted-size a o.fault _ _ o.form c.file_size-size.ensures in
    buffer-refused a _ 11 (omega arith) (fault-long a _ (sym o.fault) (omega (arith, size, c.if-out-size.true)))

pub put_survey-requires : goal.put_survey-requires
put_survey-requires c =
    let s = c.args.survey.now in
    let o = c.in_ok-form.ensures in
    let size = counted-size (records_of s) o.fault _ _ o.form c.file_size-size.ensures in
    let w = c.new-writer.ensures in
    (o.form, omega (arith, size, ap length w.bytes, c.if-out-size.false, w.at))

pub returns-clause-answer : goal.returns-clause-answer
returns-clause-answer c =
    let s = c.args.survey.now in
    let a = records_of s in
    let o = c.in_ok-form.ensures in
    let size = counted-size a o.fault _ _ o.form c.file_size-size.ensures in
    answer-written a _ _ (fault-none a _ (sym o.fault) (omega (arith, size, c.if-out-size.false))) (omega (arith, c.place.ensures, c.put_survey.ensures.at, c.new-writer.ensures.at))

pub returns-clause-returned : goal.returns-clause-returned
returns-clause-returned c = ap returned_file (returns-clause-answer c)

pub returns-clause-out_after : goal.returns-clause-out_after
returns-clause-out_after c =
    let s = c.args.survey.now in
    let a = records_of s in
    let o = c.in_ok-form.ensures in
    let size = counted-size a o.fault _ _ o.form c.file_size-size.ensures in
    let fits : length (file_text a) ≤ length c.args.out.now = omega (arith, size, c.if-out-size.false) in
    let same = c.put_survey.ensures.same_bytes ∙ c.new-writer.ensures.same_bytes in
    let lent : _ ≡ c.put_survey.new.writer.bytes.now = search rules in
    lent ∙ buffer-written a _ (fault-none a _ (sym o.fault) fits) fits _ _ c.new-writer.ensures.bytes c.new-writer.ensures.at c.put_survey.ensures
