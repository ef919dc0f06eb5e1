use Rattle.std.proofs.Common.{◌≡◌, ap, ◌∙◌, rules, Err, length, true, eqb}
use Rattle.records.specs.Refusals.{fault_of, refusal_number}
use Rattle.records.proofs.Refusals.{number-positive}
use Rattle.records.proofs.Firsts.{first_fault}
use Rattle.checks.specs.Rows.{storey_rows_fault}
use Rattle.checks.proofs.Counts.{counts}
use Rattle.checks.proofs.RowLoops.{uncounted, total-off, header-refused, rows-decide}
use Rattle.checks.proofs.Survey.check.Goals as goal

pub returns-then-self-clause-fault : goal.returns-then-self-clause-fault
returns-then-self-clause-fault c =
    let s = c.args.self.now in
    uncounted s.header s.storeys.now s.members.now c.if-self.true

pub returns-then-not-counts_fit-clause-fault : goal.returns-then-not-counts_fit-clause-fault
returns-then-not-counts_fit-clause-fault c =
    let s = c.args.self.now in
    total-off s.header s.storeys.now s.members.now c.if-self.false c.if-not-counts_fit.ensures

pub returns-in_err-form-clause-fault : goal.returns-in_err-form-clause-fault
returns-in_err-form-clause-fault c =
    let s = c.args.self.now in
    let fit : true ≡ eqb (counts s.storeys.now) (length s.members.now) = cc in
    let r = c.in_err-form.field-0.0 in
    let e : c.from_residual.result ≡ Err r = search rules in
    ap fault_of e ∙ header-refused s.header s.storeys.now s.members.now c.if-self.false fit (refusal_number r) (number-positive r) c.in_err-form.ensures.fault

pub returns-in_err-check_rows-clause-fault : goal.returns-in_err-check_rows-clause-fault
returns-in_err-check_rows-clause-fault c =
    let s = c.args.self.now in
    let fit : true ≡ eqb (counts s.storeys.now) (length s.members.now) = cc in
    let r = c.in_err-check_rows.field-0.0 in
    let e : c.from_residual-in_err-check_rows.result ≡ Err r = search rules in
    let form = ap (λ n. first_fault (storey_rows_fault n s.storeys.now s.members.now) (length s.storeys.now)) c.in_ok-form.ensures.form in
    ap fault_of e ∙ c.in_err-check_rows.ensures ∙ form ∙ rows-decide s.header s.storeys.now s.members.now c.if-self.false fit c.in_ok-form.ensures.fault

pub returns-clause-fault : goal.returns-clause-fault
returns-clause-fault c =
    let s = c.args.self.now in
    let fit : true ≡ eqb (counts s.storeys.now) (length s.members.now) = cc in
    let form = ap (λ n. first_fault (storey_rows_fault n s.storeys.now s.members.now) (length s.storeys.now)) c.in_ok-form.ensures.form in
    c.in_ok-check_rows.ensures ∙ form ∙ rows-decide s.header s.storeys.now s.members.now c.if-self.false fit c.in_ok-form.ensures.fault
