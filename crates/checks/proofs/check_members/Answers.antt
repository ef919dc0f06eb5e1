use Rattle.std.proofs.Common.{◌≡◌, ap, ◌∙◌, rules, Err}
use Rattle.records.specs.Forms.{form_number}
use Rattle.records.specs.Refusals.{fault_of, refusal_number}
use Rattle.records.proofs.Refusals.{number-positive}
use Rattle.records.proofs.Firsts.{first-goes_on, first-none}
use Rattle.checks.specs.Rows.{row_fault}
use Rattle.checks.proofs.RowLoops.{row-is, member-at, members-stop, members-pass}
use Rattle.checks.proofs.check_members.Goals as goal

pub loop-j-init : goal.loop-j-init
loop-j-init c = first-none _ _ _

pub returns-in_err-check_among : goal.returns-in_err-check_among
returns-in_err-check_among c =
    let a = c.args in
    let l = c.loop-j in
    let f = form_number a.form in
    let r = c.in_err-check_among.field-0.0 in
    let e : c.from_residual.result ≡ Err r = search rules in
    let row = row-is f a.rows.now l.j (refusal_number r) _ c.loop-j-test.true (member-at a.rows.now l.j _ c.loop-j-test.true) c.in_err-check_among.ensures in
    ap fault_of e ∙ members-stop f a.rows.now l.j (refusal_number r) l.invariant c.loop-j-test.true row (number-positive r)

pub loop-j-preserved : goal.loop-j-preserved
loop-j-preserved c =
    let a = c.args in
    let l = c.loop-j in
    let f = form_number a.form in
    first-goes_on (row_fault f a.rows.now) l.j l.invariant (row-is f a.rows.now l.j 0 _ c.loop-j-test.true (member-at a.rows.now l.j _ c.loop-j-test.true) c.in_ok-check_among.ensures)

pub returns : goal.returns
returns c =
    let l = c.loop-j in
    members-pass (form_number c.args.form) c.args.rows.now l.j l.invariant l.auto.j-end c.loop-j-test.false
