use Rattle.std.proofs.Common.{ap, sym, subst, ◌∙◌, ◌≡◌, arith}
use Rattle.records.specs.Forms.{form_number}
use Rattle.records.specs.Records.{in_case, member_case_fault}
use Rattle.records.proofs.Validity.{valid}
use Rattle.members.specs.Finding.{finding}
use Rattle.checks.proofs.RowLoops.{member-at}
use Rattle.storeys.specs.Tally.{with_member, AddsUp}
use Rattle.storeys.proofs.Rows.{with-good}
use Rattle.storeys.proofs.Loops.{row-good, tally-room, going_next, going-all}
use Rattle.columns.proofs.Written.{part-put, none-left, rest-fits}
use Rattle.report.proofs.Rows.{member-room, members-left, members-end}
use Rattle.report.proofs.printed.StoreyCase.put_members.Goals as goal

pub invariant_of-one : goal.invariant_of-one
invariant_of-one c =
    let s = c.args.self.now in
    let l = c.loop-m in
    let at = c.in_case.ensures ∙ ap (in_case _) (member-at s.good.members.now l.m-index _ c.loop-m-test.true) in
    let g : member_case_fault c.in_case.result ≡ 0 = ap member_case_fault at ∙ row-good (form_number s.good.form) _ (omega arith) s.good.members.now s.good.rows l.m-index c.loop-m-test.true in
    record { good = g; sized = valid c.in_case.result g }

pub put_member_line-requires : goal.put_member_line-requires
put_member_line-requires c =
    let s = c.args.self.now in
    let l = c.loop-m in
    member-room (form_number s.good.form) s.good.level.hundredths c.args.met s.case s.good.members.now l.m-index _ _ l.writer c.loop-m-test.true (rest-fits _ _ _ l.writer c.requires l.invariant.left)

pub loop-m-preserved : goal.loop-m-preserved
loop-m-preserved c =
    let s = c.args.self.now in
    let l = c.loop-m in
    let k = s.good.level.hundredths in
    let form = form_number s.good.form in
    let rows = s.good.members.now in
    let member = member-at rows l.m-index _ c.loop-m-test.true in
    let at = c.in_case.ensures ∙ ap (in_case s.case) member in
    let room = tally-room k c.args.met s.case rows form s.in_form s.good.rows l.tally l.m-index l.invariant.totals c.loop-m-test.true s.good.level.known in
    let added = with-good l.tally k c.args.met c.in_case.result c.find-finding.result (subst (AddsUp l.tally k) (sym at) room) c.find-finding.ensures in
    let f = c.find-finding.ensures ∙ ap (finding k c.args.met) c.in_case.ensures in
    let left = rw (members-left form k c.args.met s.case rows l.m-index _ c.find-finding.result c.loop-m-test.true member f) at l.invariant.left in
    record {
      totals = going_next k c.args.met s.case rows form s.in_form s.good.rows l.tally l.m-index l.invariant.totals c.loop-m-test.true c.with_finding-tally.result
          (c.with_finding-tally.ensures ∙ added ∙ ap (with_member l.tally k c.args.met) at);
      left = part-put _ _ _ _ l.writer _ left c.put_member_line.ensures;
    }

pub returns : goal.returns
returns c =
    let l = c.loop-m in
    let s = c.args.self.now in
    let k = s.good.level.hundredths in
    record {
      tally = going-all k c.args.met s.case s.good.members.now l.tally l.m-index l.invariant.totals c.loop-m-test.false;
      written = none-left _ _ l.writer (rw (members-end (form_number s.good.form) k c.args.met s.case s.good.members.now l.m-index c.loop-m-test.false) at l.invariant.left);
    }
