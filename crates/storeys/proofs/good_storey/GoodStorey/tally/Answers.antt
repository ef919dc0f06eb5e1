use Rattle.std.proofs.Common.{ap, sym, subst, ◌∙◌, ◌≡◌}
use Rattle.records.specs.Forms.{form_number}
use Rattle.records.specs.Records.{in_case, member_case_fault}
use Rattle.records.proofs.Validity.{valid}
use Rattle.checks.proofs.RowLoops.{member-at}
use Rattle.storeys.specs.Tally.{with_member, AddsUp}
use Rattle.storeys.proofs.Rows.{with-good}
use Rattle.storeys.proofs.Loops.{row-good, tally-room, going_next, going-all}
use Rattle.storeys.proofs.good_storey.GoodStorey.tally.Goals as goal

pub invariant_of-one : goal.invariant_of-one
invariant_of-one c =
    let s = c.args.self.now in
    let l = c.loop-m in
    let at = c.in_case.ensures ∙ ap (in_case c.args.c) (member-at s.members.now l.m-index _ c.loop-m-test.true) in
    let g : member_case_fault c.in_case.result ≡ 0 = ap member_case_fault at ∙ row-good (form_number s.form) c.args.c c.requires s.members.now s.rows l.m-index c.loop-m-test.true in
    record { good = g; sized = valid c.in_case.result g }

pub loop-m-preserved : goal.loop-m-preserved
loop-m-preserved c =
    let s = c.args.self.now in
    let l = c.loop-m in
    let k = s.level.hundredths in
    let f = form_number s.form in
    let at = c.in_case.ensures ∙ ap (in_case c.args.c) (member-at s.members.now l.m-index _ c.loop-m-test.true) in
    let room = tally-room k c.args.met c.args.c s.members.now f c.requires s.rows l.tally l.m-index l.invariant c.loop-m-test.true s.level.known in
    let added = with-good l.tally k c.args.met c.in_case.result c.find-finding.result (subst (AddsUp l.tally k) (sym at) room) c.find-finding.ensures in
    going_next k c.args.met c.args.c s.members.now f c.requires s.rows l.tally l.m-index l.invariant c.loop-m-test.true c.with_finding-tally.result
    (c.with_finding-tally.ensures ∙ added ∙ ap (with_member l.tally k c.args.met) at)

pub returns : goal.returns
returns c =
    let l = c.loop-m in
    let s = c.args.self.now in
    going-all s.level.hundredths c.args.met c.args.c s.members.now l.tally l.m-index l.invariant c.loop-m-test.false
